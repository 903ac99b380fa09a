-- Inside: the timer's leaves as their contracts cite them, tests in 01's order and then the answer. `LeavesExact` (crates/demands/specs/Leaves.antt) writes each out.
use Rattle.std.specs.Prelude.{ℕ, ◌+◌, ◌-◌, ◌*◌, ◌/◌, Bool, cond, List, [], ◌∷◌, ltb, leb, eqb, Result, Ok, Err}
use Rattle.error.specs.declared.Refusal.{Refusal}
use Rattle.error.specs.declared.Refusal.TheVariants.{Invalid, Overflow}
use Rattle.error.specs.Numbers.{max32, max64}
use Rattle.error.specs.InOrder.{Row, in_order}
use Rattle.units.specs.declared.Cycles.{Cycles}
use Rattle.units.specs.declared.Ticks.{Ticks}
use Rattle.systick.specs.Decisions.{announce_tests, announce_value, elapsed_value}
use Rattle.systick.specs.declared.AnnounceDecideResult.{AnnounceDecideResult}
use Rattle.systick.specs.declared.ElapsedDecideResult.{ElapsedDecideResult}

-- Timer difference: last - current if last >= current, else last + load - current.
abbrev pub difference : ℕ → ℕ → ℕ → ℕ
difference last current load = cond (leb current last) (last - current) (last + load - current)

-- Either value above load: -22.
abbrev pub elapsed_tests : ℕ → ℕ → ℕ → List (Row Refusal)
elapsed_tests last current load = (ltb load last, Invalid) ∷ (ltb load current, Invalid) ∷ []

unfoldable pub elapsed_cycles : ℕ → ℕ → ℕ → Result ℕ Refusal
elapsed_cycles last current load =
    in_order (elapsed_tests last current load) Err (Ok (difference last current load))

-- Tick 0: -22.
abbrev pub tick_tests : ℕ → List (Row Refusal)
tick_tests tick = (eqb tick 0, Invalid) ∷ []

-- Cycles to ticks: quotient.
unfoldable pub cycles_to_ticks : Cycles → ℕ → Result Ticks Refusal
cycles_to_ticks cycles tick =
    in_order (tick_tests tick) Err (Ok (record { 0 = cycles.0 / tick }))

-- Ticks to cycles: product, 0 for tick 0; -139 exactly when the product passes 2^64 - 1.
abbrev pub product_tests : Ticks → ℕ → List (Row Refusal)
product_tests ticks tick = (ltb max64 (ticks.0 * tick), Overflow) ∷ []

unfoldable pub ticks_to_cycles : Ticks → ℕ → Result Cycles Refusal
ticks_to_cycles ticks tick =
    in_order (product_tests ticks tick) Err (Ok (record { 0 = ticks.0 * tick }))

-- The register's largest value; q, the whole ticks within it; 0 if q = 0, else q - 1.
abbrev pub max_load : ℕ
max_load = 16777215

abbrev pub most_ticks : ℕ → ℕ
most_ticks tick = cond (eqb (max_load / tick) 0) 0 (max_load / tick - 1)

unfoldable pub max_ticks : ℕ → Result Ticks Refusal
max_ticks tick = in_order (tick_tests tick) Err (Ok (record { 0 = most_ticks tick }))

-- In order: val2 > load, -22; load - val2 + overflow + load above 2^32 - 1, -139, wrap or not.
abbrev pub decide_tests : ℕ → ℕ → ℕ → List (Row Refusal)
decide_tests val2 load overflow =
    (ltb load val2, Invalid) ∷ (ltb max32 (load - val2 + overflow + load), Overflow) ∷ []

unfoldable pub elapsed_decide : ℕ → ℕ → Bool → ℕ → ℕ → Result ElapsedDecideResult Refusal
elapsed_decide val1 val2 flag load overflow =
    in_order (decide_tests val2 load overflow) Err (Ok (elapsed_value val1 val2 flag load overflow))

unfoldable pub announce_decide : Cycles → Cycles → ℕ → ℕ → Result AnnounceDecideResult Refusal
announce_decide count announced overflow tick =
    in_order (announce_tests count announced overflow tick) Err
    (Ok (announce_value count announced overflow tick))
