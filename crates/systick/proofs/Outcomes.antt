-- Each outcome of each timer leaf, from the facts that bring it about.
use Rattle.std.specs.Prelude.{Ok, Err}
use mathlib.Core.Path.{◌≡◌, ap}
use mathlib.Core.Bool.{Bool}
use Prim.Native.Nat.{ℕ, ◌+◌, ◌-◌, ◌*◌, ◌/◌, ◌≤◌, ◌<◌}
use native.Mathlib.Nat.{mul-zero}
use native.Mathlib.Omega.{arith}
use borrow.Author.Tests.{eq-eqb, ne_eqb, lt-ltb, le-ltb, le-leb, lt-leb}
use Rattle.error.specs.declared.Refusal.TheVariants.{Invalid, Overflow}
use Rattle.error.specs.Numbers.{max32, max64}
use Rattle.units.specs.declared.Cycles.{Cycles}
use Rattle.units.specs.declared.Ticks.{Ticks}
use Rattle.systick.specs.Leaves.{elapsed_cycles, difference, cycles_to_ticks, ticks_to_cycles, max_ticks, most_ticks, elapsed_decide, announce_decide}
use Rattle.systick.specs.Decisions.{elapsed_value, announce_value, dticks_of}

positive : {n : ℕ} → 0 < n → n ≡ 0 → ⊥
positive p e = omega arith

module _ (last current load : ℕ) where
  pub last_above : load < last → elapsed_cycles last current load ≡ Err Invalid
  unfolding elapsed_cycles
  last_above h = simp (lt-ltb _ _ h)

  pub current_above : last ≤ load → load < current → elapsed_cycles last current load ≡ Err Invalid
  unfolding elapsed_cycles
  current_above a h = simp (le-ltb _ _ a, lt-ltb _ _ h)

  pub difference_given : last ≤ load → current ≤ load → elapsed_cycles last current load ≡ Ok (difference last current load)
  unfolding elapsed_cycles
  difference_given a b = simp (le-ltb _ _ a, le-ltb _ _ b)

  pub counted_down : last ≤ load → current ≤ last → elapsed_cycles last current load ≡ Ok (last - current)
  unfolding elapsed_cycles
  counted_down a h = simp (le-ltb _ _ a, le-ltb load current (omega arith), le-leb _ _ h)

  pub wrapped : current ≤ load → last < current → elapsed_cycles last current load ≡ Ok (last + (load - current))
  unfolding elapsed_cycles
  wrapped b h = simp (le-ltb load last (omega arith), le-ltb _ _ b, lt-leb _ _ h) (ap Ok (omega arith))

module _ (cycles : Cycles) (tick : ℕ) where
  pub ticks_no_tick : tick ≡ 0 → cycles_to_ticks cycles tick ≡ Err Invalid
  unfolding cycles_to_ticks
  ticks_no_tick h = simp (eq-eqb _ _ h)

  pub ticks_given : 0 < tick → cycles_to_ticks cycles tick ≡ Ok (record { 0 = cycles.0 / tick })
  unfolding cycles_to_ticks
  ticks_given h = simp (ne_eqb tick 0 (positive h))

module _ (ticks : Ticks) (tick : ℕ) where
  pub cycles_of_nothing : tick ≡ 0 → ticks_to_cycles ticks tick ≡ Ok (record { 0 = 0 })
  unfolding ticks_to_cycles
  cycles_of_nothing h = simp (h, mul-zero)

  pub cycles_given : ticks.0 * tick ≤ max64 → ticks_to_cycles ticks tick ≡ Ok (record { 0 = ticks.0 * tick })
  unfolding ticks_to_cycles
  cycles_given h = simp (le-ltb _ _ h)

  pub product_above : max64 < ticks.0 * tick → ticks_to_cycles ticks tick ≡ Err Overflow
  unfolding ticks_to_cycles
  product_above h = simp (lt-ltb _ _ h)

module _ (tick : ℕ) where
  pub most_no_tick : tick ≡ 0 → max_ticks tick ≡ Err Invalid
  unfolding max_ticks
  most_no_tick h = simp (eq-eqb _ _ h)

  pub most_ticks_given : 0 < tick → max_ticks tick ≡ Ok (record { 0 = most_ticks tick })
  unfolding max_ticks
  most_ticks_given p = simp (ne_eqb tick 0 (positive p))

module _ (val1 val2 : ℕ) (flag : Bool) (load overflow : ℕ) where
  pub no_room : val2 ≤ load → max32 < load - val2 + overflow + load → elapsed_decide val1 val2 flag load overflow ≡ Err Overflow
  unfolding elapsed_decide
  no_room a h = simp (le-ltb _ _ a, lt-ltb _ _ h)

  pub decided : val2 ≤ load → load - val2 + overflow + load ≤ max32 → elapsed_decide val1 val2 flag load overflow ≡ Ok (elapsed_value val1 val2 flag load overflow)
  unfolding elapsed_decide
  decided a h = simp (le-ltb _ _ a, le-ltb _ _ h)

module _ (count announced : Cycles) (overflow tick : ℕ) where
  pub announce_no_tick : tick ≡ 0 → announce_decide count announced overflow tick ≡ Err Invalid
  unfolding announce_decide
  announce_no_tick h = simp (eq-eqb _ _ h)

  pub count_above : 0 < tick → max64 < count.0 + overflow → announce_decide count announced overflow tick ≡ Err Overflow
  unfolding announce_decide
  count_above p h = simp (ne_eqb tick 0 (positive p), lt-ltb _ _ h)

  module _ (p : 0 < tick) (fits : count.0 + overflow ≤ max64) where
    pub announced_above : count.0 + overflow < announced.0 → announce_decide count announced overflow tick ≡ Err Invalid
    unfolding announce_decide
    announced_above h = simp (ne_eqb tick 0 (positive p), le-ltb _ _ fits, lt-ltb _ _ h)

    pub dticks_above : announced.0 ≤ count.0 + overflow → max32 < dticks_of count announced overflow tick → announce_decide count announced overflow tick ≡ Err Overflow
    unfolding announce_decide
    dticks_above a h = simp (ne_eqb tick 0 (positive p), le-ltb _ _ fits, le-ltb _ _ a, lt-ltb _ _ h)

    pub announced_now : announced.0 ≤ count.0 + overflow → dticks_of count announced overflow tick ≤ max32 → announce_decide count announced overflow tick ≡ Ok (announce_value count announced overflow tick)
    unfolding announce_decide
    announced_now a h = simp (ne_eqb tick 0 (positive p), le-ltb _ _ fits, le-ltb _ _ a, le-ltb _ _ h)
