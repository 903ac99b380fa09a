-- Believed: 01's two decisions. What a sample's wrap, overflow and elapsed are; what an announcement gives, and when it is refused.
use Rattle.std.specs.Prelude.{ℕ, ◌+◌, ◌-◌, ◌*◌, ◌/◌, Bool, cond, ◌||◌, List, [], ◌∷◌, ltb, eqb}
use Rattle.error.specs.declared.Refusal.{Refusal}
use Rattle.error.specs.declared.Refusal.TheVariants.{Invalid, Overflow}
use Rattle.error.specs.Numbers.{max32, max64}
use Rattle.error.specs.InOrder.{Row}
use Rattle.units.specs.declared.Cycles.{Cycles}
use Rattle.systick.specs.declared.ElapsedDecideResult.{ElapsedDecideResult}
use Rattle.systick.specs.declared.AnnounceDecideResult.{AnnounceDecideResult}

-- wrap = flag or val1 < val2; new overflow = overflow, plus load on a wrap; elapsed = load - val2 + new overflow.
abbrev pub elapsed_value : ℕ → ℕ → Bool → ℕ → ℕ → ElapsedDecideResult
elapsed_value val1 val2 flag load overflow =
    let wrap = flag || ltb val1 val2 in
    let new-overflow = cond wrap (overflow + load) overflow in
    record { wrap_detected = wrap; new_overflow_cyc = new-overflow; elapsed = load - val2 + new-overflow }

-- dticks = (new count - announced) / tick rounded down, where new count = count + overflow.
abbrev pub dticks_of : Cycles → Cycles → ℕ → ℕ → ℕ
dticks_of count announced overflow tick = (count.0 + overflow - announced.0) / tick

-- new announced = announced + dticks x tick.
abbrev pub announce_value : Cycles → Cycles → ℕ → ℕ → AnnounceDecideResult
announce_value count announced overflow tick = record {
  dticks = record { 0 = dticks_of count announced overflow tick };
  new_cycle_count = record { 0 = count.0 + overflow };
  new_announced_cycles = record { 0 = announced.0 + dticks_of count announced overflow tick * tick };
}

-- In order: tick 0, -22; new count above 2^64 - 1, -139; announced above new count, -22; dticks above 2^32 - 1, -139.
abbrev pub announce_tests : Cycles → Cycles → ℕ → ℕ → List (Row Refusal)
announce_tests count announced overflow tick =
    (eqb tick 0, Invalid) ∷
    (ltb max64 (count.0 + overflow), Overflow) ∷
    (ltb (count.0 + overflow) announced.0, Invalid) ∷
    (ltb max32 (dticks_of count announced overflow tick), Overflow) ∷
    []
