-- Inside: setup and a sample as their contracts cite them, tests in 01's order and then the answer. `EntriesExact` (crates/demands/specs/Entries.antt) writes both out.
use Rattle.std.specs.Prelude.{ℕ, ◌≤◌, List, [], ◌∷◌, ◌≡◌, false, not, Result, Ok, Err}
use Rattle.error.specs.declared.Refusal.{Refusal}
use Rattle.error.specs.declared.Refusal.TheVariants.{Invalid, Again, Overflow}
use Rattle.error.specs.InOrder.{Row, in_order}
use Rattle.counter.specs.Readings.{cycles_above, cycles_of}
use Rattle.counter.specs.Valid.{Valid}
use Rattle.clock.specs.declared.Timer.{Timer}
use Rattle.counter.specs.declared.Gaps.{Gaps}
use Rattle.clock.specs.Timer.{setup, bad_setup, accounted_for, well_formed}
use Rattle.clock.specs.Sample.{sample_value, crowded}
use Rattle.clock.specs.declared.SampleTaken.{SampleTaken}

abbrev pub setup_tests : ℕ → ℕ → List (Row Refusal)
setup_tests period tick = (bad_setup period tick, Invalid) ∷ []

unfoldable pub set_up : ℕ → ℕ → Result Timer Refusal
set_up period tick = in_order (setup_tests period tick) Err (Ok (setup period tick))

abbrev pub gaps : ℕ → ℕ → ℕ → Gaps
gaps p q r = record { p = p; q = q; r = r }

-- In order, before any touch: a malformed state, -22; no room in the overflow, -11; T past 2^64 - 1, -139.
abbrev pub sample_tests : Timer → Gaps → List (Row Refusal)
sample_tests t g = (not (well_formed t), Invalid) ∷ (crowded t, Again) ∷ (cycles_above t.counter (cycles_of g), Overflow) ∷ []

unfoldable pub sample_of : Timer → Gaps → Result SampleTaken Refusal
sample_of t g = in_order (sample_tests t g) Err (Ok (sample_value t g))

-- what the tests make sure of, for the private worker behind them
pub record Ready (t : Timer) (g : Gaps) : Type 0 where
  pub valid : Valid t.counter.period t.counter
  pub behind : accounted_for t ≤ t.counter.cycles.0
  pub room : crowded t ≡ false
  pub fits : cycles_above t.counter (cycles_of g) ≡ false
