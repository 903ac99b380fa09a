-- What an entry answers, by its tests: what holds of every refusal, and of the answer that the tests let through, holds of the outcome.
use Rattle.std.specs.Prelude.{Result, Ok, Err}
use Prim.Native.Nat.{ℕ, ◌+◌, ◌-◌, ◌*◌, ◌≤◌}
use mathlib.Core.Path.{◌≡◌}
use mathlib.Core.Bool.{true}
use borrow.Author.Tests.{ltb-false, not-false}
use Rattle.error.specs.declared.Refusal.{Refusal}
use Rattle.error.specs.Numbers.{max32, max64}
use Rattle.error.proofs.Ordered.{by_outcome}
use Rattle.counter.specs.declared.Counter.{Counter}
use Rattle.counter.specs.Cycle.{run_n}
use Rattle.counter.specs.Entries.{ran_of, run_tests}
use Rattle.counter.specs.Readings.{in_range, cycles_of}
use Rattle.clock.specs.declared.Timer.{Timer}
use Rattle.counter.specs.declared.Gaps.{Gaps}
use Rattle.clock.specs.Timer.{well_formed}
use Rattle.clock.specs.Sample.{sample_value}
use Rattle.clock.specs.Entries.{sample_of, sample_tests}
use Rattle.clock.specs.Announce.{announce_of, announcement, announcement_tests}
use Rattle.clock.specs.declared.Announcement.{Announcement}
use Rattle.clock.specs.declared.SampleTaken.{SampleTaken}

pub ran_by : (c : Counter) (n : ℕ) (P : Result Counter Refusal → Type 0) → ((why : Refusal) → P (Err why)) → (in_range c ≡ true → c.cycles.0 + n ≤ max64 → P (Ok (run_n n c))) → P (ran_of c n)
unfolding ran_of
ran_by c n P refused f =
    by_outcome Err (Ok (run_n n c)) P (run_tests c n) refused
    (λ none. f (not-false _ none.0) (ltb-false _ _ none.1.0))

-- a sample that the tests let through
pub record SampleLet (t : Timer) (g : Gaps) : Type 0 where
  pub formed : well_formed t ≡ true
  pub room : t.clock.overflow + 2 * t.counter.period - 1 ≤ max32
  pub fits : t.counter.cycles.0 + cycles_of g ≤ max64

pub sampled_by : (t : Timer) (g : Gaps) (P : Result SampleTaken Refusal → Type 0) → ((why : Refusal) → P (Err why)) → (SampleLet t g → P (Ok (sample_value t g))) → P (sample_of t g)
unfolding sample_of
sampled_by t g P refused f =
    by_outcome Err (Ok (sample_value t g)) P (sample_tests t g) refused
    (λ none. f (record { formed = not-false _ none.0; room = ltb-false _ _ none.1.0; fits = ltb-false _ _ none.1.1.0 }))

-- an announcement that the tests let through, the leaf's own among them
pub record AnnounceLet (t : Timer) : Type 0 where
  pub formed : well_formed t ≡ true
  pub order : t.clock.announced.0 ≤ t.clock.count.0 + t.clock.overflow

pub announced_by : (t : Timer) (P : Result Announcement Refusal → Type 0) → ((why : Refusal) → P (Err why)) → (AnnounceLet t → P (Ok (announcement t))) → P (announce_of t)
unfolding announce_of
announced_by t P refused f =
    by_outcome Err (Ok (announcement t)) P (announcement_tests t) refused
    (λ none. f (record { formed = not-false _ none.0; order = ltb-false _ _ none.1.1.1.0 }))
