-- What the tests let through is accepted: no entry below turns away a task that passed.
use Rattle.std.specs.Prelude.{Result, Ok}
use Prim.Native.Nat.{ℕ}
use mathlib.Core.Path.{◌≡◌, refl, sym}
use mathlib.Core.Bool.{Bool, true, false, not, ◌&&◌, ◌||◌, false≢true}
use Rattle.counter.specs.Cycle.{run_n}
use Rattle.counter.specs.Entries.{ran_of}
use Rattle.counter.proofs.Outcomes.{ran_on, in_range_of}
use Rattle.counter.specs.declared.Gaps.{Gaps}
use Rattle.clock.specs.declared.Timer.{Timer}
use Rattle.clock.specs.declared.Announcement.{Announcement}
use Rattle.clock.specs.Timer.{setup, well_formed}
use Rattle.clock.specs.Entries.{set_up, sample_of}
use Rattle.clock.specs.Sample.{sample_value}
use Rattle.clock.specs.Announce.{announcement, announce_of}
use Rattle.error.proofs.Tests.{clash}
use Rattle.trace.specs.declared.Setup.{Setup}
use Rattle.clock.proofs.Outcomes.{formed_valid, set_up_lem, sampled}
use Rattle.clock.proofs.Steps.{announced_by}
use Rattle.books.specs.Running.{unrecorded}
use Rattle.table.specs.declared.Core.{Core}
use Rattle.table.specs.declared.tasks.Task.{Task}
use Rattle.table.specs.declared.tasks.Task.TheVariants as T
use Rattle.table.specs.declared.tasks.Then.TheVariants as W
use Rattle.table.specs.Task.{asked_by}
use Rattle.table.specs.Table.{malformed}
use Rattle.machine.proofs.Passed.{Passed}
use Rattle.error.specs.declared.Refusal.{Refusal}

abbrev pub Runs : Core → ℕ → Type 0
Runs c p = ran_of c.timer.counter p ≡ Ok (run_n p c.timer.counter)

abbrev pub Samples : Core → Gaps → Type 0
Samples c g = sample_of c.timer g ≡ Ok (sample_value c.timer g)

abbrev pub SetsUp : Setup → Type 0
SetsUp s = set_up s.period s.tick ≡ Ok (setup s.period s.tick)

unfoldable pub Accepts : Core → Task → Type 0
Accepts c (T.Run p) = Runs c p
Accepts c (T.Sample g then) = Samples c g
Accepts c T.Announce = Unit {0}
Accepts c (T.Report i) = Unit {0}
Accepts c (T.Setup s) = SetsUp s

-- a task that is no setup passed on a machine that is set up; not malformed, its timer is well formed and its running thread has a record
neither : (ready formed lost : Bool) → not ready && true ≡ false → ready && (not formed || lost) ≡ false → (formed ≡ true) × (lost ≡ false)
neither true true true known whole = absurd (false≢true (sym whole))
neither true true false known whole = (refl, refl)
neither true false lost known whole = absurd (false≢true (sym whole))
neither false formed lost known whole = absurd (false≢true (sym known))

module _ (c : Core) (slots : ℕ) (known : not c.ready && true ≡ false) (whole : malformed c slots ≡ false) where
  pub formed_of : well_formed c.timer ≡ true
  unfolding malformed
  formed_of = (neither c.ready _ _ known whole).0

  pub recorded_of : unrecorded c.books slots ≡ false
  unfolding malformed
  recorded_of = (neither c.ready (well_formed c.timer) _ known whole).1

-- an accepted announcement is the leaf's
pub announcement_is : (t : Timer) (a : Announcement) → announce_of t ≡ Ok a → a ≡ announcement t
announcement_is t a = announced_by t (λ (o : Result Announcement Refusal). o ≡ Ok a → a ≡ announcement t) (λ why e. clash (cc)) (λ let_through e. cc)

module _ (c : Core) (slots : ℕ) (whole : malformed c slots ≡ false) where
  pub let_through : (task : Task) → Passed c (asked_by c.books slots task) → Accepts c task
  unfolding Accepts asked_by
  let_through (T.Run n) p =
      ran_on c.timer.counter n
      (in_range_of c.timer.counter (formed_valid c.timer (formed_of c slots p.known whole)))
      p.fits
  let_through (T.Sample g W.Tell) p = sampled c.timer g (formed_of c slots p.known whole) p.room p.fits
  let_through (T.Sample g (W.Operate op)) p = sampled c.timer g (formed_of c slots p.known whole) p.room p.fits
  let_through T.Announce p = tt
  let_through (T.Report i) p = tt
  let_through (T.Setup s) p = set_up_lem s.period s.tick p.good
