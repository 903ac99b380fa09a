-- Believed: 01's table of refusals. Each row's number and what it leaves, the malformed state, and in order the rows that are tested before the counter is touched; the last two are in crate machine.
use Rattle.std.specs.Prelude.{ℕ, Bool, true, false, not, ◌&&◌, ◌||◌, List, [], ◌∷◌}
use Rattle.error.specs.declared.Refusal.{Refusal}
use Rattle.error.specs.declared.Refusal.TheVariants.{Missing, BadThread, Again, Invalid, Already, Overflow}
use Rattle.error.specs.InOrder.{Row}
use Rattle.counter.specs.Readings.{cycles_above}
use Rattle.clock.specs.Timer.{well_formed}
use Rattle.clock.specs.Sample.{crowded}
use Rattle.books.specs.Running.{unrecorded}
use Rattle.table.specs.declared.Core.{Core}
use Rattle.table.specs.declared.Reason.{Reason}
use Rattle.table.specs.declared.Reason.TheVariants as Why
use Rattle.table.specs.declared.tasks.Asked.{Asked}

-- each row's number, and whether it comes after the touch: then the sample is kept and the ledger is as it was; every other refusal leaves all
unfoldable pub columns : Reason → Refusal × Bool
columns Why.Malformed = (Invalid, false)
columns Why.BadRecord = (Invalid, false)
columns Why.NotSetUp = (Missing, false)
columns Why.SecondSetup = (Already, false)
columns Why.NoThread = (BadThread, false)
columns Why.Running = (Already, false)
columns Why.AnnounceFirst = (Again, false)
columns Why.CyclesAbove = (Overflow, false)
columns (Why.NotAnnounced leafs) = (leafs, false)
columns Why.WontFit = (Overflow, true)

abbrev pub refusal_of : Reason → Refusal
refusal_of why = (columns why).0

abbrev pub after_touch : Reason → Bool
after_touch why = (columns why).1

-- A state that is set up with L, tick or v out of range, a running thread without a record, or more accounted for than T.
unfoldable pub malformed : Core → ℕ → Bool
malformed c slots = c.ready && (not (well_formed c.timer) || unrecorded c.books slots)

abbrev pub table : Core → Asked → List (Row Reason)
table c asked =
    (asked.bad, Why.BadRecord) ∷
    (not c.ready && not asked.setup, Why.NotSetUp) ∷
    (c.ready && asked.setup, Why.SecondSetup) ∷
    (asked.past, Why.NoThread) ∷
    (asked.busy, Why.Running) ∷
    (asked.samples && crowded c.timer, Why.AnnounceFirst) ∷
    (cycles_above c.timer.counter asked.cycles, Why.CyclesAbove) ∷
    []
