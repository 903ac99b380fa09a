-- Inside: what a record changes, as the code works it out. `ChangesExact` (crates/demands/specs/Changes.antt) says what it comes to; that the change, made, is 01's step is `step_made` (crates/machine/proofs/Tying.antt).
use Rattle.std.specs.Prelude.{ℕ, Bool, cond, Result, Ok, Err}
use Rattle.error.specs.InOrder.{in_order}
use Rattle.counter.specs.Entries.{ran_of}
use Rattle.clock.specs.declared.SampleTaken.{SampleTaken}
use Rattle.clock.specs.Entries.{set_up, sample_of}
use Rattle.clock.specs.Announce.{announce_of}
use Rattle.trace.specs.Decode.{Decoded}
use Rattle.table.specs.declared.Core.{Core}
use Rattle.table.specs.declared.Reason.{Reason}
use Rattle.table.specs.declared.Reason.TheVariants as Why
use Rattle.table.specs.declared.tasks.Task.{Task}
use Rattle.table.specs.declared.tasks.Task.TheVariants as T
use Rattle.table.specs.declared.tasks.Then.{Then}
use Rattle.table.specs.declared.tasks.Then.TheVariants as W
use Rattle.table.specs.declared.changes.Change.{Change}
use Rattle.table.specs.declared.changes.Change.TheVariants as X
use Rattle.table.specs.declared.tasks.Asked.{Asked}
use Rattle.table.specs.Task.{task_of, asked_by}
use Rattle.table.specs.Table.{table}
use Rattle.table.specs.Says.{sample_tells, announcement_tells}
use Rattle.clock.specs.declared.Announcement.{Announcement}
use Rattle.counter.specs.declared.Counter.{Counter}
use Rattle.error.specs.declared.Refusal.{Refusal}
use Rattle.clock.specs.declared.Timer.{Timer}

-- a run or a sample that the table let through is turned away only in a malformed state
unfoldable pub ran_change : Result Counter Refusal → Result Change Reason
ran_change (Ok counter) = Ok (X.Ran counter)
ran_change (Err why) = Err Why.Malformed

-- A sample is told. Kinds 3 to 7 go on at its reading.
abbrev pub then_change : Then → SampleTaken → Result Change Reason
then_change W.Tell taken = Ok (X.Told taken.timer (sample_tells taken))
then_change (W.Operate op) taken = Ok (X.Enter taken.timer op taken.reading)

unfoldable pub sampled_change : Then → Result SampleTaken Refusal → Result Change Reason
sampled_change then (Ok taken) = then_change then taken
sampled_change then (Err why) = Err Why.Malformed

-- What the leaf refuses changes nothing.
unfoldable pub announced_change : Result Announcement Refusal → Result Change Reason
announced_change (Ok a) = Ok (X.Told a.timer (announcement_tells a))
announced_change (Err why) = Err (Why.NotAnnounced why)

unfoldable pub set_up_change : Result Timer Refusal → Result Change Reason
set_up_change (Ok timer) = Ok (X.Fresh timer)
set_up_change (Err why) = Err Why.BadRecord

unfoldable pub effect_change : Core → Task → Result Change Reason
effect_change c (T.Run p) = ran_change (ran_of c.timer.counter p)
effect_change c (T.Sample g then) = sampled_change then (sample_of c.timer g)
effect_change c T.Announce = announced_change (announce_of c.timer)
effect_change c (T.Report i) = Ok (X.Report i)
effect_change c (T.Setup s) = set_up_change (set_up s.period s.tick)

-- 01's table, and then the effect
unfoldable pub task_change : Core → ℕ → Task → Result Change Reason
task_change c slots task = in_order (table c (asked_by c.books slots task)) Err (effect_change c task)

unfoldable pub record_change : Core → ℕ → Decoded → Result Change Reason
record_change c slots (Ok r) = task_change c slots (task_of r)
record_change c slots (Err why) = Err Why.BadRecord

-- a malformed state turns every record away
unfoldable pub change_of : Bool → Core → ℕ → Decoded → Result Change Reason
change_of broken c slots d = cond broken (Err Why.Malformed) (record_change c slots d)

unfoldable pub tested_of : Core → Asked → Result (Unit {0}) Reason
tested_of c asked = in_order (table c asked) Err (Ok tt)
