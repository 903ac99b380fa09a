-- Believed: 01's machine. A record's step is 01's table: its rows in order, what a refusal leaves, and what an accepted record answers and leaves.
use Rattle.std.specs.Prelude.{ℕ, true, false, cond, List, [], ◌∷◌, ◌++◌, length, Result, Ok, Err}
use Rattle.error.specs.InOrder.{Row, in_order}
use Rattle.counter.specs.Cycle.{run_n}
use Rattle.counter.specs.declared.Gaps.{Gaps}
use Rattle.clock.specs.declared.Timer.{Timer}
use Rattle.clock.specs.Timer.{setup}
use Rattle.clock.specs.Sample.{reading_of, sample_value}
use Rattle.clock.specs.Announce.{announcement, announce_of}
use Rattle.usage.specs.declared.ThreadUsage.{ThreadUsage}
use Rattle.books.specs.declared.Operation.{Operation}
use Rattle.books.specs.Running.{stamp_of}
use Rattle.books.specs.Laws.{full}
use Rattle.ledger.specs.declared.Ledgered.{Ledgered}
use Rattle.ledger.specs.declared.ThreadReport.{ThreadReport}
use Rattle.ledger.specs.Operate.{operate_of}
use Rattle.ledger.specs.Records.{fresh_ledger, thread_record, concerned_record, report_value, answer_says}
use Rattle.trace.specs.Decode.{Decoded}
use Rattle.table.specs.declared.Core.{Core}
use Rattle.table.specs.declared.Reason.{Reason}
use Rattle.table.specs.declared.Reason.TheVariants as Why
use Rattle.table.specs.declared.Values.{Values}
use Rattle.table.specs.declared.tasks.Task.{Task}
use Rattle.table.specs.declared.tasks.Task.TheVariants as T
use Rattle.table.specs.declared.tasks.Then.TheVariants as W
use Rattle.table.specs.Task.{task_of, asked_by}
use Rattle.table.specs.Table.{malformed, table, after_touch}
use Rattle.table.specs.Says.{values, sample_tells, announcement_tells}
use Rattle.machine.specs.declared.Machine.{Machine}
use Rattle.machine.specs.declared.Stepped.{Stepped}
use Rattle.clock.specs.declared.Announcement.{Announcement}
use Rattle.error.specs.declared.Refusal.{Refusal}

abbrev pub core_of : Machine → Core
core_of m = record { ready = m.ready; timer = m.timer; books = m.ledger.books }

abbrev pub machine_of : Core → List ThreadUsage → Machine
machine_of c threads = record { ready = c.ready; timer = c.timer; ledger = record { books = c.books; threads = threads } }

abbrev pub slots_of : Machine → ℕ
slots_of m = length m.ledger.threads

-- announce refused: the leaf's
unfoldable pub announce_rows : Result Announcement Refusal → List (Row Reason)
announce_rows (Ok a) = []
announce_rows (Err why) = (true, Why.NotAnnounced why) ∷ []

-- sum or window count won't fit
abbrev pub full_row : Machine → Operation → Gaps → Row Reason
full_row m op g = (full m.ledger.books (concerned_record m.ledger op) (stamp_of (reading_of m.timer g)) op, Why.WontFit)

-- the last two rows of the table
unfoldable pub last_rows : Machine → Task → List (Row Reason)
last_rows m (T.Run p) = []
last_rows m (T.Sample g W.Tell) = []
last_rows m (T.Sample g (W.Operate op)) = full_row m op g ∷ []
last_rows m T.Announce = announce_rows (announce_of m.timer)
last_rows m (T.Report i) = []
last_rows m (T.Setup s) = []

-- the table for one task, and for one record; bytes that are no record meet its first row
abbrev pub task_rows : Machine → Task → List (Row Reason)
task_rows m task = table (core_of m) (asked_by m.ledger.books (slots_of m) task) ++ last_rows m task

unfoldable pub record_rows : Machine → Decoded → List (Row Reason)
record_rows m (Ok r) = task_rows m (task_of r)
record_rows m (Err why) = (true, Why.BadRecord) ∷ []

-- and the malformed state before it
abbrev pub rows_of : Machine → Decoded → List (Row Reason)
rows_of m d = (malformed (core_of m) (slots_of m), Why.Malformed) ∷ record_rows m d

abbrev pub with_timer : Machine → Timer → Machine
with_timer m timer = record { ready = m.ready; timer = timer; ledger = m.ledger }

-- what an accepted record answers, and the machine that it leaves
pub record Done : Type 0 where
  pub values : Values
  pub machine : Machine

abbrev pub answers : Values → Machine → Done
answers told after = record { values = told; machine = after }

-- the ledger's own step at the sample's reading: the cycles that it closes, and the sample's counter and clock beside its ledger
abbrev pub after_operation : Machine → Gaps → Ledgered → Done
after_operation m g l = answers (values (answer_says l.answer).value 0) (record { ready = m.ready; timer = (sample_value m.timer g).timer; ledger = l.ledger })

-- Report: total, average.
abbrev pub report_tells : ThreadReport → Values
report_tells r = values r.total.0 r.average.0

-- Kinds 3 to 7: cycles closed, 0. Run and setup: 0 0.
unfoldable pub done_by : Machine → Task → Done
done_by m (T.Run p) = answers (values 0 0) (with_timer m (record { counter = run_n p m.timer.counter; clock = m.timer.clock }))
done_by m (T.Sample g W.Tell) = answers (sample_tells (sample_value m.timer g)) (with_timer m (sample_value m.timer g).timer)
done_by m (T.Sample g (W.Operate op)) = after_operation m g (operate_of m.ledger (sample_value m.timer g).reading op)
done_by m T.Announce = answers (announcement_tells (announcement m.timer)) (with_timer m (announcement m.timer).timer)
done_by m (T.Report i) = answers (report_tells (report_value (thread_record m.ledger i))) m
done_by m (T.Setup s) = answers (values 0 0) (record { ready = true; timer = setup s.period s.tick; ledger = fresh_ledger (slots_of m) })

-- of bytes that are no record nothing, since none passes the table
unfoldable pub accepted_by : Machine → Decoded → Done
accepted_by m (Ok r) = done_by m (task_of r)
accepted_by m (Err why) = answers (values 0 0) m

abbrev pub stepped_to : Done → Stepped
stepped_to done = record { outcome = Ok done.values; machine = done.machine }

abbrev pub turned_away : Machine → Done → Reason → Stepped
turned_away m done why = record { outcome = Err why; machine = cond (after_touch why) (with_timer m done.machine.timer) m }

-- 01's table: the first row that holds turns the record away, and where none does it is accepted
unfoldable pub step_of : Machine → Decoded → Stepped
step_of m d = in_order (rows_of m d) (turned_away m (accepted_by m d)) (stepped_to (accepted_by m d))

-- a machine that is not set up
abbrev pub fresh_machine : ℕ → Machine
fresh_machine slots = record { ready = false; timer = setup 0 0; ledger = fresh_ledger slots }
