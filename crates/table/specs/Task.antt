-- Believed: what a record asks of the machine. Each kind that changes the ledger is a sample and then one operation.
use Rattle.std.specs.Prelude.{ℕ, true, false}
use Rattle.clock.specs.Timer.{bad_setup}
use Rattle.counter.specs.Readings.{cycles_of}
use Rattle.books.specs.declared.Books.{Books}
use Rattle.books.specs.declared.Operation.TheVariants as O
use Rattle.books.specs.Running.{no_thread, past, busy}
use Rattle.trace.specs.declared.Record.{Record}
use Rattle.trace.specs.declared.Record.TheVariants as K
use Rattle.table.specs.declared.tasks.Asked.{Asked}
use Rattle.table.specs.declared.tasks.Task.{Task}
use Rattle.table.specs.declared.tasks.Task.TheVariants as T
use Rattle.table.specs.declared.tasks.Then.TheVariants as W

-- kinds 3 to 7 sample first, with gaps p, q, r
unfoldable pub task_of : Record → Task
task_of (K.Run p) = T.Run p
task_of (K.Sample g) = T.Sample g W.Tell
task_of K.Announce = T.Announce
task_of (K.Start i g) = T.Sample g (W.Operate (O.Start i))
task_of (K.Switch i g) = T.Sample g (W.Operate (O.Switch i))
task_of (K.Stop g) = T.Sample g (W.Operate O.Stop)
task_of (K.Enable i g) = T.Sample g (W.Operate (O.Enable i))
task_of (K.Disable i g) = T.Sample g (W.Operate (O.Disable i))
task_of (K.Report i) = T.Report i
task_of (K.Setup s) = T.Setup s

-- What the table's rows look at: a setup, one with a bad L or tick, a thread past the table, a start while one runs, a sample, and the cycles that it runs.
unfoldable pub asked_by : Books → ℕ → Task → Asked
asked_by b slots (T.Run p) = record { setup = false; bad = false; past = false; busy = false; samples = false; cycles = p }
asked_by b slots (T.Sample g W.Tell) = record { setup = false; bad = false; past = false; busy = false; samples = true; cycles = cycles_of g }
asked_by b slots (T.Sample g (W.Operate op)) = record { setup = false; bad = false; past = past op slots; busy = busy b op; samples = true; cycles = cycles_of g }
asked_by b slots T.Announce = record { setup = false; bad = false; past = false; busy = false; samples = false; cycles = 0 }
asked_by b slots (T.Report i) = record { setup = false; bad = false; past = no_thread slots i; busy = false; samples = false; cycles = 0 }
asked_by b slots (T.Setup s) = record { setup = true; bad = bad_setup s.period s.tick; past = false; busy = false; samples = false; cycles = 0 }
