-- Believed: what a change comes to, made to a machine: what is answered, and the machine that is left. Of a change that a record makes this is 01's step (`TermsGiven .step_is_made`).
use Rattle.std.specs.Prelude.{true, Result, Ok, Err, ℕ}
use Rattle.clock.specs.declared.Timer.{Timer}
use Rattle.ledger.specs.declared.Ledgered.{Ledgered}
use Rattle.ledger.specs.Operate.{operate_of, report_of}
use Rattle.ledger.specs.Records.{fresh_ledger}
use Rattle.table.specs.declared.Reason.{Reason}
use Rattle.table.specs.declared.Reason.TheVariants as Why
use Rattle.table.specs.Says.{Outcome}
use Rattle.table.specs.declared.changes.Change.{Change}
use Rattle.table.specs.declared.changes.Change.TheVariants as X
use Rattle.table.specs.Says.{values}
use Rattle.machine.specs.declared.Machine.{Machine}
use Rattle.machine.specs.declared.Stepped.{Stepped}
use Rattle.machine.specs.Step.{answers, report_tells, stepped_to, with_timer, slots_of}
use Rattle.error.specs.declared.Refusal.{Refusal}
use Rattle.ledger.specs.declared.ThreadReport.{ThreadReport}

abbrev pub turned : Machine → Reason → Stepped
turned m why = record { outcome = Err why; machine = m }

-- the ledger refuses only a sum or a count of windows, since the table was tested before
unfoldable pub operation_tells : Result ℕ Refusal → Outcome
operation_tells (Ok cycles) = Ok (values cycles 0)
operation_tells (Err why) = Err Why.WontFit

abbrev pub entered_by : Machine → Timer → Ledgered → Stepped
entered_by m timer l = record { outcome = operation_tells l.answer; machine = record { ready = m.ready; timer = timer; ledger = l.ledger } }

unfoldable pub reported_by : Machine → Result ThreadReport Refusal → Stepped
reported_by m (Ok report) = stepped_to (answers (report_tells report) m)
reported_by m (Err why) = turned m Why.Malformed

unfoldable pub made_of : Machine → Result Change Reason → Stepped
made_of m (Err why) = turned m why
made_of m (Ok (X.Ran counter)) = stepped_to (answers (values 0 0) (with_timer m (record { counter = counter; clock = m.timer.clock })))
made_of m (Ok (X.Told timer values)) = record { outcome = Ok values; machine = with_timer m timer }
made_of m (Ok (X.Enter timer op reading)) = entered_by m timer (operate_of m.ledger reading op)
made_of m (Ok (X.Report i)) = reported_by m (report_of m.ledger i)
made_of m (Ok (X.Fresh timer)) = stepped_to (answers (values 0 0) (record { ready = true; timer = timer; ledger = fresh_ledger (slots_of m) }))
