-- Believed: what the other public functions give: each a definition that is believed, or one that another statement of the demands says all of.
use Rattle.std.specs.Prelude.{ℕ, ◌+◌, ◌≡◌, List, Result}
use Rattle.counter.specs.Cycle.{cleared}
use Rattle.counter.specs.Readings.{good_period, in_range, cycles_above}
use Rattle.counter.proofs.good_period.Reads as counter-good-period
use Rattle.counter.proofs.Counter.in_range.Reads as counter-Counter-in-range
use Rattle.counter.proofs.Counter.cycles_above.Reads as counter-Counter-cycles-above
use Rattle.counter.proofs.Counter.cleared.Reads as counter-Counter-cleared
use Rattle.clock.specs.Timer.{bad_setup, well_formed}
use Rattle.clock.specs.Sample.{crowded}
use Rattle.counter.proofs.Gaps.whole.Reads as counter-Gaps-whole
use Rattle.clock.proofs.bad_setup.Reads as clock-bad-setup
use Rattle.clock.proofs.well_formed.Reads as clock-well-formed
use Rattle.clock.proofs.crowded.Reads as clock-crowded
use Rattle.books.specs.Running.{nothing_booked, no_thread, unrecorded, past, busy, concerned}
use Rattle.books.specs.Enter.{entry_of}
use Rattle.books.proofs.nothing_booked.Reads as books-nothing-booked
use Rattle.books.proofs.no_thread.Reads as books-no-thread
use Rattle.books.proofs.unrecorded.Reads as books-unrecorded
use Rattle.books.proofs.past.Reads as books-past
use Rattle.books.proofs.busy.Reads as books-busy
use Rattle.books.proofs.concerned.Reads as books-concerned
use Rattle.books.proofs.enter.Reads as books-enter
use Rattle.ledger.specs.Records.{fresh_ledger, report_value}
use Rattle.ledger.specs.Operate.{ledger_of, operate_of, report_of}
use Rattle.ledger.proofs.operate.Reads as ledger-operate
use Rattle.ledger.proofs.operate_on.Reads as ledger-operate-on
use Rattle.ledger.proofs.report_from.Reads as ledger-report-from
use Rattle.ledger.proofs.ThreadReport.of.Reads as ledger-ThreadReport-of
use Rattle.ledger.proofs.fresh.Reads as ledger-fresh
use Rattle.trace.specs.Decode.{Decoded, decode_of}
use Rattle.trace.specs.Handing.{records_left, bytes_left, item_at, place_after}
use Rattle.trace.proofs.decode.Reads as trace-decode
use Rattle.trace.proofs.reader.records_from.Reads as trace-records-from
use Rattle.trace.proofs.reader.bytes_from.Reads as trace-bytes-from
use Rattle.trace.proofs.reader.item_at.Reads as trace-item-at
use Rattle.trace.proofs.reader.place_after.Reads as trace-place-after
use Rattle.table.specs.Table.{malformed}
use Rattle.table.proofs.malformed.Reads as table-malformed
use Rattle.table.specs.Change.{change_of}
use Rattle.machine.specs.declared.Machine.{Machine}
use Rattle.machine.specs.Step.{core_of, machine_of, slots_of, report_tells, step_of, fresh_machine}
use Rattle.machine.specs.Making.{made_of}
use Rattle.machine.proofs.Machine.core.Reads as machine-Machine-core
use Rattle.machine.proofs.Machine.of.Reads as machine-Machine-of
use Rattle.machine.proofs.make.Reads as machine-make
use Rattle.machine.proofs.report_values.Reads as machine-report-values
use Rattle.machine.proofs.step.Reads as machine-step
use Rattle.machine.proofs.fresh.Reads as machine-fresh
use Rattle.std.specs.Borrow.{MutBor}
use Rattle.units.specs.declared.Cycles.{Cycles}
use Rattle.usage.specs.declared.ThreadUsage.{ThreadUsage}
use Rattle.books.specs.declared.Books.{Books}
use Rattle.books.specs.declared.Operation.{Operation}
use Rattle.table.specs.declared.Core.{Core}
use Rattle.table.specs.declared.Reason.{Reason}
use Rattle.table.specs.declared.changes.Change.{Change}
use Rattle.demands.specs.Contract.{EveryLent, Gives, Gives1, Gives2, Gives3, Gives4}

-- how many threads a ledger has
abbrev pub thread_slots : ℕ
thread_slots = 16

pub record TermsGiven : Type 0 where
  -- counter and clock
  pub good_period_lem : Gives1 counter-good-period.Post good_period
  pub in_range_lem : Gives1 counter-Counter-in-range.Post in_range
  pub cycles_above_lem : Gives2 counter-Counter-cycles-above.Post cycles_above
  pub cleared : Gives1 counter-Counter-cleared.Post cleared
  pub whole : Gives1 counter-Gaps-whole.Post (λ g. g.p + g.q + g.r)
  pub bad_setup_lem : Gives2 clock-bad-setup.Post bad_setup
  pub well_formed_lem : Gives1 clock-well-formed.Post well_formed
  pub crowded : Gives1 clock-crowded.Post crowded
  -- books and ledger; of `entry_of`, and of `operate_of` with any table that is not empty, all is said by `EveryEntry`, `EveryOperation` and `OperationNumbers`
  pub nothing_booked_lem : Gives books-nothing-booked.Post nothing_booked
  pub no_thread_lem : Gives2 books-no-thread.Post no_thread
  pub unrecorded : Gives2 books-unrecorded.Post unrecorded
  pub past : Gives2 books-past.Post past
  pub busy : Gives2 books-busy.Post busy
  pub concerned : Gives2 books-concerned.Post concerned
  pub enter : Gives4 books-enter.Post entry_of
  pub operate : Gives3 ledger-operate.Post operate_of
  -- the same over books and thread records that are lent: what is answered, and what they are at exit
  pub operate_on : (books : MutBor Books) (threads : MutBor (List ThreadUsage)) (reading : Cycles) (op : Operation) → EveryLent (λ exit. ledger_of exit.0.now exit.1.0.now) ledger-operate-on.Post (books, (threads, (reading, (op, tt)))) (λ answer after. record { answer = answer; ledger = after } ≡ operate_of (ledger_of books.now threads.now) reading op)
  pub report_from : Gives3 ledger-report-from.Post (λ books threads i. report_of (ledger_of books.now threads.now) i)
  pub report_of : Gives1 ledger-ThreadReport-of.Post report_value
  pub fresh_ledger_lem : Gives ledger-fresh.Post (fresh_ledger thread_slots)
  -- a trace's bytes; of `decode_of` all is said by `Decodes`
  pub decode : Gives2 trace-decode.Post (λ trace at. decode_of trace.now at)
  pub records_from_lem : Gives2 trace-records-from.Post (λ trace at. records_left trace.now at)
  pub bytes_from_lem : Gives2 trace-bytes-from.Post (λ trace at. bytes_left trace.now at)
  pub item_at_lem : Gives2 trace-item-at.Post (λ trace at. item_at trace.now at)
  pub place_after : Gives2 trace-place-after.Post (λ trace at. place_after trace.now at)
  -- the machine
  pub malformed_state : Gives2 table-malformed.Post malformed
  pub core : Gives1 machine-Machine-core.Post core_of
  pub machine_of_lem : Gives2 machine-Machine-of.Post machine_of
  -- a record's change made to parts that are lent; a step is its change, made
  pub make : (core : MutBor Core) (threads : MutBor (List ThreadUsage)) (change : Result Change Reason) → EveryLent (λ exit. machine_of exit.0.now exit.1.0.now) machine-make.Post (core, (threads, (change, tt))) (λ answer after. record { outcome = answer; machine = after } ≡ made_of (machine_of core.now threads.now) change)
  pub step_is_made : (m : Machine) (d : Decoded) → step_of m d ≡ made_of m (change_of (malformed (core_of m) (slots_of m)) (core_of m) (slots_of m) d)
  pub report_values_lem : Gives1 machine-report-values.Post report_tells
  pub step : Gives2 machine-step.Post step_of
  pub fresh_machine_lem : Gives machine-fresh.Post (fresh_machine thread_slots)
