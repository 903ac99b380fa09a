-- One outcome for every public contract: the answer is fixed for all arguments.
use mathlib.Core.Path.{◌≡◌, sym, ap, ◌∙◌}
use denote.RattleType.{RattleType}
use denote.Param.Laws.{Laws}
use mir.Syntax.{Dict}
use Rattle.error.proofs.Refusal.number.Reads as error-Refusal-number
use Rattle.error.proofs.number.Reads as error-number
use Rattle.systick.proofs.elapsed_cycles.Reads as systick-elapsed-cycles
use Rattle.systick.proofs.cycles_to_ticks.Reads as systick-cycles-to-ticks
use Rattle.systick.proofs.ticks_to_cycles.Reads as systick-ticks-to-cycles
use Rattle.systick.proofs.max_ticks.Reads as systick-max-ticks
use Rattle.systick.proofs.elapsed_decide.Reads as systick-elapsed-decide
use Rattle.systick.proofs.announce_decide.Reads as systick-announce-decide
use Rattle.usage.proofs.ThreadUsage.new_idle.Reads as usage-ThreadUsage-new-idle
use Rattle.usage.proofs.is_tracked.Reads as usage-is-tracked
use Rattle.usage.proofs.enabled.Reads as usage-enabled
use Rattle.usage.proofs.disabled.Reads as usage-disabled
use Rattle.usage.proofs.accumulated.Reads as usage-accumulated
use Rattle.usage.proofs.SysTrackDecision.is_apply.Reads as usage-SysTrackDecision-is-apply
use Rattle.usage.proofs.sys_enable_decide.Reads as usage-sys-enable-decide
use Rattle.usage.proofs.sys_disable_decide.Reads as usage-sys-disable-decide
use Rattle.usage.proofs.StartDecision.is_record_start.Reads as usage-StartDecision-is-record-start
use Rattle.usage.proofs.start_decide.Reads as usage-start-decide
use Rattle.usage.proofs.StopDecision.is_accumulate.Reads as usage-StopDecision-is-accumulate
use Rattle.usage.proofs.stop_decide.Reads as usage-stop-decide
use Rattle.usage.proofs.average_cycles.Reads as usage-average-cycles
use Rattle.usage.proofs.elapsed_cycles.Reads as usage-elapsed-cycles
use Rattle.counter.proofs.good_period.Reads as counter-good-period
use Rattle.counter.proofs.started.Reads as counter-started
use Rattle.counter.proofs.Counter.in_range.Reads as counter-Counter-in-range
use Rattle.counter.proofs.Counter.cycles_above.Reads as counter-Counter-cycles-above
use Rattle.counter.proofs.Counter.cleared.Reads as counter-Counter-cleared
use Rattle.counter.proofs.run.Reads as counter-run
use Rattle.counter.proofs.readings.Reads as counter-readings
use Rattle.counter.proofs.value_of.Reads as counter-value-of
use Rattle.counter.proofs.Gaps.whole.Reads as counter-Gaps-whole
use Rattle.clock.proofs.bad_setup.Reads as clock-bad-setup
use Rattle.clock.proofs.set_up.Reads as clock-set-up
use Rattle.clock.proofs.well_formed.Reads as clock-well-formed
use Rattle.clock.proofs.crowded.Reads as clock-crowded
use Rattle.clock.proofs.sample.Reads as clock-sample
use Rattle.clock.proofs.announce.Reads as clock-announce
use Rattle.books.proofs.nothing_booked.Reads as books-nothing-booked
use Rattle.books.proofs.enter.Reads as books-enter
use Rattle.books.proofs.no_thread.Reads as books-no-thread
use Rattle.books.proofs.unrecorded.Reads as books-unrecorded
use Rattle.books.proofs.past.Reads as books-past
use Rattle.books.proofs.busy.Reads as books-busy
use Rattle.books.proofs.concerned.Reads as books-concerned
use Rattle.ledger.specs.Operate.{ledger_of}
use Rattle.ledger.proofs.operate.Reads as ledger-operate
use Rattle.ledger.proofs.operate_on.Reads as ledger-operate-on
use Rattle.ledger.proofs.report_from.Reads as ledger-report-from
use Rattle.ledger.proofs.ThreadReport.of.Reads as ledger-ThreadReport-of
use Rattle.ledger.proofs.report.Reads as ledger-report
use Rattle.ledger.proofs.fresh.Reads as ledger-fresh
use Rattle.trace.proofs.decode.Reads as trace-decode
use Rattle.tickclock.proofs.thread.usage_enable_number.Reads as usage-enable-number
use Rattle.tickclock.proofs.thread.usage_enable_track_usage.Reads as usage-enable-track-usage
use Rattle.tickclock.proofs.thread.usage_enable_total_cycles.Reads as usage-enable-total-cycles
use Rattle.tickclock.proofs.thread.usage_enable_num_windows.Reads as usage-enable-num-windows
use Rattle.tickclock.proofs.thread.usage_disable_number.Reads as usage-disable-number
use Rattle.tickclock.proofs.thread.usage_disable_track_usage.Reads as usage-disable-track-usage
use Rattle.tickclock.proofs.thread.usage_disable_total_cycles.Reads as usage-disable-total-cycles
use Rattle.tickclock.proofs.thread.usage_disable_num_windows.Reads as usage-disable-num-windows
use Rattle.tickclock.proofs.thread.usage_accumulate_number.Reads as usage-accumulate-number
use Rattle.tickclock.proofs.thread.usage_accumulate_track_usage.Reads as usage-accumulate-track-usage
use Rattle.tickclock.proofs.thread.usage_accumulate_total_cycles.Reads as usage-accumulate-total-cycles
use Rattle.tickclock.proofs.thread.usage_accumulate_num_windows.Reads as usage-accumulate-num-windows
use Rattle.tickclock.proofs.thread.usage_average_cycles_number.Reads as usage-average-cycles-number
use Rattle.tickclock.proofs.thread.usage_average_cycles_cycles.Reads as usage-average-cycles-cycles
use Rattle.tickclock.proofs.thread.usage_elapsed_cycles_number.Reads as usage-elapsed-cycles-number
use Rattle.tickclock.proofs.thread.usage_elapsed_cycles_cycles.Reads as usage-elapsed-cycles-cycles
use Rattle.tickclock.proofs.thread.usage_is_tracked_number.Reads as usage-is-tracked-number
use Rattle.tickclock.proofs.thread.usage_is_tracked_tracked.Reads as usage-is-tracked-tracked
use Rattle.tickclock.proofs.thread.usage_new_idle_number.Reads as usage-new-idle-number
use Rattle.tickclock.proofs.thread.usage_new_idle_track_usage.Reads as usage-new-idle-track-usage
use Rattle.tickclock.proofs.thread.usage_new_idle_total_cycles.Reads as usage-new-idle-total-cycles
use Rattle.tickclock.proofs.thread.usage_new_idle_num_windows.Reads as usage-new-idle-num-windows
use Rattle.tickclock.proofs.thread.usage_sys_enable_decide_number.Reads as usage-sys-enable-decide-number
use Rattle.tickclock.proofs.thread.usage_sys_enable_decide_apply.Reads as usage-sys-enable-decide-apply
use Rattle.tickclock.proofs.thread.usage_sys_disable_decide_number.Reads as usage-sys-disable-decide-number
use Rattle.tickclock.proofs.thread.usage_sys_disable_decide_apply.Reads as usage-sys-disable-decide-apply
use Rattle.tickclock.proofs.thread.usage_start_decide_number.Reads as usage-start-decide-number
use Rattle.tickclock.proofs.thread.usage_start_decide_record_start.Reads as usage-start-decide-record-start
use Rattle.tickclock.proofs.thread.usage_stop_decide_number.Reads as usage-stop-decide-number
use Rattle.tickclock.proofs.thread.usage_stop_decide_accumulate.Reads as usage-stop-decide-accumulate
use Rattle.tickclock.proofs.timer.systick_elapsed_cycles_number.Reads as systick-elapsed-cycles-number
use Rattle.tickclock.proofs.timer.systick_elapsed_cycles_cycles.Reads as systick-elapsed-cycles-cycles
use Rattle.tickclock.proofs.timer.systick_cycles_to_ticks_number.Reads as systick-cycles-to-ticks-number
use Rattle.tickclock.proofs.timer.systick_cycles_to_ticks_ticks.Reads as systick-cycles-to-ticks-ticks
use Rattle.tickclock.proofs.timer.systick_ticks_to_cycles_number.Reads as systick-ticks-to-cycles-number
use Rattle.tickclock.proofs.timer.systick_ticks_to_cycles_cycles.Reads as systick-ticks-to-cycles-cycles
use Rattle.tickclock.proofs.timer.systick_max_ticks_number.Reads as systick-max-ticks-number
use Rattle.tickclock.proofs.timer.systick_max_ticks_ticks.Reads as systick-max-ticks-ticks
use Rattle.tickclock.proofs.timer.systick_elapsed_decide_number.Reads as systick-elapsed-decide-number
use Rattle.tickclock.proofs.timer.systick_elapsed_decide_wrap_detected.Reads as systick-elapsed-decide-wrap-detected
use Rattle.tickclock.proofs.timer.systick_elapsed_decide_new_overflow_cyc.Reads as systick-elapsed-decide-new-overflow-cyc
use Rattle.tickclock.proofs.timer.systick_elapsed_decide_elapsed.Reads as systick-elapsed-decide-elapsed
use Rattle.tickclock.proofs.timer.systick_announce_decide_number.Reads as systick-announce-decide-number
use Rattle.tickclock.proofs.timer.systick_announce_decide_dticks.Reads as systick-announce-decide-dticks
use Rattle.tickclock.proofs.timer.systick_announce_decide_new_cycle_count.Reads as systick-announce-decide-new-cycle-count
use Rattle.tickclock.proofs.timer.systick_announce_decide_new_announced_cycles.Reads as systick-announce-decide-new-announced-cycles
use Rattle.tickclock.proofs.timer.counter_value_number.Reads as counter-value-number
use Rattle.tickclock.proofs.timer.counter_value_value.Reads as counter-value-value
use Rattle.table.proofs.Reason.refusal.Reads as table-Reason-refusal
use Rattle.table.proofs.number.Reads as table-number
use Rattle.table.proofs.malformed.Reads as table-malformed
use Rattle.table.proofs.changes.change_of.Reads as changes-change-of
use Rattle.table.proofs.changes.change_at.Reads as changes-change-at
use Rattle.machine.specs.Step.{machine_of}
use Rattle.machine.proofs.Machine.core.Reads as machine-Machine-core
use Rattle.machine.proofs.Machine.of.Reads as machine-Machine-of
use Rattle.machine.proofs.make.Reads as machine-make
use Rattle.machine.proofs.report_values.Reads as machine-report-values
use Rattle.machine.proofs.step.Reads as machine-step
use Rattle.machine.proofs.fresh.Reads as machine-fresh
use Rattle.lines.proofs.label.Label.of.Reads as lines-Label-of
use Rattle.lines.proofs.label.Label.next.Reads as lines-Label-next
use Rattle.transcript.proofs.room_for.Reads as transcript-room-for
use Rattle.lines.proofs.put_line.Reads as lines-put-line
use Rattle.lines.proofs.label.put_label.Reads as lines-put-label
use Rattle.lines.proofs.put_values.Reads as lines-put-values
use Rattle.lines.proofs.put_refusal.Reads as lines-put-refusal
use Rattle.lines.proofs.put_end.Reads as lines-put-end
use Rattle.lines.proofs.put_tail.Reads as lines-put-tail
use Rattle.lines.proofs.put_input.Reads as lines-put-input
use Rattle.transcript.proofs.replay.Reads as transcript-replay
use Rattle.transcript.proofs.put_part.Reads as transcript-put-part
use Rattle.trace.proofs.reader.records_from.Reads as trace-records-from
use Rattle.trace.proofs.reader.bytes_from.Reads as trace-bytes-from
use Rattle.trace.proofs.reader.item_at.Reads as trace-item-at
use Rattle.trace.proofs.reader.place_after.Reads as trace-place-after
use Rattle.demands.specs.Outcome.{OneOutcome, OneOutcomeLent}

-- a contract that says what the answer is, from the arguments, allows that one alone
once :
    {Lives Args Answer Exit : Type 0} (answer : Lives → Args → Answer) →
    (lives : Lives) (args : Args) (one other : Answer) (here there : Exit) →
    one ≡ answer lives args →
    other ≡ answer lives args →
    one ≡ other
once answer lives args one other here there p q = p ∙ sym q

once_lent :
    {Lives Args Answer Exit Held : Type 0} (held : Exit → Held) (answer : Lives → Args → Answer) (left : Lives → Args → Held) →
    (lives : Lives) (args : Args) (one other : Answer) (here there : Exit) →
    (one ≡ answer lives args) × (held here ≡ left lives args) →
    (other ≡ answer lives args) × (held there ≡ left lives args) →
    (one ≡ other) × (held here ≡ held there)
once_lent held answer left lives args one other here there p q = (p.0 ∙ sym q.0, p.1 ∙ sym q.1)

pub error_outcomes : OneOutcome error-Refusal-number.Post × ((T : RattleType) (laws : Laws T) (dict : Dict) → OneOutcome (error-number.Post T laws dict))
error_outcomes = (once _, λ T laws dict. once _)

pub systick_outcomes :
    OneOutcome systick-elapsed-cycles.Post ×
    OneOutcome systick-cycles-to-ticks.Post ×
    OneOutcome systick-ticks-to-cycles.Post ×
    OneOutcome systick-max-ticks.Post ×
    OneOutcome systick-elapsed-decide.Post ×
    OneOutcome systick-announce-decide.Post
systick_outcomes = (
  once _,
  once _,
  once _,
  once _,
  once _,
  once _,
)

pub usage_outcomes :
    OneOutcome usage-ThreadUsage-new-idle.Post ×
    OneOutcome usage-is-tracked.Post ×
    OneOutcome usage-enabled.Post ×
    OneOutcome usage-disabled.Post ×
    OneOutcome usage-accumulated.Post ×
    OneOutcome usage-SysTrackDecision-is-apply.Post ×
    OneOutcome usage-sys-enable-decide.Post ×
    OneOutcome usage-sys-disable-decide.Post ×
    OneOutcome usage-StartDecision-is-record-start.Post ×
    OneOutcome usage-start-decide.Post ×
    OneOutcome usage-StopDecision-is-accumulate.Post ×
    OneOutcome usage-stop-decide.Post ×
    OneOutcome usage-average-cycles.Post ×
    OneOutcome usage-elapsed-cycles.Post
usage_outcomes = (
  once _,
  once _,
  once _,
  once _,
  once _,
  once _,
  once _,
  once _,
  once _,
  once _,
  once _,
  once _,
  once _,
  once _,
)

pub counter_outcomes :
    OneOutcome counter-good-period.Post ×
    OneOutcome counter-started.Post ×
    OneOutcome counter-Counter-in-range.Post ×
    OneOutcome counter-Counter-cycles-above.Post ×
    OneOutcome counter-Counter-cleared.Post ×
    OneOutcome counter-run.Post ×
    OneOutcome counter-Gaps-whole.Post ×
    OneOutcome counter-readings.Post ×
    OneOutcome counter-value-of.Post
counter_outcomes = (
  once _,
  once _,
  once _,
  once _,
  once _,
  once _,
  once _,
  once _,
  once _,
)

pub clock_outcomes :
    OneOutcome clock-bad-setup.Post ×
    OneOutcome clock-set-up.Post ×
    OneOutcome clock-well-formed.Post ×
    OneOutcome clock-crowded.Post ×
    OneOutcome clock-sample.Post ×
    OneOutcome clock-announce.Post
clock_outcomes = (
  once _,
  once _,
  once _,
  once _,
  once _,
  once _,
)

pub books_outcomes :
    OneOutcome books-nothing-booked.Post ×
    OneOutcome books-enter.Post ×
    OneOutcome books-no-thread.Post ×
    OneOutcome books-unrecorded.Post ×
    OneOutcome books-past.Post ×
    OneOutcome books-busy.Post ×
    OneOutcome books-concerned.Post
books_outcomes = (
  once _,
  once _,
  once _,
  once _,
  once _,
  once _,
  once _,
)

pub ledger_outcomes :
    OneOutcome ledger-operate.Post ×
    OneOutcome ledger-report-from.Post ×
    OneOutcome ledger-ThreadReport-of.Post ×
    OneOutcome ledger-report.Post ×
    OneOutcome ledger-fresh.Post
ledger_outcomes = (
  once _,
  once _,
  once _,
  once _,
  once _,
)

pub trace_outcomes : OneOutcome trace-decode.Post
trace_outcomes = once _

pub table_outcomes :
    OneOutcome table-Reason-refusal.Post ×
    OneOutcome table-number.Post ×
    OneOutcome table-malformed.Post
table_outcomes = (
  once _,
  once _,
  once _,
)

pub changes_outcomes : OneOutcome changes-change-of.Post × OneOutcome changes-change-at.Post
changes_outcomes = (once _, once _)

pub machine_outcomes :
    OneOutcome machine-Machine-core.Post ×
    OneOutcome machine-Machine-of.Post ×
    OneOutcome machine-report-values.Post ×
    OneOutcome machine-step.Post ×
    OneOutcome machine-fresh.Post
machine_outcomes = (once _, once _, once _, once _, once _)

-- the answer, and the parts that were lent
pub parts_lent_outcomes :
    OneOutcomeLent (λ exit. ledger_of exit.0.now exit.1.0.now) ledger-operate-on.Post ×
    OneOutcomeLent (λ exit. machine_of exit.0.now exit.1.0.now) machine-make.Post
parts_lent_outcomes = (
  λ lives args one other here there p q. let same = p ∙ sym q in (ap (λ s. s.answer) same, ap (λ s. s.ledger) same),
  λ lives args one other here there p q. let same = p ∙ sym q in (ap (λ s. s.outcome) same, ap (λ s. s.machine) same),
)

pub lines_outcomes :
    OneOutcome lines-Label-of.Post ×
    OneOutcome lines-Label-next.Post ×
    OneOutcome transcript-room-for.Post
lines_outcomes = (
  once _,
  once _,
  once _,
)

-- the answer, and what the lent buffer holds
pub lines_lent_outcomes :
    OneOutcomeLent (λ exit. exit.0.now) lines-put-line.Post ×
    OneOutcomeLent (λ exit. exit.0.now) lines-put-label.Post ×
    OneOutcomeLent (λ exit. exit.0.now) lines-put-values.Post ×
    OneOutcomeLent (λ exit. exit.0.now) lines-put-refusal.Post ×
    OneOutcomeLent (λ exit. exit.0.now) lines-put-end.Post ×
    OneOutcomeLent (λ exit. exit.0.now) lines-put-tail.Post ×
    OneOutcomeLent (λ exit. exit.0.now) lines-put-input.Post ×
    OneOutcomeLent (λ exit. exit.1.0.now) transcript-replay.Post ×
    OneOutcomeLent (λ exit. exit.1.1.1.0.now) transcript-put-part.Post
lines_lent_outcomes = (
  once_lent (λ exit. exit.0.now) _ _,
  once_lent (λ exit. exit.0.now) _ _,
  once_lent (λ exit. exit.0.now) _ _,
  once_lent (λ exit. exit.0.now) _ _,
  once_lent (λ exit. exit.0.now) _ _,
  once_lent (λ exit. exit.0.now) _ _,
  once_lent (λ exit. exit.0.now) _ _,
  (λ lives args one other here there p q. (p.0 ∙ sym q.0, p.1.0 ∙ sym q.1.0)),
  once_lent (λ exit. exit.1.1.1.0.now) _ _,
)

pub tickclock_outcomes :
    OneOutcome usage-enable-number.Post ×
    OneOutcome usage-enable-track-usage.Post ×
    OneOutcome usage-enable-total-cycles.Post ×
    OneOutcome usage-enable-num-windows.Post ×
    OneOutcome usage-disable-number.Post ×
    OneOutcome usage-disable-track-usage.Post ×
    OneOutcome usage-disable-total-cycles.Post ×
    OneOutcome usage-disable-num-windows.Post ×
    OneOutcome usage-accumulate-number.Post ×
    OneOutcome usage-accumulate-track-usage.Post ×
    OneOutcome usage-accumulate-total-cycles.Post ×
    OneOutcome usage-accumulate-num-windows.Post ×
    OneOutcome usage-average-cycles-number.Post ×
    OneOutcome usage-average-cycles-cycles.Post ×
    OneOutcome usage-elapsed-cycles-number.Post ×
    OneOutcome usage-elapsed-cycles-cycles.Post ×
    OneOutcome usage-is-tracked-number.Post ×
    OneOutcome usage-is-tracked-tracked.Post ×
    OneOutcome usage-new-idle-number.Post ×
    OneOutcome usage-new-idle-track-usage.Post ×
    OneOutcome usage-new-idle-total-cycles.Post ×
    OneOutcome usage-new-idle-num-windows.Post ×
    OneOutcome usage-sys-enable-decide-number.Post ×
    OneOutcome usage-sys-enable-decide-apply.Post ×
    OneOutcome usage-sys-disable-decide-number.Post ×
    OneOutcome usage-sys-disable-decide-apply.Post ×
    OneOutcome usage-start-decide-number.Post ×
    OneOutcome usage-start-decide-record-start.Post ×
    OneOutcome usage-stop-decide-number.Post ×
    OneOutcome usage-stop-decide-accumulate.Post ×
    OneOutcome systick-elapsed-cycles-number.Post ×
    OneOutcome systick-elapsed-cycles-cycles.Post ×
    OneOutcome systick-cycles-to-ticks-number.Post ×
    OneOutcome systick-cycles-to-ticks-ticks.Post ×
    OneOutcome systick-ticks-to-cycles-number.Post ×
    OneOutcome systick-ticks-to-cycles-cycles.Post ×
    OneOutcome systick-max-ticks-number.Post ×
    OneOutcome systick-max-ticks-ticks.Post ×
    OneOutcome systick-elapsed-decide-number.Post ×
    OneOutcome systick-elapsed-decide-wrap-detected.Post ×
    OneOutcome systick-elapsed-decide-new-overflow-cyc.Post ×
    OneOutcome systick-elapsed-decide-elapsed.Post ×
    OneOutcome systick-announce-decide-number.Post ×
    OneOutcome systick-announce-decide-dticks.Post ×
    OneOutcome systick-announce-decide-new-cycle-count.Post ×
    OneOutcome systick-announce-decide-new-announced-cycles.Post ×
    OneOutcome counter-value-number.Post ×
    OneOutcome counter-value-value.Post
tickclock_outcomes = (
  once _,
  once _,
  once _,
  once _,
  once _,
  once _,
  once _,
  once _,
  once _,
  once _,
  once _,
  once _,
  once _,
  once _,
  once _,
  once _,
  once _,
  once _,
  once _,
  once _,
  once _,
  once _,
  once _,
  once _,
  once _,
  once _,
  once _,
  once _,
  once _,
  once _,
  once _,
  once _,
  once _,
  once _,
  once _,
  once _,
  once _,
  once _,
  once _,
  once _,
  once _,
  once _,
  once _,
  once _,
  once _,
  once _,
  once _,
  once _,
)

pub reader_outcomes :
    OneOutcome trace-records-from.Post ×
    OneOutcome trace-bytes-from.Post ×
    OneOutcome trace-item-at.Post ×
    OneOutcome trace-place-after.Post
reader_outcomes = (
  once _,
  once _,
  once _,
  once _,
)
