-- The boundaries, by computation.
use mathlib.Core.Path.{refl}
use Rattle.usage.specs.Leaves.{enabled, accumulated}
use Rattle.usage.specs.Formulas.{average_cycles}
use Rattle.counter.specs.Cycle.{cycle, run_n}
use Rattle.counter.specs.Readings.{good_period, in_range}
use Rattle.clock.specs.Timer.{well_formed}
use Rattle.clock.specs.Entries.{sample_of}
use Rattle.clock.specs.Announce.{announce_of}
use Rattle.books.specs.Entries.{charged, onward, close_of, stop_of, switch_of, altered, reopen_of, alter_of, enter_of}
use Rattle.books.specs.Running.{is_running, stamp_of, unrecorded, past, busy, concerned}
use Rattle.books.specs.Enter.{entry_of}
use Rattle.table.specs.Task.{task_of, asked_by}
use Rattle.table.specs.Table.{malformed, columns}
use Rattle.books.specs.Laws.{closes, rises, too_many, full}
use Rattle.ledger.specs.Operate.{stored_in, operate_of, report_of}
use Rattle.machine.specs.Step.{announce_rows, last_rows, record_rows, done_by, accepted_by, step_of}
use Rattle.machine.specs.Shown.{TableShown}
use Rattle.error.specs.Said.{number_in}

pub shown : TableShown
unfolding enabled accumulated average_cycles cycle run_n good_period in_range well_formed sample_of announce_of stamp_of is_running charged onward close_of stop_of switch_of altered reopen_of alter_of enter_of unrecorded past busy entry_of concerned task_of asked_by malformed closes rises too_many full stored_in operate_of report_of announce_rows last_rows record_rows columns done_by accepted_by number_in step_of
shown = record {
  cycles_fit = refl;
  cycles_above_lem = refl;
  gaps_fit = refl;
  gaps_above = refl;
  cycles_full = refl;
  overflow_fits = refl;
  announce_first = refl;
  stop_too = refl;
  announced_then = refl;
  switch_too = refl;
  enable_too = refl;
  report_not = refl;
  most_wraps = refl;
  one_wrap_more = refl;
  sum_fits = refl;
  sum_full = refl;
  sum_above = record { turned = refl; timer = refl; ledger = refl };
  own_fits = refl;
  own_above = record { turned = refl; timer = refl; ledger = refl };
  untracked = refl;
  switch_above = record { turned = refl; timer = refl; ledger = refl };
  window_fits = refl;
  last_window = refl;
  windows_full = refl;
  window_above = record { turned = refl; timer = refl; ledger = refl };
  tracked_already = refl;
  enable_as_wanted = refl;
  disable_as_wanted = refl;
  announced_all = refl;
  announced_more = refl;
  ticks_fit = refl;
  ticks_above = refl;
  least_period = refl;
  period_below = refl;
  most_period = refl;
  period_above = refl;
  no_tick = refl;
  least_value = refl;
  no_value = refl;
  value_above = refl;
  last_thread = refl;
  no_record = refl;
  stopped = refl;
  accounted = refl;
  accounted_above = refl;
  flag_accounted = refl;
  flag_above = refl;
  other_fields = refl;
  first_of_all = refl;
  not_tested = refl;
  bad_record_first = refl;
  not_set_up_first = refl;
  no_thread_first = refl;
  running_first = refl;
  cycles_first = refl;
  run_not = refl;
  report_past = refl;
  switch_past = refl;
  enable_past = refl;
  disable_past = refl;
  last_report = refl;
  last_disable = refl;
  second_setup = refl;
  start_gaps = refl;
  switch_gaps = refl;
  stop_gaps = refl;
  enable_gaps = refl;
  disable_gaps = refl;
  all_written = refl;
  least_setup = refl;
  most_setup = refl;
  bad_setup_lem = refl;
  short_setup = refl;
  long_setup = refl;
  operate_malformed = refl;
  report_malformed = refl;
  announce_malformed = refl;
  report_unknown = refl;
  sample_crowded = refl;
  operate_past = refl;
  operate_running = refl;
}
