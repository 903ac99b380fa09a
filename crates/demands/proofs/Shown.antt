-- The exhibited traces, by computation.
use mathlib.Core.Path.{refl}
use native.Mathlib.Omega.{arith}
use Rattle.usage.specs.Leaves.{enabled, accumulated}
use Rattle.usage.specs.Formulas.{average_cycles}
use Rattle.counter.specs.Cycle.{cycle, run_n, wraps}
use Rattle.counter.specs.Entries.{ran_of}
use Rattle.counter.specs.Readings.{good_period, in_range}
use Rattle.clock.specs.Timer.{well_formed}
use Rattle.clock.specs.Entries.{sample_of}
use Rattle.clock.specs.Announce.{announce_of}
use Rattle.books.specs.Entries.{charged, onward, close_of, stop_of, switch_of, altered, reopen_of, alter_of, enter_of}
use Rattle.books.specs.Running.{is_running, stamp_of, unrecorded, past, busy, concerned}
use Rattle.books.specs.Enter.{entry_of}
use Rattle.ledger.specs.Operate.{stored_in, operate_of}
use Rattle.ledger.specs.Sums.{sum_of}
use Rattle.ledger.specs.Threads as ledger
use Rattle.table.specs.Task.{task_of, asked_by}
use Rattle.table.specs.Table.{malformed, columns}
use Rattle.books.specs.Laws.{closes, rises, too_many, full}
use Rattle.machine.specs.Step.{announce_rows, last_rows, record_rows, done_by, accepted_by, step_of}
use Rattle.demands.specs.Trace.{happened, seen, watch_all, FairTrace}
use Rattle.demands.specs.Shown.{Shown}
use Rattle.error.specs.Said.{number_in}

pub shown : Shown
unfolding enabled accumulated average_cycles cycle run_n wraps good_period in_range ran_of well_formed sample_of announce_of stamp_of is_running charged onward close_of stop_of switch_of altered reopen_of alter_of enter_of unrecorded past busy entry_of concerned stored_in operate_of sum_of ledger.closes_now ledger.begins ledger.open_after ledger.tracked_after task_of asked_by malformed step_of columns happened seen watch_all FairTrace closes rises too_many full announce_rows last_rows record_rows number_in done_by accepted_by
shown = record {
  printed_fair = (omega arith, (omega arith, (omega arith, (omega arith, (omega arith, (omega arith, (omega arith, (omega arith, (omega arith, (omega arith, tt))))))))));
  printed_reads = (refl, refl);
  printed_total = (refl, refl);
  printed_short = omega arith;
  printed_answers = (refl, (refl, (refl, (refl, (refl, (refl, (refl, (refl, (refl, (refl, tt))))))))));
  twice_answers = (refl, (refl, (refl, (refl, (refl, (refl, (refl, (refl, (refl, tt)))))))));
  others_answers = (refl, (refl, (refl, (refl, (refl, (refl, (refl, (refl, (refl, (refl, (refl, (refl, (refl, tt)))))))))))));
  started_reads = ((refl, refl), (refl, refl));
  missed_answers = (refl, (refl, tt));
  zero_fair = omega arith;
  zero_short = omega arith;
  zero_total = (refl, refl, refl);
  three_fair = (omega arith, (omega arith, (omega arith, (omega arith, (omega arith, (omega arith, (omega arith, tt)))))));
  three_short = omega arith;
  three_sum = (refl, refl, refl);
  premises = λ rs g. (λ f. (f.quick, f.one_wrap, f.none_to_d), λ h. record { quick = h.0; one_wrap = h.1; none_to_d = h.2 });
  slow = (refl, refl);
  slow_alone = (λ quick. omega arith, omega arith, λ some. refl);
  late = (refl, refl);
  late_alone = (omega arith, λ one. omega arith, λ some. refl);
  lost = (refl, refl);
  lost_alone = (omega arith, omega arith, λ none. let clash = none (omega arith) in omega arith);
  lost_then_fair = record { quick = omega arith; one_wrap = omega arith; none_to_d = λ some. refl };
  refused_nothing = refl;
  refused_fair = omega arith;
  lag = (refl, omega arith);
  lag_fair = omega arith;
}
