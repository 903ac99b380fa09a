-- Each wrong machine falls at a short trace, or at one record and a machine handed in.
use Rattle.std.specs.Prelude.{Ok, Err}
use Prim.Native.Nat.{ℕ}
use mathlib.Core.Path.{◌≡◌, refl, sym, ap}
use mathlib.Core.Bool.{true, false, false≢true}
use mathlib.Core.List.{[], ◌∷◌}
use native.Mathlib.Omega.{arith}
use Rattle.error.proofs.Tests.{clash}
use Rattle.error.specs.Numbers.{max64}
use Rattle.usage.specs.Leaves.{enabled, accumulated}
use Rattle.usage.specs.Formulas.{new_idle, average_cycles}
use Rattle.counter.specs.Cycle.{cycle, run_n, wraps}
use Rattle.counter.specs.Entries.{ran_of}
use Rattle.counter.specs.Readings.{good_period, in_range}
use Rattle.clock.specs.Timer.{well_formed, GoodSetup}
use Rattle.clock.specs.Entries.{gaps, sample_of}
use Rattle.clock.specs.Announce.{announce_of}
use Rattle.books.specs.Entries.{charged, onward, close_of, stop_of, switch_of, altered, reopen_of, alter_of, enter_of}
use Rattle.books.specs.Running.{is_running, stamp_of, unrecorded, past, busy, concerned}
use Rattle.books.specs.Enter.{entry_of}
use Rattle.ledger.specs.Operate.{stored_in, operate_of}
use Rattle.ledger.specs.Records.{thread_record}
use Rattle.ledger.specs.Sums.{sum_of}
use Rattle.ledger.specs.Threads as ledger
use Rattle.trace.specs.declared.Record.TheVariants as K
use Rattle.machine.specs.declared.Machine.{Machine}
use Rattle.table.specs.declared.Values.{Values}
use Rattle.table.specs.declared.Reason.TheVariants as Why
use Rattle.table.specs.Task.{task_of, asked_by}
use Rattle.table.specs.Table.{malformed, columns}
use Rattle.books.specs.Laws.{closes, rises, too_many, full}
use Rattle.table.specs.Says.{values}
use Rattle.machine.specs.Step.{announce_rows, last_rows, record_rows, done_by, accepted_by, fresh_machine, step_of}
use Rattle.machine.specs.Shown as handed
use Rattle.demands.specs.Trace.{happened, seen, watch_all, FairTrace}
use Rattle.demands.specs.Shown.{taken}
use Rattle.machine.specs.Shown.{at_once}
use Rattle.demands.specs.ShutOut.{ShutOut}
use Rattle.error.specs.Said.{number_in}

-- period 10 and tick 4
ten : GoodSetup 10 4
unfolding good_period
ten = refl

pub shut_out : ShutOut
unfolding enabled accumulated average_cycles cycle run_n wraps good_period in_range ran_of well_formed sample_of announce_of stamp_of is_running charged onward close_of stop_of switch_of altered reopen_of alter_of enter_of unrecorded past busy entry_of concerned stored_in operate_of sum_of ledger.closes_now ledger.begins ledger.open_after ledger.tracked_after task_of asked_by malformed step_of columns happened seen watch_all FairTrace closes rises too_many full announce_rows last_rows record_rows number_in done_by accepted_by
shut_out = record {
  refuser_falls = λ law.
      let accepted = (law.exactly (handed.timed (handed.counter 10 10 false 0) (handed.clock 4 0 0 0)) (Ok (K.Run 0))).accepted.1 (refl, (refl, (refl, (refl, (refl, (refl, (refl, (refl, tt)))))))) in
      let e : Err Why.BadRecord ≡ Ok accepted.0 = accepted.1 in
      clash (cc);
  frozen_falls = λ law.
      let e : ◌≡◌ {A = ℕ} 0 1 = ((law 2 10 4 (omega arith) ten (taken (K.Run 1 ∷ K.Sample at_once ∷ []))).1 (omega arith)).reads in
      clash e;
  restarting_falls = λ law.
      let e : ◌≡◌ {A = ℕ} 1 2 = ((law 2 10 4 (omega arith) ten (taken (K.Run 1 ∷ K.Sample at_once ∷ K.Run 1 ∷ K.Sample at_once ∷ []))).1 (omega arith)).reads in
      absurd (omega arith);
  constant_falls = λ law.
      let e : ◌≡◌ {A = ℕ} 0 1 = ((law 2 10 4 (omega arith) ten (taken (K.Run 1 ∷ K.Sample at_once ∷ []))).1 (omega arith)).reads in
      clash e;
  announces_nothing_falls = λ law.
      let below = ((law 2 10 4 (omega arith) ten (taken (K.Run 10 ∷ K.Sample at_once ∷ []))).0.announcement (values 0 0) refl).largest_multiple.largest in
      absurd (omega arith);
  announces_once_falls = λ law.
      let below = ((law 2 10 4 (omega arith) ten (taken (K.Run 10 ∷ K.Sample at_once ∷ K.Announce ∷ K.Run 10 ∷ K.Sample at_once ∷ []))).0.announcement (values 0 8) refl).largest_multiple.largest in
      absurd (omega arith);
  made_up_falls = λ law.
      let w = ((law 2 10 4 (omega arith) ten (taken (K.Enable 0 at_once ∷ K.Run 1 ∷ K.Start 0 at_once ∷ K.Run 5 ∷ K.Stop at_once ∷ []))).1 (omega arith)).totals 0 (omega arith) in
      absurd (let low = w.low in omega arith);
  sums_nothing_falls = λ law.
      let e : ◌≡◌ {A = ℕ} 0 5 = (law 2 10 4 (omega arith) ten (taken (K.Run 1 ∷ K.Start 0 at_once ∷ K.Run 5 ∷ K.Stop at_once ∷ []))).0.rise in
      absurd (omega arith);
  answers_nothing_falls = λ law.
      let w = ((law 2 10 4 (omega arith) ten (taken (K.Run 1 ∷ K.Start 0 at_once ∷ K.Run 5 ∷ K.Stop at_once ∷ []))).1 (omega arith)).chain (omega arith) in
      absurd (let high = w.high in omega arith);
  no_d_falls = λ law.
      false≢true (sym (law.from_setup 2 10 4 (omega arith) ten (taken (K.Run 9 ∷ K.Sample (gaps 0 2 0) ∷ []))).0.whole);
  longer_falls = λ law.
      let e : ◌≡◌ {A = ℕ} 0 10 = ((law 2 10 4 (omega arith) ten (taken (K.Run 10 ∷ K.Sample at_once ∷ []))).0.announcement (values 0 0) refl).counts in
      absurd (omega arith);
  at_most_falls = λ law.
      let e : ◌≡◌ {A = ℕ} 10 0 = ((law 2 10 4 (omega arith) ten (taken (K.Sample at_once ∷ []))).1 (omega arith)).reads in
      absurd (omega arith);
  flag_gone_falls = λ law.
      let m = handed.timed (handed.counter 10 10 true max64) (handed.clock 4 0 0 4294967277) in
      false≢true (ap (λ (n : Machine). n.timer.counter.flag) ((law.kept m (Ok (K.Sample at_once))).untouched Why.AnnounceFirst refl (λ e. clash (cc))));
  two_stamps_falls = λ law.
      let w = ((law 2 10 4 (omega arith) ten (taken (K.Run 1 ∷ K.Start 0 at_once ∷ K.Run 3 ∷ K.Switch 1 (gaps 0 0 5) ∷ K.Stop at_once ∷ []))).1 (omega arith)).chain (omega arith) in
      absurd (let high = w.high in omega arith);
  forgetful_falls = λ law.
      let m = handed.running 5 18446744073709551612 new_idle in
      false≢true (ap (λ (n : Machine). n.ready) ((law.kept m (Ok (K.Stop at_once))).sampled (K.Stop at_once) at_once refl (_, refl) refl).0);
  no_elapsed_falls = λ law.
      let e : ◌≡◌ {A = ℕ} 0 1 = ((law 2 10 4 (omega arith) ten (taken (K.Run 1 ∷ []))).1 (omega arith)).shows at_once (values 0 0) (omega arith) refl in
      clash e;
  averages_total_falls = λ law.
      let m = handed.handed true (handed.counter 10 10 false 0) (handed.clock 4 0 0 0) (handed.books 0 0 0) (handed.thread false 8 2) in
      let e : ◌≡◌ {A = ℕ} 8 4 = ap (λ (v : Values). v.y) (law.records m (K.Report 0) (values 8 8) refl).0 in
      absurd (omega arith);
  no_windows_falls = λ law.
      let e : ◌≡◌ {A = ℕ} 0 1 = ap (λ (n : Machine). (thread_record n.ledger 0).num_windows) (law.records (handed.timed (handed.counter 10 10 false 0) (handed.clock 4 0 0 0)) (K.Enable 0 at_once) (values 0 0) refl).1 in
      clash e;
  windows_at_start_falls = λ law.
      let e : ◌≡◌ {A = ℕ} 1 0 = ap (λ (n : Machine). (thread_record n.ledger 0).num_windows) (law.records (handed.timed (handed.counter 10 10 false 0) (handed.clock 4 0 0 0)) (K.Start 0 at_once) (values 0 0) refl).1 in
      absurd (omega arith);
  charges_untracked_falls = λ law.
      let w = ((law 2 10 4 (omega arith) ten (taken (K.Run 1 ∷ K.Start 0 at_once ∷ K.Run 5 ∷ K.Stop at_once ∷ []))).1 (omega arith)).totals 0 (omega arith) in
      absurd (let low = w.low in omega arith);
  tells_again_falls = λ law.
      let e : ◌≡◌ {A = ℕ} 0 8 = (law 2 10 4 (omega arith) ten (taken (K.Run 10 ∷ K.Sample at_once ∷ K.Announce ∷ K.Sample at_once ∷ []))).0.announced in
      absurd (omega arith);
  never_samples_falls = λ law.
      let e : ◌≡◌ {A = ℕ} 4294967295 0 = ap (λ (n : Machine). n.timer.clock.overflow) (law.records (fresh_machine 2) (K.Setup (record { period = 10; tick = 4 })) (values 0 0) refl).1 in
      absurd (omega arith);
}
