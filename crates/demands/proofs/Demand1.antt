-- Demand 1: what no run from setup meets, that in a fair run no sum is refused, and that no record changes how many threads there are.
use Rattle.std.specs.Prelude.{Ok, Err}
use Prim.Native.Nat.{ℕ, ◌+◌, ◌≤◌, ◌<◌}
use mathlib.Core.Path.{◌≡◌, refl, sym, ap, ◌∙◌}
use mathlib.Core.Bool.{Bool, true, false, cond, not, ◌&&◌, ◌||◌}
use mathlib.Core.List.{List, [], ◌∷◌}
use mathlib.Core.Logic.{inl, inr}
use native.Mathlib.Omega.{arith}
use lib.ListN.{length, length-replicate}
use lib.Dec.{leb, eqb}
use borrow.Author.Tests.{le-ltb, eqb-true, ltb-false}
use Rattle.error.proofs.Tests.{clash}
use Rattle.error.proofs.Ordered.{by_outcome}
use Rattle.error.specs.InOrder.{FirstIs, NoneHolds}
use Rattle.error.specs.Numbers.{max32, max64}
use Rattle.counter.specs.declared.Gaps.{Gaps}
use Rattle.clock.specs.declared.Timer.{Timer}
use Rattle.clock.specs.Timer.{GoodSetup}
use Rattle.counter.specs.Readings.{cycles_of}
use Rattle.clock.proofs.Run as clock
use Rattle.clock.proofs.Runs as clock-runs
use Rattle.books.specs.declared.Operation.{Operation}
use Rattle.books.specs.declared.Operation.TheVariants as O
use Rattle.books.specs.Running.{concerned}
use Rattle.books.specs.Laws.{rises, full}
use Rattle.ledger.specs.declared.Ledger.{Ledger}
use Rattle.ledger.specs.Records.{thread_record, concerned_record}
use Rattle.ledger.proofs.Run as ledger
use Rattle.ledger.proofs.Agreeing as ledger-runs
use Rattle.ledger.proofs.Fitting.{sums_fit}
use Rattle.trace.specs.declared.Record.{Record}
use Rattle.trace.specs.declared.Record.TheVariants as K
use Rattle.trace.specs.Decode.{Decoded}
use Rattle.trace.proofs.Bytes.{decodes}
use Rattle.usage.specs.Formulas.{new_idle}
use Rattle.machine.specs.declared.Machine.{Machine}
use Rattle.machine.specs.declared.Stepped.{Stepped}
use Rattle.table.specs.declared.Reason.TheVariants as Why
use Rattle.table.specs.declared.tasks.Task.{Task}
use Rattle.table.specs.declared.tasks.Task.TheVariants as T
use Rattle.table.specs.declared.tasks.Then.TheVariants as W
use Rattle.table.specs.Task.{task_of, asked_by}
use Rattle.table.specs.Table.{malformed, columns, after_touch}
use Rattle.table.specs.Says.{outcome_says}
use Rattle.machine.specs.Step.{core_of, slots_of, full_row, announce_rows, last_rows, record_rows, rows_of, with_timer, done_by, accepted_by, turned_away, step_of, fresh_machine}
use Rattle.machine.proofs.Passed as passed
use Rattle.machine.proofs.Stepping as stepping
use Rattle.machine.proofs.Stepping.{every_refusal}
use Rattle.machine.proofs.Whole.{stays_whole}
use Rattle.demands.specs.Trace.{does_of, happened, Watched, watching, time_c, Fair, FairSample, watch, watch_all, at_setup}
use Rattle.demands.specs.Demand1.{FromSetup, NoSumRefused, Demand1}
use Rattle.demands.specs.Terms.{thread_slots}
use Rattle.demands.specs.RowNumbers.{RowNumbers}
use Rattle.demands.proofs.Counting.{cycles_are}
use Rattle.demands.proofs.Moving.{later}
use Rattle.demands.proofs.Watching.{Same, announces, seen_machine, operate_slots, table_size, all_same, begin_same}
use Rattle.demands.proofs.Following.{True, reads_true, all_true, begin_true}

row_numbers : RowNumbers
unfolding outcome_says columns
row_numbers = record {
  malformed_state = record { number_is = refl; zeros = refl };
  bad_record = record { number_is = refl; zeros = refl };
  not_set_up = record { number_is = refl; zeros = refl };
  second_setup = record { number_is = refl; zeros = refl };
  no_thread_lem = record { number_is = refl; zeros = refl };
  running = record { number_is = refl; zeros = refl };
  announce_first = record { number_is = refl; zeros = refl };
  cycles_above_lem = record { number_is = refl; zeros = refl };
  not_announced = λ leafs. record { number_is = refl; zeros = refl };
  wont_fit = record { number_is = refl; zeros = refl };
  accepted_ok = λ v. refl;
}

module _ {slots period tick : ℕ} (some : 0 < slots) (good : GoodSetup period tick) (w : Watched) (same : Same slots period tick w) where
  whole : malformed (core_of w.machine) (length w.machine.ledger.threads) ≡ false
  unfolding malformed
  whole =
      let books = (ledger-runs.every_run slots some same.entries).0.mark in
      let formed = (clock-runs.every_run period tick good same.events).always.formed in
      rw (table_size w same, same.ready, same.timer, formed, same.entered, ledger-runs.marked_recorded slots (ledger.after same.entries (ledger.begin slots)).ledger.books (ledger.after same.entries (ledger.begin slots)).threads.stretch books) refl

  fits : w.machine.timer.counter.cycles.0 ≤ max64
  fits = rw same.timer (clock-runs.every_run period tick good same.events).always.fits

  -- no row holds of an announcement
  announce_touches : stepping.Touches w.machine T.Announce
  unfolding asked_by
  announce_touches = record {
    whole = whole;
    passed = record { good = refl; known = rw same.ready refl; first = rw same.ready refl; named = refl; free = refl; room = refl; fits = le-ltb max64 (w.machine.timer.counter.cycles.0 + 0) (let h = fits in omega arith) };
  }

  none_holds : NoneHolds (rows_of w.machine (Ok K.Announce))
  unfolding record_rows last_rows announce_rows task_of
  none_holds = let a = announces some good w same in (whole, passed.none_holds _ _ (last_rows w.machine T.Announce) announce_touches.passed (rw a.1 tt))

  from_setup : FromSetup step_of period w
  from_setup = record { ready = same.ready; whole = whole; announces = (every_refusal w.machine (Ok K.Announce)).0.accepted.1 none_holds }

-- only the first of two tests can be a sum's, and it is not
second_of : (a b : Bool) → a ≡ false → a || b ≡ true → b ≡ true
second_of true b none e = clash (cc)
second_of false b none e = e

second_holds : (a b : Bool) → a && b ≡ true → b ≡ true
second_holds true b e = e
second_holds false b e = clash (cc)

module _ {slots period tick : ℕ} (some : 0 < slots) (good : GoodSetup period tick) (w : Watched) (held : True slots period tick w) where
  abbrev m : Machine
  m = w.machine

  abbrev l : Ledger
  l = w.machine.ledger

  -- where an operation's last row holds, a count of windows is full
  window_full : (g : Gaps) (op : Operation) → FairSample period w.ran w.at_c g → (stepping.task_step m (T.Sample g (W.Operate op))).outcome ≡ Err Why.WontFit → rises op (concerned_record l op).track_usage && eqb (concerned_record l op).num_windows max32 ≡ true
  unfolding full last_rows asked_by
  window_full g op fair e =
      let same = held.same in
      let p = stepping.touches_sum m (T.Sample g (W.Operate op)) e in
      let reading = reads_true some good w held g fair (stepping.sample_accepted m g (W.Operate op) p.0) in
      let cycles : m.timer.counter.cycles.0 ≡ w.ran = ap (λ (t : Timer). t.counter.cycles.0) same.timer ∙ cycles_are period w.ran w.at_c (clock.after same.events (clock.start period tick)) same.tracks in
      let below = ltb-false max64 (m.timer.counter.cycles.0 + cycles_of g) p.0.passed.fits in
      let fit = rw (sym same.entered) at (sums_fit slots some same.entries (time_c w.ran g) (later 0 same.entries w.ran (time_c w.ran g) held.timely (omega arith)) (omega arith) op) in
      second_of _ _ fit (rw reading at (holds p.1))
    where
      holds : FirstIs (full_row m op g ∷ []) Why.WontFit → (full_row m op g).0 ≡ true
      holds (inl here) = here.0
      holds (inr rest) = absurd rest.1

  -- what is no operation has no such row, and of the operations only enable a window
  no_sum : (r : Record) → Fair period w.ran w.at_c (does_of r 0) → (stepping.task_step m (task_of r)).outcome ≡ Err Why.WontFit → FirstIs (last_rows m (task_of r)) Why.WontFit → (i : ℕ) × (g : Gaps) × (r ≡ K.Enable i g) × ((thread_record l i).num_windows ≡ max32)
  unfolding rises concerned task_of last_rows
  no_sum (K.Run p) fair e first = absurd first
  no_sum (K.Sample g) fair e first = absurd first
  no_sum K.Announce fair e first = clash (let found = (stepping.sum_of m T.Announce first).2 in cc)
  no_sum (K.Start i g) fair e first = clash (let q = window_full g (O.Start i) fair e in cc)
  no_sum (K.Switch i g) fair e first = clash (let q = window_full g (O.Switch i) fair e in cc)
  no_sum (K.Stop g) fair e first = clash (let q = window_full g O.Stop fair e in cc)
  no_sum (K.Enable i g) fair e first = (i, g, refl, eqb-true _ _ (second_holds (not (thread_record l i).track_usage) _ (window_full g (O.Enable i) fair e)))
  no_sum (K.Disable i g) fair e first = clash (let q = window_full g (O.Disable i) fair e in cc)
  no_sum (K.Report i) fair e first = absurd first
  no_sum (K.Setup s) fair e first = absurd first

  no_sum_refused : NoSumRefused step_of period w
  no_sum_refused r fair e =
      let there = rw (stepping.of_task m r) at e in
      no_sum r fair there (stepping.touches_sum m (task_of r) there).1

-- no record changes how many threads the table has
done_slots : (m : Machine) (task : Task) → slots_of (done_by m task).machine ≡ slots_of m
unfolding done_by
done_slots m (T.Run p) = refl
done_slots m (T.Sample g W.Tell) = refl
done_slots m (T.Sample g (W.Operate op)) = operate_slots m.ledger _ op
done_slots m T.Announce = refl
done_slots m (T.Report i) = refl
done_slots m (T.Setup s) = length-replicate (slots_of m) new_idle

accepted_slots : (m : Machine) (d : Decoded) → slots_of (accepted_by m d).machine ≡ slots_of m
unfolding accepted_by
accepted_slots m (Ok r) = done_slots m (task_of r)
accepted_slots m (Err why) = refl

step_slots : (m : Machine) (d : Decoded) → slots_of (step_of m d).machine ≡ slots_of m
unfolding step_of
step_slots m d = by_outcome (turned_away m (accepted_by m d)) _ (λ (s : Stepped). slots_of s.machine ≡ slots_of m) (rows_of m d) (λ why. kept (after_touch why)) (λ none. accepted_slots m d)
  where
    kept : (touched : Bool) → slots_of (cond touched (with_timer m (accepted_by m d).machine.timer) m) ≡ slots_of m
    kept true = refl
    kept false = refl

all_slots : (ds : List Decoded) (w : Watched) → slots_of (watch_all step_of ds w).machine ≡ slots_of w.machine
unfolding watch_all
all_slots [] w = refl
all_slots (d ∷ ds) w = all_slots ds (watch step_of d w) ∙ (ap slots_of (seen_machine (happened d (step_of w.machine d).outcome) (step_of w.machine d).machine w) ∙ step_slots w.machine d)

pub demand1 : Demand1 step_of
demand1 = record {
  decodes = decodes;
  exactly = λ m d. (every_refusal m d).0;
  kept = λ m d. (every_refusal m d).1;
  numbers = row_numbers;
  stays_whole = stays_whole;
  sixteen = λ ds i. ap (λ (n : ℕ). leb n i) (all_slots ds (watching (fresh_machine thread_slots)));
  from_setup = λ slots period tick some good ds.
      let w = watch_all step_of ds (at_setup step_of slots period tick) in (
        from_setup some good w (all_same some good ds (at_setup step_of slots period tick) (begin_same slots period tick good)),
        λ fair. no_sum_refused some good w (all_true some good ds (at_setup step_of slots period tick) fair (begin_true slots period tick good)),
      );
}
