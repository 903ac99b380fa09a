-- The machine and its onlooker stay together, record by record, with no premises.
use Rattle.std.specs.Prelude.{Result, Ok, Err}
use Prim.Native.Nat.{ℕ, ◌+◌, ◌*◌, ◌<◌}
use mathlib.Core.Path.{◌≡◌, refl, sym, ap, ◌∙◌, subst}
use mathlib.Core.Bool.{Bool, true, false, cond}
use mathlib.Core.List.{List, [], ◌∷◌, ◌++◌}
use native.Mathlib.Omega.{arith}
use native.Mathlib.Nat.{add-zero, add-mul, zero-mul}
use lib.ListN.{length, length-set, length-replicate}
use Rattle.error.proofs.Ordered.{by_outcome}
use Rattle.units.specs.declared.Cycles.{Cycles}
use Rattle.usage.specs.Formulas.{new_idle}
use Rattle.counter.specs.Cycle.{run_n, wraps}
use Rattle.counter.specs.declared.Gaps.{Gaps}
use Rattle.clock.specs.declared.Timer.{Timer}
use Rattle.clock.specs.declared.Announcement.{Announcement}
use Rattle.clock.specs.Announce.{announce_of}
use Rattle.clock.specs.Timer.{GoodSetup}
use Rattle.clock.proofs.Run as clock
use Rattle.clock.proofs.Runs.{every_run}
use Rattle.books.specs.declared.Operation.{Operation}
use Rattle.books.specs.Running.{concerned}
use Rattle.ledger.specs.declared.Ledger.{Ledger}
use Rattle.ledger.specs.declared.Ledgered.{Ledgered}
use Rattle.ledger.specs.Operate.{refused_with, stored_in, operate_tests, operate_of}
use Rattle.ledger.specs.Records.{fresh_ledger}
use Rattle.trace.specs.declared.Record.{Record}
use Rattle.trace.specs.declared.Record.TheVariants as K
use Rattle.ledger.specs.Threads.{begins}
use Rattle.ledger.proofs.Run as ledger
use Rattle.trace.specs.Decode.{Decoded}
use Rattle.table.specs.declared.Reason.TheVariants as Why
use Rattle.table.specs.declared.tasks.Task.{Task}
use Rattle.table.specs.declared.tasks.Task.TheVariants as T
use Rattle.table.specs.declared.tasks.Then.TheVariants as W
use Rattle.table.specs.Task.{task_of}
use Rattle.table.specs.Table.{columns}
use Rattle.machine.specs.declared.Machine.{Machine}
use Rattle.machine.specs.declared.Stepped.{Stepped}
use Rattle.machine.specs.Step.{last_rows, done_by, fresh_machine, step_of}
use Rattle.machine.proofs.Stepping as stepping
use Rattle.machine.proofs.Stepping.{task_step, Touches}
use Rattle.demands.specs.Trace.{Does, nothing, runs, tell, samples, operates, Watched, seen, watch, watch_all, at_setup, happened}
use Rattle.demands.proofs.Counting.{Tracks}
use Rattle.demands.proofs.Moving.{task_does, happened_by, happened_is, Ending, taken, summed, left, time_of, on_and_on, entries_on, ending, Moved, moved, Follows, follows, answered_of, adds, told_of, announced_after, sum_adds, sum_announces, refused_left}
use Rattle.books.specs.declared.Entry.{Entry}
use Rattle.error.specs.declared.Refusal.{Refusal}

-- the onlooker's sum goes up by as much
abbrev pub Rise : Watched → Type 0
Rise w = w.machine.ledger.books.total.0 ≡ w.before + w.since

pub rise_seen : (d : Does) (after : Machine) (w : Watched) → Rise w → after.ledger.books.total.0 ≡ w.machine.ledger.books.total.0 + answered_of d → Rise (seen d after w)
unfolding answered_of seen
rise_seen nothing after w rise e = omega arith
rise_seen (runs n) after w rise e = omega arith
rise_seen (tell n) after w rise e = omega arith
rise_seen (samples g) after w rise e = omega arith
rise_seen (operates op g x) after w rise e = by_test (begins w.threads op)
  where
    by_test : (new : Bool) → after.ledger.books.total.0 ≡ cond new (w.before + w.since) w.before + cond new x (w.since + x)
    by_test true = omega arith
    by_test false = omega arith

pub seen_machine : (d : Does) (after : Machine) (w : Watched) → (seen d after w).machine ≡ after
unfolding seen
seen_machine nothing after w = refl
seen_machine (runs n) after w = refl
seen_machine (tell n) after w = refl
seen_machine (samples g) after w = refl
seen_machine (operates op g x) after w = refl

-- the onlooker's ticks
pub told_seen : (d : Does) (after : Machine) (w : Watched) → (seen d after w).ticks ≡ w.ticks + told_of d
unfolding seen told_of
told_seen nothing after w = sym (add-zero _)
told_seen (runs n) after w = sym (add-zero _)
told_seen (tell n) after w = refl
told_seen (samples g) after w = sym (add-zero _)
told_seen (operates op g x) after w = sym (add-zero _)

pub told_more : {now before tick-now more tick : ℕ} (ticks n : ℕ) → now ≡ before + n * tick-now → tick-now ≡ tick → before ≡ ticks * tick → more ≡ ticks + n → now ≡ more * tick
told_more {now} {before} {tick-now} {more} {tick} ticks n e same_tick was is = e ∙ rw (same_tick, was, is) (sym (add-mul ticks n tick))

-- what stays true of a run from setup, with no premises: the machine is set up, its counter and clock are those of the
-- clock's onlooker, who counts as ours does, and its ledger is what some entries come to
pub record Same (slots period tick : ℕ) (w : Watched) : Type 0 where
  pub ready : w.machine.ready ≡ true
  pub events : List clock.Event
  pub timer : w.machine.timer ≡ (clock.after events (clock.start period tick)).timer
  pub tracks : Tracks period w.ran w.at_c (clock.after events (clock.start period tick))
  pub entries : List ledger.Event
  pub entered : w.machine.ledger ≡ (ledger.after entries (ledger.begin slots)).ledger
  pub rise : Rise w
  pub told : w.machine.timer.clock.announced.0 ≡ w.ticks * tick

-- the table keeps its size
stored_slots : (l : Ledger) (k : ℕ) (x : Result Entry Refusal) → length (stored_in l k x).ledger.threads ≡ length l.threads
unfolding stored_in
stored_slots l k (Ok e) = length-set l.threads k e.usage
stored_slots l k (Err why) = refl

pub operate_slots : (l : Ledger) (reading : Cycles) (op : Operation) → length (operate_of l reading op).ledger.threads ≡ length l.threads
unfolding operate_of
operate_slots l reading op = by_outcome (refused_with l) _ (λ (x : Ledgered). length x.ledger.threads ≡ length l.threads) (operate_tests l op) (λ why. refl) (λ none. stored _)
  where
    stored : (x : Result Entry Refusal) → length (stored_in l (concerned l.books op) x).ledger.threads ≡ length l.threads
    stored = stored_slots l (concerned l.books op)

step_slots : (e : ledger.Event) (w : ledger.World) → length (ledger.step e w).ledger.threads ≡ length w.ledger.threads
unfolding ledger.step
step_slots e w = by_answer (operate_of w.ledger (record { 0 = e.time }) e.operation).answer ∙ operate_slots w.ledger (record { 0 = e.time }) e.operation
  where
    by_answer : (a : Result ℕ Refusal) → length (ledger.after_answer w e (operate_of w.ledger (record { 0 = e.time }) e.operation).ledger a).ledger.threads ≡ length (operate_of w.ledger (record { 0 = e.time }) e.operation).ledger.threads
    by_answer (Ok cycles) = refl
    by_answer (Err why) = refl

after_slots : (es : List ledger.Event) (w : ledger.World) → length (ledger.after es w).ledger.threads ≡ length w.ledger.threads
unfolding ledger.after
after_slots [] w = refl
after_slots (e ∷ es) w = after_slots es (ledger.step e w) ∙ step_slots e w

pub table_size : {slots period tick : ℕ} (w : Watched) → Same slots period tick w → length w.machine.ledger.threads ≡ slots
table_size {slots} w same = ap (λ (l : Ledger). length l.threads) same.entered ∙ (after_slots same.entries (ledger.begin slots) ∙ length-replicate slots new_idle)

-- what the onlooker keeps after a task
abbrev pub after_task : Task → Watched → Watched
after_task task w = seen (happened_by task (task_step w.machine task).outcome) (task_step w.machine task).machine w

-- which is what it keeps after the record
pub watched_task : (r : Record) (w : Watched) → watch step_of (Ok r) w ≡ after_task (task_of r) w
watched_task r w =
    ap (λ (d : Does). seen d (step_of w.machine (Ok r)).machine w) (happened_is w.machine r) ∙
    ap (λ (s : Stepped). seen (happened_by (task_of r) (task_step w.machine (task_of r)).outcome) s.machine w) (stepping.of_task w.machine r)

module _ {slots period tick : ℕ} (some : 0 < slots) (good : GoodSetup period tick) where
  pub announces : (w : Watched) → Same slots period tick w → (a : Announcement) × (announce_of w.machine.timer ≡ Ok a)
  announces w same =
      let a = (every_run period tick good same.events).always.announce_accepted in
      (a.0, ap announce_of same.timer ∙ a.1)

  pub same_tick : (w : Watched) → Same slots period tick w → w.machine.timer.clock.tick ≡ tick
  same_tick w same = ap (λ (t : Timer). t.clock.tick) same.timer ∙ (every_run period tick good same.events).always.same_tick

  pub has_slots : (w : Watched) → Same slots period tick w → 0 < length w.machine.ledger.threads
  has_slots w same = subst (λ (n : ℕ). 0 < n) (sym (table_size w same)) some

  -- a touched task, told as what it did or, where a sum was refused, as its sample
  module _ (w : Watched) (task : Task) (same : Same slots period tick w) (t : Touches w.machine task) where
    abbrev next : Machine
    next = (task_step w.machine task).machine

    unfoldable pub at : Moved w.machine (clock.after same.events (clock.start period tick)) task
    at = moved w.machine (clock.after same.events (clock.start period tick)) same.timer task same.ready (announces w same) t

    unfoldable pub touched_same : (d : Does) (n : ℕ) → (seen d next w).ran ≡ (seen (task_does task n) next w).ran → (seen d next w).at_c ≡ (seen (task_does task n) next w).at_c → next.ledger.books.total.0 ≡ w.machine.ledger.books.total.0 + answered_of d → next.timer.clock.announced.0 ≡ w.machine.timer.clock.announced.0 + told_of d * w.machine.timer.clock.tick → Same slots period tick (seen d next w)
    unfolding Follows
    touched_same d n er ec total announced =
        let x = clock.after same.events (clock.start period tick) in
        let step = follows w.machine x same.timer period w same.tracks next n task same.ready t in
        let world = on_and_on same.events (time_of task) (clock.start period tick) in
        let is = seen_machine d next w in
        record {
          ready = ap (λ (m : Machine). m.ready) is ∙ (at.ready ∙ same.ready);
          events = same.events ++ time_of task;
          timer = ap (λ (m : Machine). m.timer) is ∙ (at.timer ∙ ap (λ (y : clock.World). y.timer) (sym world));
          tracks = rw (er, ec, world) step;
          entries = same.entries ++ at.entries;
          entered = ap (λ (m : Machine). m.ledger) is ∙ (at.entered (ledger.after same.entries (ledger.begin slots)) (sym same.entered) ∙ sym (ap (λ (y : ledger.World). y.ledger) (entries_on same.entries at.entries (ledger.begin slots))));
          rise = rise_seen d next w same.rise total;
          told = ap (λ (m : Machine). m.timer.clock.announced.0) is ∙ told_more w.ticks (told_of d) announced (same_tick w same) same.told (told_seen d next w);
        }

  -- one that left the machine as it was
  unfoldable pub left_same : (w : Watched) (machine : Machine) → machine ≡ w.machine → Same slots period tick w → Same slots period tick (seen nothing machine w)
  unfolding seen
  left_same w machine e same = record { ready = rw e same.ready; events = same.events; timer = rw e same.timer; tracks = same.tracks; entries = same.entries; entered = rw e same.entered; rise = rw e same.rise; told = rw e same.told }

  task_same : (task : Task) (w : Watched) → Same slots period tick w → Same slots period tick (after_task task w)
  unfolding happened_by columns seen answered_of told_of
  task_same task w same = by_ending (ending w.machine task)
    where
      after_sum : (g : Gaps) (op : Operation) → (task_step w.machine (T.Sample g (W.Operate op))).outcome ≡ Err Why.WontFit → Touches w.machine (T.Sample g (W.Operate op)) → Same slots period tick (after_task (T.Sample g (W.Operate op)) w)
      after_sum g op e t = rw e (touched_same w (T.Sample g (W.Operate op)) same t (samples g) 0 refl refl (sum_adds w.machine g op e) (sum_announces w.machine g op e))

      by_ending : Ending w.machine task → Same slots period tick (after_task task w)
      by_ending (taken values e t) = rw e (touched_same w task same t (task_does task values.x) values.x refl refl (adds w.machine same.ready (has_slots w same) values task t e) (announced_after w.machine values same.ready task t e))
      by_ending (summed g op is e t) = rw is (after_sum g op e t)
      by_ending (left why e before stays) = rw (e, before) (left_same w _ stays same)

  pub watch_same : (d : Decoded) (w : Watched) → Same slots period tick w → Same slots period tick (watch step_of d w)
  unfolding happened
  watch_same (Ok r) w same = subst (Same slots period tick) (sym (watched_task r w)) (task_same (task_of r) w same)
  watch_same (Err why) w same = left_same w _ (refused_left w.machine why) same

  pub all_same : (ds : List Decoded) (w : Watched) → Same slots period tick w → Same slots period tick (watch_all step_of ds w)
  unfolding watch_all
  all_same [] w same = same
  all_same (d ∷ ds) w same = all_same ds (watch step_of d w) (watch_same d w same)

pub setup_machine : (slots period tick : ℕ) → GoodSetup period tick → (at_setup step_of slots period tick).machine ≡ record { ready = true; timer = (clock.start period tick).timer; ledger = (ledger.begin slots).ledger }
unfolding task_of last_rows done_by
setup_machine slots period tick good =
    ap (λ (s : Stepped). s.machine) (stepping.of_task (fresh_machine slots) (K.Setup (record { period = period; tick = tick })) ∙ stepping.done (fresh_machine slots) (T.Setup (record { period = period; tick = tick })) refl (stepping.setup_touches (fresh_machine slots) (record { period = period; tick = tick }) refl good refl)) ∙
    ap (λ (n : ℕ). record { ready = true; timer = (clock.start period tick).timer; ledger = fresh_ledger n }) (length-replicate slots new_idle)

unfoldable pub begin_same : (slots period tick : ℕ) → GoodSetup period tick → Same slots period tick (at_setup step_of slots period tick)
unfolding clock.after ledger.after run_n wraps
begin_same slots period tick good =
    let e = setup_machine slots period tick good in
    record {
      ready = ap (λ (m : Machine). m.ready) e;
      events = [];
      timer = ap (λ (m : Machine). m.timer) e;
      tracks = record { alike = record { period = refl; value = refl; cycles = refl }; at_c_is = refl; before = refl; wraps_all = refl };
      entries = [];
      entered = ap (λ (m : Machine). m.ledger) e;
      rise = ap (λ (m : Machine). m.ledger.books.total.0) e;
      told = ap (λ (m : Machine). m.timer.clock.announced.0) e ∙ sym (zero-mul tick);
    }
