-- In a fair run the onlooker of the threads has just what the machine's entries tell.
use Rattle.std.specs.Prelude.{Ok, Err}
use Prim.Native.Nat.{ℕ, ◌+◌, ◌<◌, ◌*◌}
use mathlib.Core.Path.{◌≡◌, refl, sym, ap, ◌∙◌, subst}
use mathlib.Core.Bool.{true}
use mathlib.Core.List.{List, [], ◌∷◌, ◌++◌, append-nil}
use native.Mathlib.Omega.{arith}
use Rattle.error.specs.declared.Refusal.{Refusal}
use Rattle.units.specs.declared.Cycles.{Cycles}
use Rattle.counter.specs.declared.Gaps.{Gaps}
use Rattle.clock.specs.declared.Timer.{Timer}
use Rattle.clock.specs.declared.Announcement.{Announcement}
use Rattle.counter.specs.Readings.{cycles_of}
use Rattle.clock.specs.Sample.{sample_value}
use Rattle.clock.specs.Entries.{sample_of}
use Rattle.clock.specs.Announce.{announce_of}
use Rattle.clock.specs.Timer.{GoodSetup}
use Rattle.clock.proofs.Run as clock
use Rattle.clock.proofs.Runs.{every_run}
use Rattle.books.specs.declared.Operation.{Operation}
use Rattle.ledger.specs.Operate.{operate_of}
use Rattle.ledger.proofs.Holds.{Timely}
use Rattle.ledger.specs.Threads.{operated}
use Rattle.ledger.proofs.Run as ledger
use Rattle.trace.specs.Decode.{Decoded}
use Rattle.table.specs.Table.{columns}
use Rattle.machine.specs.declared.Machine.{Machine}
use Rattle.table.specs.declared.Values.{Values}
use Rattle.table.specs.declared.Reason.TheVariants as Why
use Rattle.table.specs.declared.tasks.Task.{Task}
use Rattle.table.specs.declared.tasks.Task.TheVariants as T
use Rattle.table.specs.declared.tasks.Then.TheVariants as W
use Rattle.table.specs.Task.{task_of}
use Rattle.machine.specs.Step.{core_of, step_of}
use Rattle.machine.proofs.Accepting.{Samples}
use Rattle.machine.proofs.Stepping as stepping
use Rattle.machine.proofs.Stepping.{task_step, Touches}
use Rattle.demands.specs.Trace.{Does, nothing, samples, operates, happened, Watched, time_c, seen, Fair, FairSample, watch, watch_all, at_setup, FairTrace}
use Rattle.demands.proofs.Counting.{time_is, fair_sample}
use Rattle.demands.proofs.Moving.{task_does, happened_by, happened_is, Ending, taken, summed, left, time_of, on_and_on, fair_on, entries_on, later, one_later, ending, entry_at, idle, operation, moved, answered_of, told_of, announced_after, told_accepted, told_refused, adds, sum_adds, sum_announces, refused_left}
use Rattle.demands.proofs.Watching.{Same, announces, has_slots, at, touched_same, left_same, after_task, watched_task, begin_same}

-- in a fair run, besides: our onlooker of the threads has just what the machine's entries tell
pub record True (slots period tick : ℕ) (w : Watched) : Type 0 where
  pub same : Same slots period tick w
  pub fair : clock.FairRun same.events (clock.start period tick)
  pub threads : w.threads ≡ (ledger.after same.entries (ledger.begin slots)).threads
  pub printed : w.since ≡ (ledger.after same.entries (ledger.begin slots)).answered
  pub timely : Timely 0 same.entries w.ran

-- what a record's entry tells the ledger's onlooker, accepted or refused
module _ (lw : ledger.World) (m : Machine) (together : lw.ledger ≡ m.ledger) (reading : Cycles) (op : Operation) where
  abbrev entry : ledger.Event
  entry = record { operation = op; time = reading.0 }

  accepted_entry : (x : ℕ) → (operate_of m.ledger reading op).answer ≡ Ok x → ((ledger.step entry lw).threads ≡ operated lw.threads op reading.0) × ((ledger.step entry lw).answered ≡ ledger.answered_after lw.threads op lw.answered x)
  unfolding ledger.step
  accepted_entry x e = rw (together, e) (refl, refl)

  refused_entry : (why : Refusal) → (operate_of m.ledger reading op).answer ≡ Err why → ((ledger.step entry lw).threads ≡ lw.threads) × ((ledger.step entry lw).answered ≡ lw.answered)
  unfolding ledger.step
  refused_entry why e = rw (together, e) (refl, refl)

module _ (w : Watched) (x : clock.World) (together : w.machine.timer ≡ x.timer) (ready : w.machine.ready ≡ true) (announced : (a : Announcement) × (announce_of w.machine.timer ≡ Ok a)) where
  abbrev m : Machine
  m = w.machine

  entries_by : (task : Task) → Touches m task → List ledger.Event
  entries_by task t = (moved m x together task ready announced t).entries

  module _ (period : ℕ) (reads : (g : Gaps) → FairSample period w.ran w.at_c g → Samples (core_of m) g → (sample_value m.timer g).reading.0 ≡ time_c w.ran g) where
    -- no time falls
    none_more : (es : List ledger.Event) (to : ℕ) → Timely 0 es to → Timely 0 (es ++ []) to
    none_more es to timely = subst (λ (l : List ledger.Event). Timely 0 l to) (sym (append-nil es)) timely

    one_more : (g : Gaps) (op : Operation) → Touches m (T.Sample g (W.Operate op)) → FairSample period w.ran w.at_c g → (es : List ledger.Event) → Timely 0 es w.ran → Timely 0 (es ++ entry_at m g op ∷ []) (w.ran + cycles_of g)
    one_more g op t fair es timely =
        let is = reads g fair (stepping.sample_accepted m g (W.Operate op) t) in
        one_later 0 es (entry_at m g op) (w.ran + cycles_of g) (later 0 es w.ran (sample_value m.timer g).reading.0 timely (omega arith)) (omega arith)

    on_time : (task : Task) (t : Touches m task) (n : ℕ) → Fair period w.ran w.at_c (task_does task n) → (es : List ledger.Event) → Timely 0 es w.ran → Timely 0 (es ++ entries_by task t) (seen (task_does task n) (task_step m task).machine w).ran
    unfolding seen moved entries_by idle operation
    on_time (T.Run p) t n fair es timely = none_more es _ (later 0 es w.ran (w.ran + p) timely (omega arith))
    on_time (T.Sample g W.Tell) t n fair es timely = none_more es _ (later 0 es w.ran (w.ran + cycles_of g) timely (omega arith))
    on_time (T.Sample g (W.Operate op)) t n fair es timely = one_more g op t fair es timely
    on_time T.Announce t n fair es timely = none_more es w.ran timely
    on_time (T.Report i) t n fair es timely = none_more es w.ran timely
    on_time (T.Setup s) t n fair es timely = absurd (stepping.no_setup m s ready t)

    -- the ledger's onlooker is told of an accepted operation what ours is told
    module _ (lw : ledger.World) (l : lw.ledger ≡ m.ledger) (th : lw.threads ≡ w.threads) (pr : lw.answered ≡ w.since) (next : Machine) where
      abbrev Tells : Does → List ledger.Event → Type 0
      Tells d es = ((ledger.after es lw).threads ≡ (seen d next w).threads) × ((ledger.after es lw).answered ≡ (seen d next w).since)

      told_operation : (g : Gaps) (op : Operation) → Touches m (T.Sample g (W.Operate op)) → FairSample period w.ran w.at_c g → (values : Values) → (task_step m (T.Sample g (W.Operate op))).outcome ≡ Ok values → Tells (operates op g values.x) (entry_at m g op ∷ [])
      unfolding seen ledger.after
      told_operation g op t fair values e =
          let reading = (sample_value m.timer g).reading in
          let answer = told_accepted (operate_of m.ledger reading op).answer values (sym (stepping.answered m g op t) ∙ e) in
          let done = accepted_entry lw m l reading op values.x answer in
          let is = reads g fair (stepping.sample_accepted m g (W.Operate op) t) in
          (done.0 ∙ rw (th, is) refl, done.1 ∙ rw (th, pr) refl)

      tells : (task : Task) (t : Touches m task) (values : Values) → Fair period w.ran w.at_c (task_does task values.x) → (task_step m task).outcome ≡ Ok values → Tells (task_does task values.x) (entries_by task t)
      unfolding seen moved entries_by ledger.after idle operation
      tells (T.Run p) t values fair e = (th, pr)
      tells (T.Sample g W.Tell) t values fair e = (th, pr)
      tells (T.Sample g (W.Operate op)) t values fair e = told_operation g op t fair values e
      tells T.Announce t values fair e = (th, pr)
      tells (T.Report i) t values fair e = (th, pr)
      tells (T.Setup s) t values fair e = absurd (stepping.no_setup m s ready t)

      -- of a refused one, nothing
      keeps : (g : Gaps) (op : Operation) (t : Touches m (T.Sample g (W.Operate op))) → (task_step m (T.Sample g (W.Operate op))).outcome ≡ Err Why.WontFit → Tells (samples g) (entries_by (T.Sample g (W.Operate op)) t)
      unfolding seen moved entries_by ledger.after operation
      keeps g op t e =
          let reading = (sample_value m.timer g).reading in
          let answer = told_refused (operate_of m.ledger reading op).answer Why.WontFit (sym (stepping.answered m g op t) ∙ e) in
          let done = refused_entry lw m l reading op answer.0 answer.1 in
          (done.0 ∙ th, done.1 ∙ pr)

-- a fair sample reads the time of its C
module _ {slots period tick : ℕ} (some : 0 < slots) (good : GoodSetup period tick) where
  module _ (w : Watched) (held : True slots period tick w) where
    abbrev x : clock.World
    x = clock.after held.same.events (clock.start period tick)

    fair_event : (g : Gaps) → FairSample period w.ran w.at_c g → Samples (core_of w.machine) g → clock.FairRun (clock.sample g ∷ []) x
    fair_event g fair accepted =
        let there : sample_of x.timer g ≡ Ok (sample_value x.timer g) = subst (λ (t : Timer). sample_of t g ≡ Ok (sample_value t g)) held.same.timer accepted in
        (rw there (fair_sample period w.ran w.at_c x held.same.tracks g fair), tt)

    pub reads_true : (g : Gaps) → FairSample period w.ran w.at_c g → Samples (core_of w.machine) g → (sample_value w.machine.timer g).reading.0 ≡ time_c w.ran g
    unfolding clock.after clock.step
    reads_true g fair accepted =
        let same = held.same in
        let here = fair_on same.events (clock.sample g ∷ []) (clock.start period tick) held.fair (fair_event g fair accepted) in
        let reads = ((every_run period tick good (same.events ++ clock.sample g ∷ [])).faithful here).reads in
        rw (on_and_on same.events (clock.sample g ∷ []) (clock.start period tick), sym same.timer, accepted) at reads ∙
        time_is period w.ran w.at_c x same.tracks g

    -- the clock's premises are ours
    fair_time : (task : Task) → Touches w.machine task → (n : ℕ) → Fair period w.ran w.at_c (task_does task n) → clock.FairRun (time_of task) x
    unfolding time_of
    fair_time (T.Run p) t n fair = (tt, tt)
    fair_time (T.Sample g W.Tell) t n fair = fair_event g fair (stepping.sample_accepted w.machine g W.Tell t)
    fair_time (T.Sample g (W.Operate op)) t n fair = fair_event g fair (stepping.sample_accepted w.machine g (W.Operate op) t)
    fair_time T.Announce t n fair = (tt, tt)
    fair_time (T.Report i) t n fair = tt
    fair_time (T.Setup s) t n fair = tt

module _ {slots period tick : ℕ} (some : 0 < slots) (good : GoodSetup period tick) where
  module _ (w : Watched) (task : Task) (held : True slots period tick w) (t : Touches w.machine task) (n : ℕ) (fair : Fair period w.ran w.at_c (task_does task n)) where
    abbrev after : Machine
    after = (task_step w.machine task).machine

    abbrev so_far : clock.World
    so_far = clock.after held.same.events (clock.start period tick)

    abbrev entered_so_far : ledger.World
    entered_so_far = ledger.after held.same.entries (ledger.begin slots)

    abbrev entries_now : List ledger.Event
    entries_now = entries_by w so_far held.same.timer held.same.ready (announces some good w held.same) task t

    touched_true : (d : Does) (er : (seen d after w).ran ≡ (seen (task_does task n) after w).ran) (ec : (seen d after w).at_c ≡ (seen (task_does task n) after w).at_c) (total : after.ledger.books.total.0 ≡ w.machine.ledger.books.total.0 + answered_of d) → (announced : after.timer.clock.announced.0 ≡ w.machine.timer.clock.announced.0 + told_of d * w.machine.timer.clock.tick) → ((ledger.after entries_now entered_so_far).threads ≡ (seen d after w).threads) × ((ledger.after entries_now entered_so_far).answered ≡ (seen d after w).since) → True slots period tick (seen d after w)
    unfolding touched_same entries_by at
    touched_true d er ec total announced told =
        let same = held.same in
        let more = entries_on same.entries entries_now (ledger.begin slots) in
        record {
          same = touched_same some good w task same t d n er ec total announced;
          fair = fair_on same.events (time_of task) (clock.start period tick) held.fair (fair_time some good w held task t n fair);
          threads = sym told.0 ∙ ap (λ (y : ledger.World). y.threads) (sym more);
          printed = sym told.1 ∙ ap (λ (y : ledger.World). y.answered) (sym more);
          timely = rw er (on_time w so_far same.timer same.ready (announces some good w same) period (reads_true some good w held) task t n fair same.entries held.timely);
        }

  left_true : (w : Watched) (machine : Machine) → machine ≡ w.machine → True slots period tick w → True slots period tick (seen nothing machine w)
  unfolding left_same seen
  left_true w machine e held = record { same = left_same some good w machine e held.same; fair = held.fair; threads = held.threads; printed = held.printed; timely = held.timely }

  module _ (w : Watched) (held : True slots period tick w) where
    abbrev same : Same slots period tick w
    same = held.same

    -- what the ledger's onlooker is told, from here on
    abbrev clock_here : clock.World
    clock_here = clock.after same.events (clock.start period tick)

    abbrev ledger_here : ledger.World
    ledger_here = ledger.after same.entries (ledger.begin slots)

    FairTask : Task → Type 0
    FairTask task = Fair period w.ran w.at_c (happened_by task (task_step w.machine task).outcome)

    sum_true : (g : Gaps) (op : Operation) → (task_step w.machine (T.Sample g (W.Operate op))).outcome ≡ Err Why.WontFit → Touches w.machine (T.Sample g (W.Operate op)) → FairTask (T.Sample g (W.Operate op)) → True slots period tick (after_task (T.Sample g (W.Operate op)) w)
    unfolding FairTask happened_by columns seen answered_of told_of
    sum_true g op e t fair =
        rw e
        (touched_true w (T.Sample g (W.Operate op)) held t 0 (rw e at fair) (samples g) refl refl (sum_adds w.machine g op e) (sum_announces w.machine g op e)
        (keeps w clock_here same.timer same.ready (announces some good w same) period (reads_true some good w held) ledger_here (sym same.entered) (sym held.threads) (sym held.printed) (task_step w.machine (T.Sample g (W.Operate op))).machine g op t e))

    task_true : (task : Task) → FairTask task → True slots period tick (after_task task w)
    unfolding FairTask happened_by
    task_true task fair = by_ending (ending w.machine task)
      where
        by_ending : Ending w.machine task → True slots period tick (after_task task w)
        by_ending (taken values e t) =
            let now = rw e at fair in
            rw e
            (touched_true w task held t values.x now (task_does task values.x) refl refl (adds w.machine same.ready (has_slots some good w same) values task t e) (announced_after w.machine values same.ready task t e)
            (tells w clock_here same.timer same.ready (announces some good w same) period (reads_true some good w held) ledger_here (sym same.entered) (sym held.threads) (sym held.printed) (task_step w.machine task).machine task t values now e))
        by_ending (summed g op is e t) = rw is (sum_true g op e t (rw is at fair))
        by_ending (left why e before stays) = rw (e, before) (left_true w _ stays held)

  pub watch_true : (d : Decoded) (w : Watched) → Fair period w.ran w.at_c (happened d (step_of w.machine d).outcome) → True slots period tick w → True slots period tick (watch step_of d w)
  unfolding FairTask happened
  watch_true (Ok r) w fair held =
      subst (True slots period tick) (sym (watched_task r w)) (task_true w held (task_of r) (subst (Fair period w.ran w.at_c) (happened_is w.machine r) fair))
  watch_true (Err why) w fair held = left_true w _ (refused_left w.machine why) held

  pub all_true : (ds : List Decoded) (w : Watched) → FairTrace step_of period ds w → True slots period tick w → True slots period tick (watch_all step_of ds w)
  unfolding watch_all FairTrace
  all_true [] w fair held = held
  all_true (d ∷ ds) w fair held = all_true ds (watch step_of d w) fair.1 (watch_true d w fair.0 held)

pub begin_true : (slots period tick : ℕ) → GoodSetup period tick → True slots period tick (at_setup step_of slots period tick)
unfolding begin_same ledger.after
begin_true slots period tick good = record { same = begin_same slots period tick good; fair = tt; threads = refl; printed = refl; timely = omega arith }
