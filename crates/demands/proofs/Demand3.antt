-- Demand 3 over whole traces, from what the clock's and the ledger's runs are known to do.
use Rattle.std.specs.Prelude.{Ok}
use Prim.Native.Nat.{ℕ, ◌+◌, ◌*◌, ◌≤◌, ◌<◌}
use mathlib.Core.Path.{◌≡◌, refl, sym, ap, ◌∙◌}
use native.Mathlib.Nat.{mul-le-mul_right}
use Rattle.systick.proofs.Bounds.{quotients_keep_order}
use Rattle.counter.specs.declared.Gaps.{Gaps}
use Rattle.clock.specs.declared.Timer.{Timer}
use Rattle.clock.specs.Timer.{GoodSetup}
use Rattle.clock.specs.Announce as clock-announces
use Rattle.clock.specs.Announce.{announce_of}
use Rattle.clock.proofs.Run as clock
use Rattle.clock.proofs.Holds.{Tells}
use Rattle.clock.proofs.Runs as clock-runs
use Rattle.ledger.proofs.Agreeing as ledger-runs
use Rattle.trace.specs.declared.Record.TheVariants as K
use Rattle.table.specs.declared.Values.{Values}
use Rattle.machine.specs.Step.{done_by, step_of}
use Rattle.table.specs.declared.tasks.Task.TheVariants as T
use Rattle.table.specs.declared.tasks.Then.TheVariants as W
use Rattle.table.specs.Task.{task_of}
use Rattle.machine.proofs.Accepting.{announcement_is}
use Rattle.machine.proofs.Stepping as stepping
use Rattle.machine.proofs.Stepping.{every_answer}
use Rattle.demands.specs.Trace.{Watched, wraps_by, time_c, FairSample, watch_all, at_setup}
use Rattle.demands.specs.Demand3.{Announces, Always, Fairly, Demand3}
use Rattle.demands.proofs.Counting.{cycles_are, above, wraps_are}
use Rattle.demands.proofs.Watching.{Same, announces, same_tick, all_same, begin_same}
use Rattle.demands.proofs.Following.{True, reads_true, all_true, begin_true}

module _ {slots period tick : ℕ} (some : 0 < slots) (good : GoodSetup period tick) (w : Watched) (same : Same slots period tick w) where
  abbrev world : clock.World
  world = clock.after same.events (clock.start period tick)

  abbrev timer : Timer
  timer = w.machine.timer

  -- what the clock's run tells of an announcement here
  told : Tells period tick (clock-announces.announcement timer).timer.clock.announced.0 (clock-announces.announcement timer).timer.clock.count.0 timer.clock.last.0 world.seen
  unfolding clock.step
  told =
      let a = announces some good w same in
      let run = clock-runs.every_run period tick good same.events in
      let there : announce_of world.timer ≡ Ok (clock-announces.announcement timer) =
      ap announce_of (sym same.timer) ∙ (a.1 ∙ ap Ok (announcement_is timer a.0 a.1)) in
      let last : timer.clock.last.0 ≡ world.read = ap (λ (t : Timer). t.clock.last.0) same.timer ∙ run.always.last in
      rw last (rw there at run.announcements)

  announcement : (answered : Values) → (step_of w.machine (Ok K.Announce)).outcome ≡ Ok answered → Announces step_of period tick w.machine (step_of w.machine (Ok K.Announce)).machine answered
  unfolding done_by task_of
  announcement answered e =
      let law = every_answer w.machine K.Announce answered e in
      rw (law.0, law.1)
      (record {
        largest_multiple = told.largest;
        counts = told.whole;
        ticks = ap (λ (n : ℕ). timer.clock.announced.0 + (clock-announces.announcement timer).dticks.0 * n) (sym (same_tick some good w same));
        total = refl;
      })

  -- what is counted is the whole periods within the last reading, which is never above T at its C
  abbrev counted : ℕ
  counted = timer.clock.count.0 + timer.clock.overflow

  last_is : timer.clock.last.0 ≡ world.read
  last_is = ap (λ (t : Timer). t.clock.last.0) same.timer ∙ (clock-runs.every_run period tick good same.events).always.last

  no_wrap_twice : counted ≤ wraps_by period w.at_c * period
  no_wrap_twice =
      let below : timer.clock.last.0 ≤ w.at_c = rw (last_is, ← same.tracks.at_c_is) (clock-runs.every_run period tick good same.events).always.never_ahead.below in
      rw (told.whole, wraps_are period tick good w.at_c) (mul-le-mul_right period (quotients_keep_order _ _ period (above period tick good) below))

  always : Always step_of period tick w
  always = record {
    announcement = announcement;
    cycles = ap (λ (t : Timer). t.counter.cycles.0) same.timer ∙ cycles_are period w.ran w.at_c world same.tracks;
    announced = same.told;
    no_wrap_twice = no_wrap_twice;
    rise = same.rise;
  }

-- and in a fair run
module _ {slots period tick : ℕ} (some : 0 < slots) (good : GoodSetup period tick) (w : Watched) (held : True slots period tick w) where
  shows : (g : Gaps) (answered : Values) → FairSample period w.ran w.at_c g → (step_of w.machine (Ok (K.Sample g))).outcome ≡ Ok answered → w.machine.timer.clock.count.0 + answered.x ≡ time_c w.ran g
  unfolding done_by task_of
  shows g answered fair e =
      let accepted = stepping.sample_accepted w.machine g W.Tell (stepping.touches_accepted w.machine (T.Sample g W.Tell) answered (rw (stepping.of_task w.machine (K.Sample g)) at e)) in
      ap (λ (v : Values). w.machine.timer.clock.count.0 + v.x) (every_answer w.machine (K.Sample g) answered e).0 ∙ reads_true some good w held g fair accepted

  fairly : Fairly step_of period tick w
  fairly =
      let same = held.same in
      let run = clock-runs.every_run period tick good same.events in
      let near = (ledger-runs.every_run slots some same.entries).2 w.ran held.timely in
      record {
        reads = ap (λ (t : Timer). t.clock.last.0) same.timer ∙ (run.always.last ∙ ((run.faithful held.fair).reads ∙ same.tracks.at_c_is));
        each_wrap_once =
            let reads : w.machine.timer.clock.last.0 ≡ w.at_c = last_is some good w same ∙ ((run.faithful held.fair).reads ∙ same.tracks.at_c_is) in
            (told some good w same).whole ∙ rw (reads, wraps_are period tick good w.at_c) refl;
        shows = shows;
        totals = λ i. rw (same.entered, held.threads) (near.threads i);
        chain = rw (held.threads, held.printed) near.chain;
      }

pub demand3 : Demand3 step_of
demand3 slots period tick some good ds =
    let begun = begin_true slots period tick good in
    let w = watch_all step_of ds (at_setup step_of slots period tick) in
    (always some good w (all_same some good ds (at_setup step_of slots period tick) (begin_same slots period tick good)), λ fair. fairly some good w (all_true some good ds (at_setup step_of slots period tick) fair begun))
