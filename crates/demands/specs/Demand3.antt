-- Believed: demand 3, over whole traces from setup. Any list of records, refused ones included, by a machine's own step.
use Rattle.std.specs.Prelude.{ℕ, ◌+◌, ◌*◌, ◌/◌, ◌≤◌, ◌<◌, ◌≡◌, List, Ok}
use Rattle.counter.specs.declared.Gaps.{Gaps}
use Rattle.clock.specs.Timer.{GoodSetup}
use Rattle.clock.specs.Multiple.{LargestMultiple}
use Rattle.ledger.specs.Records.{thread_record}
use Rattle.ledger.specs.Sums.{TotalNear, ChainNear}
use Rattle.trace.specs.declared.Record.TheVariants as K
use Rattle.trace.specs.Decode.{Decoded}
use Rattle.table.specs.declared.Values.{Values}
use Rattle.machine.specs.declared.Machine.{Machine}
use Rattle.machine.specs.declared.Stepped.{Stepped}
use Rattle.demands.specs.Trace.{Watched, FairSample, wraps_by, time_c, watch_all, at_setup, FairTrace}

module _ (step : Machine → Decoded → Stepped) (period tick : ℕ) where
  -- an accepted announcement, from a machine to the next, with its answer
  pub record Announces (before after : Machine) (answered : Values) : Type 0 where
    pub largest_multiple : LargestMultiple period tick after.timer.clock.announced.0 before.timer.clock.last.0
    pub counts : after.timer.clock.count.0 ≡ before.timer.clock.last.0 / period * period
    -- the ticks answered are those by which announced rises
    pub ticks : before.timer.clock.announced.0 + answered.x * tick ≡ after.timer.clock.announced.0
    pub total : answered.y ≡ after.timer.clock.announced.0

  -- with no premises, after any trace
  pub record Always (w : Watched) : Type 0 where
    pub announcement : (answered : Values) → (step w.machine (Ok K.Announce)).outcome ≡ Ok answered → Announces w.machine (step w.machine (Ok K.Announce)).machine answered
    -- T is the cycles run, and announced the ticks answered, times the tick
    pub cycles : w.machine.timer.counter.cycles.0 ≡ w.ran
    pub announced : w.machine.timer.clock.announced.0 ≡ w.ticks * tick
    -- no wrap is counted twice: the whole periods counted are at most the real wraps up to the last C
    pub no_wrap_twice : w.machine.timer.clock.count.0 + w.machine.timer.clock.overflow ≤ wraps_by period w.at_c * period
    -- the machine total has risen since the last start by the cycles answered since
    pub rise : w.machine.ledger.books.total.0 ≡ w.before + w.since

  -- in a fair run
  pub record Fairly (w : Watched) : Type 0 where
    -- each clock reading equals the cycles run by then
    pub reads : w.machine.timer.clock.last.0 ≡ w.at_c
    -- and each real wrap up to then is counted, once
    pub each_wrap_once : w.machine.timer.clock.count.0 + w.machine.timer.clock.overflow ≡ wraps_by period w.at_c * period
    pub shows : (g : Gaps) (answered : Values) → FairSample period w.ran w.at_c g → (step w.machine (Ok (K.Sample g))).outcome ≡ Ok answered → w.machine.timer.clock.count.0 + answered.x ≡ time_c w.ran g
    -- each thread's total misses its true tracked cycles, over closed stretches, by at most one per stretch that begins or ends on a multiple of 2^32, where none exceeds 2^32 - 2 cycles
    pub totals : (i : ℕ) → TotalNear i (thread_record w.machine.ledger i).total_cycles.0 w.threads.closed
    -- all stretches since one start, summed as they were answered, miss by at most one
    pub chain : ChainNear w.since w.threads.last w.threads.times

abbrev pub Demand3 : (Machine → Decoded → Stepped) → Type 0
Demand3 step =
    (slots period tick : ℕ) → 0 < slots → GoodSetup period tick → (ds : List Decoded) →
    let w = watch_all step ds (at_setup step slots period tick) in
    Always step period tick w × (FairTrace step period ds (at_setup step slots period tick) → Fairly step period tick w)
