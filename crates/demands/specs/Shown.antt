-- Evidence: traces that show what the demands are worth. Their premises are met, each of them is needed, their bounds are attained, and records answer what 01 prints.
use Rattle.std.specs.Prelude.{ℕ, ◌+◌, ◌-◌, ◌≤◌, ◌<◌, ◌≡◌, List, [], ◌∷◌, ◌↔◌, Ok}
use Rattle.counter.specs.declared.Gaps.{Gaps}
use Rattle.counter.specs.Readings.{cycles_of}
use Rattle.clock.specs.Entries.{gaps}
use Rattle.ledger.specs.Records.{thread_record}
use Rattle.ledger.specs.Sums.{true_cycles, sum_of, edge, AllShort, ChainShort}
use Rattle.trace.specs.declared.Record.{Record}
use Rattle.trace.specs.declared.Record.TheVariants as K
use Rattle.trace.specs.Decode.{Decoded}
use Rattle.table.specs.declared.Values.{Values}
use Rattle.table.specs.Says.{values}
use Rattle.machine.specs.declared.Machine.{Machine}
use Rattle.machine.specs.Step.{step_of}
use Rattle.machine.specs.Shown.{at_once}
use Rattle.demands.specs.Trace.{Watched, time_c, wraps_by, FairSample, watch_all, at_setup, FairTrace}

abbrev pub taken : List Record → List Decoded
taken [] = []
taken (r ∷ rs) = Ok r ∷ taken rs

-- 01's printed case, after its setup
abbrev pub printed : List Decoded
printed =
    taken (
    K.Start 0 at_once ∷
    K.Run 9 ∷
    K.Sample (gaps 0 2 0) ∷
    K.Sample at_once ∷
    K.Announce ∷
    K.Enable 0 at_once ∷
    K.Run 12 ∷
    K.Switch 1 at_once ∷
    K.Report 0 ∷
    K.Stop at_once ∷
    [])

-- two windows of one thread, and what ran between them untracked
abbrev pub twice : List Decoded
twice = taken (K.Enable 0 at_once ∷ K.Start 0 at_once ∷ K.Run 5 ∷ K.Disable 0 at_once ∷ K.Run 3 ∷ K.Enable 0 at_once ∷ K.Run 6 ∷ K.Stop at_once ∷ K.Report 0 ∷ [])

-- the second thread, by every kind that names one
abbrev pub others : List Decoded
others = taken (K.Enable 1 at_once ∷ K.Start 1 at_once ∷ K.Run 5 ∷ K.Switch 0 at_once ∷ K.Run 3 ∷ K.Switch 1 at_once ∷ K.Run 2 ∷ K.Disable 1 at_once ∷ K.Run 4 ∷ K.Stop at_once ∷ K.Report 1 ∷ K.Report 1 ∷ K.Report 0 ∷ [])

-- a tracked stretch that begins at 0, a multiple of 2^32
abbrev pub from_zero : List Decoded
from_zero = taken (K.Enable 0 at_once ∷ K.Start 0 at_once ∷ K.Run 9 ∷ K.Stop at_once ∷ [])

-- three stretches from one start to its stop
abbrev pub three : List Decoded
three = taken (K.Start 0 at_once ∷ K.Run 3 ∷ K.Switch 1 at_once ∷ K.Run 2 ∷ K.Enable 1 at_once ∷ K.Run 4 ∷ K.Stop at_once ∷ [])

-- the machine and its onlooker after a trace, with period 10 and tick 4
abbrev pub after : List Decoded → Watched
after ds = watch_all step_of ds (at_setup step_of 2 10 4)

-- each record of a trace is accepted, and answers so
abbrev pub Answers : Machine → List Decoded → List Values → Type 0
Answers m [] [] = Unit {0}
Answers m [] (v ∷ vs) = ⊥
Answers m (d ∷ ds) [] = ⊥
Answers m (d ∷ ds) (v ∷ vs) = ((step_of m d).outcome ≡ Ok v) × Answers (step_of m d).machine ds vs

-- the last reading is so much at so many cycles
abbrev pub ReadsAt : List Record → ℕ → ℕ → Type 0
ReadsAt rs read cycles = ((after (taken rs)).machine.timer.clock.last.0 ≡ read) × ((after (taken rs)).at_c ≡ cycles)

-- the premises one by one, of a sample after a trace with period 10; a fair sample has all three
abbrev pub Quick : Gaps → Type 0
Quick g = g.p + g.q < 10

abbrev pub OneWrapAfter : List Record → Gaps → Type 0
OneWrapAfter rs g = let w = after (taken rs) in wraps_by 10 (time_c w.ran g) ≤ wraps_by 10 w.at_c + 1

abbrev pub NoneToDAfter : List Record → Gaps → Type 0
NoneToDAfter rs g = let w = after (taken rs) in wraps_by 10 w.at_c < wraps_by 10 (time_c w.ran g) → wraps_by 10 (w.ran + cycles_of g) ≡ wraps_by 10 (time_c w.ran g)

-- refused records, which leave the run as it is
abbrev pub refusals : List Decoded
refusals = taken (K.Start 9 at_once ∷ K.Setup (record { period = 10; tick = 4 }) ∷ K.Report 2 ∷ [])

pub record Shown : Type 0 where
  -- the printed case is fair; its last reading is T, and thread 0's total its true tracked cycles
  pub printed_fair : FairTrace step_of 10 printed (at_setup step_of 2 10 4)
  pub printed_reads : ((after printed).machine.timer.clock.last.0 ≡ 23) × ((after printed).at_c ≡ 23)
  pub printed_total : ((thread_record (after printed).machine.ledger 0).total_cycles.0 ≡ 12) × (sum_of true_cycles 0 (after printed).threads.closed ≡ 12)
  pub printed_short : AllShort 0 (after printed).threads.closed
  -- its answers, record by record, as 01 prints them
  pub printed_answers : Answers (after []).machine printed (values 0 0 ∷ values 0 0 ∷ values 11 1 ∷ values 11 0 ∷ values 2 8 ∷ values 10 0 ∷ values 0 0 ∷ values 12 0 ∷ values 12 12 ∷ values 0 0 ∷ [])
  -- a report's average over two windows, and what disable and enable close
  pub twice_answers : Answers (after []).machine twice (values 0 0 ∷ values 0 0 ∷ values 0 0 ∷ values 4 0 ∷ values 0 0 ∷ values 3 0 ∷ values 0 0 ∷ values 6 0 ∷ values 10 5 ∷ [])
  -- each kind is of the thread that it names; a report asked for twice answers the same
  pub others_answers : Answers (after []).machine others (values 0 0 ∷ values 0 0 ∷ values 0 0 ∷ values 4 0 ∷ values 0 0 ∷ values 3 0 ∷ values 0 0 ∷ values 2 0 ∷ values 0 0 ∷ values 4 0 ∷ values 6 6 ∷ values 6 6 ∷ values 0 0 ∷ [])
  -- a start's sample is a C as any other, of a stop too
  pub started_reads : ReadsAt (K.Run 3 ∷ K.Start 0 at_once ∷ []) 3 3 × ReadsAt (K.Run 3 ∷ K.Start 0 at_once ∷ K.Run 2 ∷ K.Stop at_once ∷ []) 5 5
  -- a wrap from B to C that a slow sample missed is told by the flag to the next one
  pub missed_answers : Answers (after []).machine (taken (K.Sample (gaps 5 9 0) ∷ K.Sample at_once ∷ [])) (values 4 0 ∷ values 14 1 ∷ [])
  -- a total that misses one cycle, as one edge allows
  pub zero_fair : FairTrace step_of 10 from_zero (at_setup step_of 2 10 4)
  pub zero_short : AllShort 0 (after from_zero).threads.closed
  pub zero_total : ((thread_record (after from_zero).machine.ledger 0).total_cycles.0 ≡ 8) × (sum_of true_cycles 0 (after from_zero).threads.closed ≡ 9) × (sum_of edge 0 (after from_zero).threads.closed ≡ 1)
  -- and so does a sum from one start to its stop, over three stretches: answered 8, true 9
  pub three_fair : FairTrace step_of 10 three (at_setup step_of 2 10 4)
  pub three_short : ChainShort (after three).threads.last (after three).threads.times
  pub three_sum : ((after three).since ≡ 8) × ((after three).threads.last ≡ 9) × ((after three).machine.ledger.books.total.0 ≡ 8)
  pub premises : (rs : List Record) (g : Gaps) → let w = after (taken rs) in FairSample 10 w.ran w.at_c g ↔ (Quick g × OneWrapAfter rs g × NoneToDAfter rs g)
  -- each premise broken alone reads 10 cycles short: a slow sample,
  pub slow : ReadsAt (K.Sample (gaps 0 10 0) ∷ []) 0 10
  pub slow_alone : (Quick (gaps 0 10 0) → ⊥) × OneWrapAfter [] (gaps 0 10 0) × NoneToDAfter [] (gaps 0 10 0)
  -- two wraps since the last C,
  pub late : ReadsAt (K.Run 20 ∷ K.Sample at_once ∷ []) 10 20
  pub late_alone : Quick at_once × (OneWrapAfter (K.Run 20 ∷ []) at_once → ⊥) × NoneToDAfter (K.Run 20 ∷ []) at_once
  -- and a wrap between C and D, after which the next sample is fair
  pub lost : ReadsAt (K.Run 10 ∷ K.Sample (gaps 0 0 10) ∷ K.Sample at_once ∷ []) 10 20
  pub lost_alone : Quick (gaps 0 0 10) × OneWrapAfter (K.Run 10 ∷ []) (gaps 0 0 10) × (NoneToDAfter (K.Run 10 ∷ []) (gaps 0 0 10) → ⊥)
  pub lost_then_fair : FairSample 10 20 10 at_once
  -- refused records change nothing, and are as fair as any
  pub refused_nothing : after refusals ≡ after []
  pub refused_fair : FairTrace step_of 10 refusals (at_setup step_of 2 10 4)
  -- the lag is attained, and is above one tick: period 3, tick 2
  pub lag : let w = watch_all step_of (taken (K.Run 5 ∷ K.Sample at_once ∷ K.Announce ∷ [])) (at_setup step_of 2 3 2) in (w.machine.timer.clock.last.0 ≡ w.machine.timer.clock.announced.0 + (3 + 2 - 2)) × (w.machine.timer.clock.announced.0 + 2 < w.machine.timer.clock.last.0)
  pub lag_fair : FairTrace step_of 3 (taken (K.Run 5 ∷ K.Sample at_once ∷ K.Announce ∷ [])) (at_setup step_of 2 3 2)
