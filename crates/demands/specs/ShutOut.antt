-- Evidence: wrong machines, each shut out by a demand. Those of 01's "What the contracts must shut out" and "Slips we have seen", and more.
use Rattle.std.specs.Prelude.{ℕ, ◌+◌, Bool, true, false, cond, not, ◌&&◌, set, leb, eqb, Ok, Err}
use Rattle.counter.specs.declared.Counter.{Counter}
use Rattle.counter.specs.Cycle.{cleared}
use Rattle.counter.specs.declared.Gaps.{Gaps}
use Rattle.clock.specs.Sample.{readings, decision, crowded}
use Rattle.clock.specs.Entries.{gaps}
use Rattle.ledger.specs.Records.{thread_record}
use Rattle.trace.specs.declared.Record.{Record}
use Rattle.trace.specs.declared.Record.TheVariants as K
use Rattle.trace.specs.Decode.{Decoded}
use Rattle.table.specs.declared.Reason.TheVariants as Why
use Rattle.table.specs.declared.Values.{Values}
use Rattle.table.specs.Says.{Outcome}
use Rattle.table.specs.Table.{after_touch}
use Rattle.table.specs.Says.{values}
use Rattle.machine.specs.declared.Machine.{Machine}
use Rattle.machine.specs.declared.Stepped.{Stepped}
use Rattle.machine.specs.Step.{step_of}
use Rattle.demands.specs.Demand1.{Demand1}
use Rattle.demands.specs.Demand2.{Demand2}
use Rattle.demands.specs.Demand3.{Demand3}

-- a record's kind, and its gaps
abbrev kind : Record → ℕ
kind (K.Run p) = 0
kind (K.Sample g) = 1
kind K.Announce = 2
kind (K.Start i g) = 3
kind (K.Switch i g) = 4
kind (K.Stop g) = 5
kind (K.Enable i g) = 6
kind (K.Disable i g) = 7
kind (K.Report i) = 8
kind (K.Setup s) = 9

abbrev gaps_in : Record → Gaps
gaps_in (K.Run p) = gaps p 0 0
gaps_in (K.Sample g) = g
gaps_in K.Announce = gaps 0 0 0
gaps_in (K.Start i g) = g
gaps_in (K.Switch i g) = g
gaps_in (K.Stop g) = g
gaps_in (K.Enable i g) = g
gaps_in (K.Disable i g) = g
gaps_in (K.Report i) = gaps 0 0 0
gaps_in (K.Setup s) = gaps 0 0 0

-- machines that differ from ours by what they leave, given the machine before and ours after, or by what they answer
abbrev leaving : (Machine → Record → Machine → Machine) → Machine → Decoded → Stepped
leaving wrong m (Ok r) = record { outcome = (step_of m (Ok r)).outcome; machine = wrong m r (step_of m (Ok r)).machine }
leaving wrong m (Err why) = step_of m (Err why)

abbrev telling : (Values → Values) → Outcome → Outcome
telling wrong (Ok v) = Ok (wrong v)
telling wrong (Err why) = Err why

abbrev answering : (Record → Values → Values) → Machine → Decoded → Stepped
answering wrong m (Ok r) = record { outcome = telling (wrong r) (step_of m (Ok r)).outcome; machine = (step_of m (Ok r)).machine }
answering wrong m (Err why) = step_of m (Err why)

-- or by not announcing where a test holds
abbrev not_announcing : (Machine → Bool) → Machine → Decoded → Stepped
not_announcing idle m (Ok r) = cond (eqb (kind r) 2 && idle m) (record { outcome = Ok (values 0 m.timer.clock.announced.0); machine = m }) (step_of m (Ok r))
not_announcing idle m (Err why) = step_of m (Err why)

-- a machine with another counter, overflow and last reading, announced, books or record
abbrev with_counter : Machine → Counter → Machine
with_counter m c = record { ready = m.ready; timer = record { counter = c; clock = m.timer.clock }; ledger = m.ledger }

abbrev further : Machine → ℕ → Machine
further m n = record {
  ready = m.ready;
  timer = record {
    counter = m.timer.counter;
    clock = record {
      tick = m.timer.clock.tick;
      count = m.timer.clock.count;
      announced = m.timer.clock.announced;
      overflow = m.timer.clock.overflow + n;
      last = record { 0 = m.timer.clock.last.0 + n };
    };
  };
  ledger = m.ledger;
}

abbrev with_last : Machine → ℕ → Machine
with_last m n = record {
  ready = m.ready;
  timer = record {
    counter = m.timer.counter;
    clock = record { tick = m.timer.clock.tick; count = m.timer.clock.count; announced = m.timer.clock.announced; overflow = m.timer.clock.overflow; last = record { 0 = n } };
  };
  ledger = m.ledger;
}

abbrev with_announced : Machine → ℕ → Machine
with_announced m n = record {
  ready = m.ready;
  timer = record {
    counter = m.timer.counter;
    clock = record { tick = m.timer.clock.tick; count = m.timer.clock.count; announced = record { 0 = n }; overflow = m.timer.clock.overflow; last = m.timer.clock.last };
  };
  ledger = m.ledger;
}

abbrev with_books : Machine → ℕ → ℕ → Machine
with_books m stamp total = record { ready = m.ready; timer = m.timer; ledger = record { books = record { stamp = stamp; running = m.ledger.books.running; total = record { 0 = total } }; threads = m.ledger.threads } }

abbrev with_thread : Machine → ℕ → ℕ → ℕ → Machine
with_thread m i total windows = record {
  ready = m.ready;
  timer = m.timer;
  ledger = record { books = m.ledger.books; threads = set m.ledger.threads i (record { track_usage = (thread_record m.ledger i).track_usage; total_cycles = record { 0 = total }; num_windows = windows }) };
}

-- 01's "What the contracts must shut out": a refuser that never accepts
abbrev refuser : Machine → Decoded → Stepped
refuser m d = record { outcome = Err Why.BadRecord; machine = m }

-- a frozen clock; one whose counter starts anew at each sample and forgets the cycles it had run; one constant reading
abbrev frozen : Machine → Decoded → Stepped
frozen = leaving (λ m r n. cond m.ready (record { ready = n.ready; timer = m.timer; ledger = n.ledger }) n)

abbrev restarting : Machine → Decoded → Stepped
restarting =
    leaving
    (λ m r n.
    cond (eqb (kind r) 1)
    (with_counter n (record { period = n.timer.counter.period; value = n.timer.counter.period; flag = n.timer.counter.flag; cycles = record { 0 = n.timer.clock.count.0 + n.timer.clock.overflow } }))
    n)

abbrev constant : Machine → Decoded → Stepped
constant = leaving (λ m r n. with_last n 0)

-- an announcer that does nothing, and one that announces all at its first call and zero later
abbrev announces_nothing : Machine → Decoded → Stepped
announces_nothing = not_announcing (λ m. true)

abbrev announces_once : Machine → Decoded → Stepped
announces_once = not_announcing (λ m. not (eqb m.timer.clock.announced.0 0))

-- made-up cycle totals: of a thread, of the machine, and as answered
abbrev made_up : Machine → Decoded → Stepped
made_up = leaving (λ m r n. cond (eqb (kind r) 5) (with_thread n 0 ((thread_record n.ledger 0).total_cycles.0 + 1) (thread_record n.ledger 0).num_windows) n)

abbrev sums_nothing : Machine → Decoded → Stepped
sums_nothing = leaving (λ m r n. with_books n n.ledger.books.stamp m.ledger.books.total.0)

abbrev answers_nothing : Machine → Decoded → Stepped
answers_nothing = answering (λ r v. cond (eqb (kind r) 5) (values 0 0) v)

-- 01's "Slips we have seen": D left out, so that the flag stands for a wrap that is counted
abbrev no_d : Machine → Decoded → Stepped
no_d = leaving (λ m r n. cond (eqb (kind r) 1) (with_counter n (readings m.timer (gaps_in r)).after) n)

-- period L + 1
abbrev longer : Machine → Decoded → Stepped
longer = leaving (λ m r n. cond (eqb (kind r) 9) (with_counter n (record { period = n.timer.counter.period + 1; value = n.timer.counter.value + 1; flag = false; cycles = n.timer.counter.cycles })) n)

-- val1 <= val2 tested for a wrap
abbrev at_most : Machine → Decoded → Stepped
at_most =
    leaving
    (λ m r n.
    cond (eqb (kind r) 1 && not (decision m.timer (gaps_in r)).wrap_detected && leb m.timer.counter.value (readings m.timer (gaps_in r)).value)
    (further n n.timer.counter.period)
    n)

-- refused after B, so that the flag is gone
abbrev flag_gone : Machine → Decoded → Stepped
flag_gone = leaving (λ m r n. cond (crowded m.timer) (with_counter n (cleared n.timer.counter)) n)

-- two stamps in one switch: the second at D
abbrev two_stamps : Machine → Decoded → Stepped
two_stamps = leaving (λ m r n. cond (eqb (kind r) 4) (with_books n (n.ledger.books.stamp + (gaps_in r).r) n.ledger.books.total.0) n)

-- and more: a setup forgotten at a sum that won't fit
abbrev refused_sum : Outcome → Bool
refused_sum (Ok v) = false
refused_sum (Err why) = after_touch why

abbrev forgetful : Machine → Decoded → Stepped
forgetful = leaving (λ m r n. cond (refused_sum (step_of m (Ok r)).outcome) (record { ready = false; timer = n.timer; ledger = n.ledger }) n)

-- an elapsed of 0 answered, a total where the average is asked for, and windows that never rise
abbrev no_elapsed : Machine → Decoded → Stepped
no_elapsed = answering (λ r v. cond (eqb (kind r) 1) (values 0 v.y) v)

abbrev averages_total : Machine → Decoded → Stepped
averages_total = answering (λ r v. cond (eqb (kind r) 8) (values v.x v.x) v)

abbrev no_windows : Machine → Decoded → Stepped
no_windows = leaving (λ m r n. cond (eqb (kind r) 6) (with_thread n 0 (thread_record n.ledger 0).total_cycles.0 (thread_record m.ledger 0).num_windows) n)

-- windows that rise at start, and an untracked thread charged for its stretch
abbrev windows_at_start : Machine → Decoded → Stepped
windows_at_start = leaving (λ m r n. cond (eqb (kind r) 3) (with_thread n 0 (thread_record n.ledger 0).total_cycles.0 ((thread_record n.ledger 0).num_windows + 1)) n)

abbrev charges_untracked : Machine → Decoded → Stepped
charges_untracked = leaving (λ m r n. cond (eqb (kind r) 5) (with_thread n 0 n.ledger.books.total.0 (thread_record n.ledger 0).num_windows) n)

-- ticks told again after every sample, and one that from setup on can't sample
abbrev tells_again : Machine → Decoded → Stepped
tells_again = leaving (λ m r n. cond (eqb (kind r) 1) (with_announced n 0) n)

abbrev never_samples : Machine → Decoded → Stepped
never_samples = leaving (λ m r n. cond (eqb (kind r) 9) (further n 4294967295) n)

pub record ShutOut : Type 2 where
  pub refuser_falls : Demand1 refuser → ⊥
  pub frozen_falls : Demand3 frozen → ⊥
  pub restarting_falls : Demand3 restarting → ⊥
  pub constant_falls : Demand3 constant → ⊥
  pub announces_nothing_falls : Demand3 announces_nothing → ⊥
  pub announces_once_falls : Demand3 announces_once → ⊥
  pub made_up_falls : Demand3 made_up → ⊥
  pub sums_nothing_falls : Demand3 sums_nothing → ⊥
  pub answers_nothing_falls : Demand3 answers_nothing → ⊥
  pub no_d_falls : Demand1 no_d → ⊥
  pub longer_falls : Demand3 longer → ⊥
  pub at_most_falls : Demand3 at_most → ⊥
  pub flag_gone_falls : Demand1 flag_gone → ⊥
  pub two_stamps_falls : Demand3 two_stamps → ⊥
  pub forgetful_falls : Demand1 forgetful → ⊥
  pub no_elapsed_falls : Demand3 no_elapsed → ⊥
  pub averages_total_falls : Demand2 averages_total → ⊥
  pub no_windows_falls : Demand2 no_windows → ⊥
  pub windows_at_start_falls : Demand2 windows_at_start → ⊥
  pub charges_untracked_falls : Demand3 charges_untracked → ⊥
  pub tells_again_falls : Demand3 tells_again → ⊥
  pub never_samples_falls : Demand2 never_samples → ⊥
