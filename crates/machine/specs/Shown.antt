-- Evidence: 01's table on machines handed in. Each row at its boundary and one past it, where two rows hold the first of them, and what each kind does with its numbers.
use Rattle.std.specs.Prelude.{◌-◌, ℕ, ◌+◌, ◌≡◌, Bool, true, false, [], ◌∷◌, Ok, Err}
use Rattle.error.specs.declared.Refusal.TheVariants.{Invalid, BadThread, Again, Already, Overflow}
use Rattle.error.specs.Numbers.{max32, max64}
use Rattle.usage.specs.declared.ThreadUsage.{ThreadUsage}
use Rattle.usage.specs.Formulas.{new_idle}
use Rattle.counter.specs.declared.Counter.{Counter}
use Rattle.counter.specs.declared.Gaps.{Gaps}
use Rattle.clock.specs.declared.Clock.{Clock}
use Rattle.clock.specs.Announce.{announce_of}
use Rattle.clock.specs.Entries.{gaps, sample_of}
use Rattle.books.specs.declared.Books.{Books}
use Rattle.books.specs.declared.Operation.TheVariants as P
use Rattle.books.specs.Running.{nothing_booked}
use Rattle.ledger.specs.declared.Ledger.{Ledger}
use Rattle.ledger.specs.Operate.{operate_of, report_of}
use Rattle.trace.specs.declared.Record.{Record}
use Rattle.trace.specs.declared.Record.TheVariants as K
use Rattle.table.specs.declared.Reason.{Reason}
use Rattle.table.specs.declared.Reason.TheVariants as Why
use Rattle.table.specs.Says.{values}
use Rattle.machine.specs.declared.Machine.{Machine}
use Rattle.machine.specs.Step.{step_of}

-- parts to hand in: period, value, flag, T; tick, count, announced, overflow; stamp, running, machine total; tracked, total, windows
abbrev pub counter : ℕ → ℕ → Bool → ℕ → Counter
counter period value flag cycles = record { period = period; value = value; flag = flag; cycles = record { 0 = cycles } }

abbrev pub clock : ℕ → ℕ → ℕ → ℕ → Clock
clock tick count announced overflow = record { tick = tick; count = record { 0 = count }; announced = record { 0 = announced }; overflow = overflow; last = record { 0 = 0 } }

abbrev pub books : ℕ → ℕ → ℕ → Books
books stamp running total = record { stamp = stamp; running = running; total = record { 0 = total } }

abbrev pub thread : Bool → ℕ → ℕ → ThreadUsage
thread tracked total windows = record { track_usage = tracked; total_cycles = record { 0 = total }; num_windows = windows }

-- a machine of two threads, the first of them as given
abbrev pub handed : Bool → Counter → Clock → Books → ThreadUsage → Machine
handed ready c k b u = record { ready = ready; timer = record { counter = c; clock = k }; ledger = record { books = b; threads = u ∷ new_idle ∷ [] } }

-- only the counter and the clock are of interest
abbrev pub timed : Counter → Clock → Machine
timed c k = handed true c k nothing_booked new_idle

-- a thread runs since stamp 1, and a sample of no gaps reads what the clock has counted
abbrev pub running : ℕ → ℕ → ThreadUsage → Machine
running count total u = handed true (counter 10 10 false 100) (clock 4 count 0 0) (books 1 0 total) u

abbrev pub at_once : Gaps
at_once = gaps 0 0 0

-- set up just now
abbrev pub just_set_up : Machine
just_set_up = timed (counter 10 10 false 0) (clock 4 0 0 0)

-- not set up, with something in every field
abbrev pub unready : Machine
unready = record {
  ready = false;
  timer = record { counter = counter 1 0 true max64; clock = record { tick = 0; count = record { 0 = 8 }; announced = record { 0 = 7 }; overflow = max32; last = record { 0 = 5 } } };
  ledger = record { books = books 5 4 3; threads = thread true 2 1 ∷ thread true 4 3 ∷ [] };
}

-- set up, not malformed, and with something odd in every field that is not looked at: announced and last above T, full totals,
-- a tracked thread without a window, and a running number past the table where none runs
abbrev pub anything_else : Machine
anything_else = record {
  ready = true;
  timer = record { counter = counter 10 10 false 0; clock = record { tick = 1; count = record { 0 = 0 }; announced = record { 0 = max64 }; overflow = 0; last = record { 0 = max64 } } };
  ledger = record { books = books 0 9 max64; threads = thread true max64 0 ∷ new_idle ∷ [] };
}

-- a ledger whose running thread has no record
abbrev pub lost : Ledger
lost = record { books = books 1 2 0; threads = new_idle ∷ new_idle ∷ [] }

-- accepted with x and y
abbrev pub Takes : Machine → Record → ℕ → ℕ → Type 0
Takes m r x y = (step_of m (Ok r)).outcome ≡ Ok (values x y)

-- turned away, and the whole machine is as it was
abbrev pub Turns : Machine → Record → Reason → Type 0
Turns m r why = step_of m (Ok r) ≡ record { outcome = Err why; machine = m }

-- turned away for a sum or a window: the ledger is as it was, counter and clock as a sample of the same gaps leaves them
pub record KeepsSample (m : Machine) (r : Record) (g : Gaps) : Type 0 where
  pub turned : (step_of m (Ok r)).outcome ≡ Err Why.WontFit
  pub timer : (step_of m (Ok r)).machine.timer ≡ (step_of m (Ok (K.Sample g))).machine.timer
  pub ledger : (step_of m (Ok r)).machine.ledger ≡ m.ledger

-- counter and clock afterwards are those of a sample with the same gaps, which tell every order of p, q and r apart
abbrev pub AsSample : (Gaps → Record) → Type 0
AsSample kind =
    (step_of (timed (counter 10 10 false 100) (clock 4 0 0 0)) (Ok (kind (gaps 0 10 3)))).machine.timer ≡
    (step_of (timed (counter 10 10 false 100) (clock 4 0 0 0)) (Ok (K.Sample (gaps 0 10 3)))).machine.timer

pub record TableShown : Type 0 where
  -- T may be 2^64 - 1, and may not pass it: by a run, and by the three gaps of a sample
  pub cycles_fit : Takes (timed (counter 10 10 false (max64 - 5)) (clock 4 0 0 0)) (K.Run 5) 0 0
  pub cycles_above_lem : Turns (timed (counter 10 10 false (max64 - 5)) (clock 4 0 0 0)) (K.Run 6) Why.CyclesAbove
  pub gaps_fit : Takes (timed (counter 10 10 false (max64 - 5)) (clock 4 0 0 0)) (K.Sample (gaps 2 2 1)) 4 0
  pub gaps_above : Turns (timed (counter 10 10 false (max64 - 5)) (clock 4 0 0 0)) (K.Sample (gaps 2 2 2)) Why.CyclesAbove
  pub cycles_full : (step_of (timed (counter 10 10 false (max64 - 5)) (clock 4 0 0 0)) (Ok (K.Run 5))).machine.timer.counter ≡ counter 10 5 false max64
  -- overflow + 2L - 1 may be 2^32 - 1; -11 comes ahead of T's test, and an announcement is not asked for it
  pub overflow_fits : Takes (timed (counter 10 10 false max64) (clock 4 0 0 (max32 - 19))) (K.Sample at_once) (max32 - 19) 0
  pub announce_first : Turns (timed (counter 10 10 false max64) (clock 4 0 0 (max32 - 18))) (K.Sample (gaps 1 0 0)) Why.AnnounceFirst
  pub stop_too : Turns (timed (counter 10 10 false max64) (clock 4 0 0 (max32 - 18))) (K.Stop at_once) Why.AnnounceFirst
  pub announced_then : Takes (timed (counter 10 10 false max64) (clock 4 0 0 (max32 - 18))) K.Announce 1073741819 4294967276
  pub switch_too : Turns (timed (counter 10 10 false max64) (clock 4 0 0 (max32 - 18))) (K.Switch 1 at_once) Why.AnnounceFirst
  pub enable_too : Turns (timed (counter 10 10 false max64) (clock 4 0 0 (max32 - 18))) (K.Enable 1 at_once) Why.AnnounceFirst
  pub report_not : Takes (timed (counter 10 10 false max64) (clock 4 0 0 (max32 - 18))) (K.Report 1) 0 0
  -- with the longest period, 254 counted wraps leave room for a sample, and 255 do not
  pub most_wraps : Takes (timed (counter 16777215 16777215 false max64) (clock 4 0 0 4261412610)) (K.Sample at_once) 4261412610 0
  pub one_wrap_more : Turns (timed (counter 16777215 16777215 false max64) (clock 4 0 0 4278189825)) (K.Sample at_once) Why.AnnounceFirst
  -- the machine total, and the thread's own if it is tracked
  pub sum_fits : Takes (running 4 (max64 - 3) new_idle) (K.Stop at_once) 3 0
  pub sum_full : (step_of (running 4 (max64 - 3) new_idle) (Ok (K.Stop at_once))).machine.ledger.books ≡ books 0 0 max64
  pub sum_above : KeepsSample (running 5 (max64 - 3) new_idle) (K.Stop at_once) at_once
  pub own_fits : Takes (running 4 0 (thread true (max64 - 3) 1)) (K.Stop at_once) 3 0
  pub own_above : KeepsSample (running 5 0 (thread true (max64 - 3) 1)) (K.Stop at_once) at_once
  pub untracked : Takes (running 5 0 (thread false max64 1)) (K.Stop at_once) 4 0
  -- in a switch the close is undone too
  pub switch_above : KeepsSample (running 5 (max64 - 3) new_idle) (K.Switch 1 (gaps 1 2 3)) (gaps 1 2 3)
  -- windows: the last that fits, one more, and none needed
  pub window_fits : Takes (timed (counter 10 10 false 100) (clock 4 0 0 0)) (K.Enable 0 at_once) 0 0
  pub last_window : Takes (handed true (counter 10 10 false 100) (clock 4 0 0 0) nothing_booked (thread false 7 (max32 - 1))) (K.Enable 0 at_once) 0 0
  pub windows_full : (step_of (handed true (counter 10 10 false 100) (clock 4 0 0 0) nothing_booked (thread false 7 (max32 - 1))) (Ok (K.Enable 0 at_once))).machine.ledger.threads ≡ thread true 7 max32 ∷ new_idle ∷ []
  pub window_above : KeepsSample (handed true (counter 10 10 false 100) (clock 4 0 0 0) nothing_booked (thread false 7 max32)) (K.Enable 0 at_once) at_once
  pub tracked_already : Takes (handed true (counter 10 10 false 100) (clock 4 0 0 0) nothing_booked (thread true 7 max32)) (K.Enable 0 at_once) 0 0
  -- a flag that is as wanted closes nothing, and leaves the ledger as it was
  pub enable_as_wanted : (step_of (running 5 0 (thread true 7 1)) (Ok (K.Enable 0 at_once))).machine.ledger ≡ (running 5 0 (thread true 7 1)).ledger
  pub disable_as_wanted : (step_of (running 5 0 new_idle) (Ok (K.Disable 0 at_once))).machine.ledger ≡ (running 5 0 new_idle).ledger
  -- what announce's leaf refuses: announced above the new count, too many ticks
  pub announced_all : Takes (timed (counter 10 10 false 100) (clock 4 20 30 10)) K.Announce 0 30
  pub announced_more : Turns (timed (counter 10 10 false 100) (clock 4 20 31 10)) K.Announce (Why.NotAnnounced Invalid)
  pub ticks_fit : Takes (timed (counter 10 10 false max64) (clock 1 (max32 + 30) 30 0)) K.Announce max32 (max32 + 30)
  pub ticks_above : Turns (timed (counter 10 10 false max64) (clock 1 (max32 + 31) 30 0)) K.Announce (Why.NotAnnounced Overflow)
  -- a malformed state, clause by clause: L, tick, v
  pub least_period : Takes (timed (counter 2 2 false 0) (clock 1 0 0 0)) (K.Run 0) 0 0
  pub period_below : Turns (timed (counter 1 1 false 0) (clock 1 0 0 0)) (K.Run 0) Why.Malformed
  pub most_period : Takes (timed (counter 16777215 16777215 false 0) (clock 1 0 0 0)) (K.Run 0) 0 0
  pub period_above : Turns (timed (counter 16777216 16777216 false 0) (clock 1 0 0 0)) (K.Run 0) Why.Malformed
  pub no_tick : Turns (timed (counter 2 2 false 0) (clock 0 0 0 0)) (K.Run 0) Why.Malformed
  pub least_value : Takes (timed (counter 10 1 false 9) (clock 1 0 0 0)) (K.Run 0) 0 0
  pub no_value : Turns (timed (counter 10 0 false 100) (clock 1 0 0 0)) (K.Run 0) Why.Malformed
  pub value_above : Turns (timed (counter 10 11 false 100) (clock 1 0 0 0)) (K.Run 0) Why.Malformed
  -- a running thread without a record; a stopped ledger's running number is not looked at
  pub last_thread : Takes (handed true (counter 10 10 false 0) (clock 1 0 0 0) (books 1 1 0) new_idle) (K.Run 0) 0 0
  pub no_record : Turns (handed true (counter 10 10 false 0) (clock 1 0 0 0) (books 1 2 0) new_idle) (K.Run 0) Why.Malformed
  pub stopped : Takes (handed true (counter 10 10 false 0) (clock 1 0 0 0) (books 0 2 0) new_idle) (K.Run 0) 0 0
  -- count + overflow + L - v, plus L while the flag is set, may be T and may not pass it
  pub accounted : Takes (timed (counter 10 7 false 33) (clock 1 20 0 10)) (K.Run 0) 0 0
  pub accounted_above : Turns (timed (counter 10 7 false 32) (clock 1 20 0 10)) (K.Run 0) Why.Malformed
  pub flag_accounted : Takes (timed (counter 10 7 true 43) (clock 1 20 0 10)) (K.Run 0) 0 0
  pub flag_above : Turns (timed (counter 10 7 true 42) (clock 1 20 0 10)) (K.Run 0) Why.Malformed
  -- and nothing else of a state is looked at
  pub other_fields : Takes anything_else (K.Run 0) 0 0
  -- it is tested ahead of every row, for every kind, and only in a machine that is set up
  pub first_of_all : Turns (timed (counter 1 1 false 0) (clock 1 0 0 0)) (K.Setup (record { period = 10; tick = 4 })) Why.Malformed
  pub not_tested : Turns (handed false (counter 1 1 false 0) (clock 1 0 0 0) nothing_booked new_idle) (K.Run 0) Why.NotSetUp
  -- where two rows hold, the first of them
  pub bad_record_first : (step_of (handed false (counter 1 1 false 0) (clock 1 0 0 0) nothing_booked new_idle) (Err Invalid)).outcome ≡ Err Why.BadRecord
  pub not_set_up_first : Turns (handed false (counter 1 1 false 0) (clock 1 0 0 0) nothing_booked new_idle) (K.Report 2) Why.NotSetUp
  pub no_thread_first : Turns (running 0 0 new_idle) (K.Start 2 at_once) Why.NoThread
  pub running_first : Turns (handed true (counter 10 10 false max64) (clock 4 0 0 (max32 - 18)) (books 1 0 0) new_idle) (K.Start 0 at_once) Why.Running
  pub cycles_first : Turns (handed true (counter 10 10 false max64) (clock 4 5 0 0) (books 1 0 max64) new_idle) (K.Stop (gaps 1 0 0)) Why.CyclesAbove
  -- a run that has no room for a sample is taken, since it takes none
  pub run_not : Takes (timed (counter 10 10 false max64) (clock 4 0 0 (max32 - 18))) (K.Run 0) 0 0
  -- a thread past the table, of the kinds not shown above, and a second setup
  pub report_past : Turns just_set_up (K.Report 2) Why.NoThread
  pub switch_past : Turns just_set_up (K.Switch 2 at_once) Why.NoThread
  pub enable_past : Turns just_set_up (K.Enable 2 at_once) Why.NoThread
  pub disable_past : Turns just_set_up (K.Disable 2 at_once) Why.NoThread
  pub last_report : Takes just_set_up (K.Report 1) 0 0
  pub last_disable : Takes just_set_up (K.Disable 1 at_once) 0 0
  pub second_setup : Turns just_set_up (K.Setup (record { period = 10; tick = 4 })) Why.SecondSetup
  -- each operation samples with its own three gaps, and in their order
  pub start_gaps : AsSample (K.Start 1)
  pub switch_gaps : AsSample (K.Switch 1)
  pub stop_gaps : AsSample K.Stop
  pub enable_gaps : AsSample (K.Enable 1)
  pub disable_gaps : AsSample (K.Disable 1)
  -- setup writes every field, whatever was there
  pub all_written : step_of unready (Ok (K.Setup (record { period = 10; tick = 4 }))) ≡ record { outcome = Ok (values 0 0); machine = just_set_up }
  pub least_setup : Takes unready (K.Setup (record { period = 2; tick = 1 })) 0 0
  pub most_setup : Takes unready (K.Setup (record { period = 16777215; tick = max32 })) 0 0
  -- a setup that no bytes decode to is turned away by the first row, on a machine that is set up too
  pub bad_setup_lem : Turns just_set_up (K.Setup (record { period = 10; tick = 0 })) Why.BadRecord
  pub short_setup : Turns unready (K.Setup (record { period = 1; tick = 4 })) Why.BadRecord
  pub long_setup : Turns unready (K.Setup (record { period = 16777216; tick = 4 })) Why.BadRecord
  -- the entries below make these tests by themselves, in the same order, for whoever calls them: a malformed state first
  pub operate_malformed : (operate_of lost (record { 0 = 0 }) (P.Start 2)).answer ≡ Err Invalid
  pub report_malformed : report_of lost 2 ≡ Err Invalid
  pub announce_malformed : announce_of (record { counter = counter 10 0 false max64; clock = clock 1 (max32 + 31) 30 0 }) ≡ Err Invalid
  pub report_unknown : report_of (running 0 0 new_idle).ledger 2 ≡ Err BadThread
  pub sample_crowded : sample_of (timed (counter 10 10 false max64) (clock 4 0 0 (max32 - 18))).timer (gaps 1 0 0) ≡ Err Again
  pub operate_past : (operate_of (running 0 0 new_idle).ledger (record { 0 = 0 }) (P.Start 2)).answer ≡ Err BadThread
  pub operate_running : (operate_of (running 0 0 new_idle).ledger (record { 0 = 0 }) (P.Start 1)).answer ≡ Err Already
