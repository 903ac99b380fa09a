-- Every clause and lemma of upstream's systick.rs follows from the exact leaves and what their answers' definitions say.
use Rattle.std.specs.Prelude.{Ok, Err}
use Prim.Native.Nat.{ℕ, ◌+◌, ◌-◌, ◌*◌, ◌/◌, ◌≤◌, ◌<◌, zero-le}
use mathlib.Core.Path.{◌≡◌, refl, sym, ap, ◌∙◌}
use mathlib.Core.Bool.{Bool, true, false, cond}
use native.Mathlib.Nat.{div-mul-le_self, div-le_self, lt-div-mul-add, le_trans, mul-le-mul_right, zero-mul}
use native.Mathlib.Omega.{arith}
use lib.Dec.{leb, eqb}
use borrow.Author.Tests.{le-leb, lt-leb, leb-false}
use Rattle.error.specs.Numbers.{max32, max64}
use Rattle.units.specs.declared.Cycles.{Cycles}
use Rattle.units.specs.declared.Ticks.{Ticks}
use Rattle.systick.specs.Leaves.{elapsed_cycles, difference, cycles_to_ticks, ticks_to_cycles, max_ticks, max_load, most_ticks, elapsed_decide, announce_decide}
use Rattle.systick.specs.Says.{elapsed_cycles_says, cycles_to_ticks_says, ticks_to_cycles_says, max_ticks_says, elapsed_decide_says, announce_decide_says}
use Rattle.systick.proofs.Outcomes as timer
use Rattle.systick.proofs.Bounds.{product_within, product_over, quotients_keep_order}
use Rattle.demands.specs.UpstreamTimer.{ElapsedCyclesEnsures, TicksToCyclesEnsures, ElapsedDecideEnsures, AnnounceDecideEnsures, TimerClauses, TimerLemmas}
use Rattle.demands.proofs.Exactly.{SaysOf, said, said_bad, said_over, fits, given}
use Rattle.demands.proofs.Leaves.{difference_exact, quotient_exact, product_exact, most_exact, announce_exact, round_trip}
use Rattle.error.specs.Said.{number_in}

-- what the answers' definitions say
says_difference : SaysOf Ok Err elapsed_cycles_says 0
unfolding number_in
says_difference = record { of_accepted = λ v. refl; of_refused = λ why. refl }

says_ticks : SaysOf Ok Err cycles_to_ticks_says (record { 0 = 0 })
unfolding number_in
says_ticks = record { of_accepted = λ v. refl; of_refused = λ why. refl }

says_cycles : SaysOf Ok Err ticks_to_cycles_says (record { 0 = 0 })
unfolding number_in
says_cycles = record { of_accepted = λ v. refl; of_refused = λ why. refl }

says_most : SaysOf Ok Err max_ticks_says (record { 0 = 0 })
unfolding number_in
says_most = record { of_accepted = λ v. refl; of_refused = λ why. refl }

says_announced : SaysOf Ok Err announce_decide_says (record { dticks = record { 0 = 0 }; new_cycle_count = record { 0 = 0 }; new_announced_cycles = record { 0 = 0 } })
unfolding number_in
says_announced = record { of_accepted = λ v. refl; of_refused = λ why. refl }

-- a difference does not pass the load
difference_within : (last current load : ℕ) → last ≤ load → current ≤ load → difference last current load ≤ load
difference_within last current load a b = by_test (leb current last) refl
  where
    by_test : (t : Bool) → leb current last ≡ t → cond t (last - current) (last + load - current) ≤ load
    by_test true e = omega arith
    by_test false e = omega (arith, leb-false current last e)

-- an accepted difference is the formula's, and both values were within the load
accepted_difference : (last current load elapsed : ℕ) → elapsed_cycles last current load ≡ Ok elapsed → (last ≤ load) × (current ≤ load) × (elapsed ≡ difference last current load)
accepted_difference last current load elapsed e =
    let is = given says_difference (difference_exact last current load) elapsed e in
    (is.0.0, is.0.1, is.1)

-- an accepted quotient is the formula's, of a tick above 0
accepted_ticks : (cycles : Cycles) (tick : ℕ) (ticks : Ticks) → cycles_to_ticks cycles tick ≡ Ok ticks → (0 < tick) × (ticks.0 ≡ cycles.0 / tick)
accepted_ticks cycles tick ticks e =
    let is = given says_ticks (quotient_exact cycles tick) ticks e in
    (is.0, ap (λ (t : Ticks). t.0) is.1)

accepted_cycles : (ticks : Ticks) (tick : ℕ) (cycles : Cycles) → ticks_to_cycles ticks tick ≡ Ok cycles → (ticks.0 * tick ≤ max64) × (cycles.0 ≡ ticks.0 * tick)
accepted_cycles ticks tick cycles e =
    let is = given says_cycles (product_exact ticks tick) cycles e in
    (is.0, ap (λ (c : Cycles). c.0) is.1)

accepted_most : (tick : ℕ) (ticks : Ticks) → max_ticks tick ≡ Ok ticks → ticks.0 ≡ most_ticks tick
accepted_most tick ticks e = ap (λ (t : Ticks). t.0) (given says_most (most_exact tick) ticks e).1

most_fits : (tick : ℕ) → most_ticks tick * tick ≤ max_load
most_fits tick = by_test (eqb (max_load / tick) 0)
  where
    by_test : (none : Bool) → cond none 0 (max_load / tick - 1) * tick ≤ max_load
    by_test true = rw zero-mul zero-le
    by_test false =
        let fewer : max_load / tick - 1 ≤ max_load / tick = omega arith in
        le_trans (mul-le-mul_right tick fewer) (div-mul-le_self max_load tick)

elapsed_clauses : (last current load : ℕ) → last ≤ load → current ≤ load → ElapsedCyclesEnsures last current load (elapsed_cycles_says (elapsed_cycles last current load))
elapsed_clauses last current load a b =
    let said = said says_difference (difference_exact last current load) (a, b) in
    let is = ap (λ s. s.value) said in
    record {
      accepted = ap (λ s. s.number) said;
      counted_down = λ h. is ∙ simp (le-leb _ _ h);
      wrapped = λ h. is ∙ simp (lt-leb _ _ h) (omega arith);
      bounded = rw is (difference_within last current load a b);
    }

decide_clauses : (val1 val2 : ℕ) (flag : Bool) (load overflow : ℕ) → val2 ≤ load → overflow + load ≤ max32 → load - val2 + overflow + load ≤ max32 → ElapsedDecideEnsures val1 val2 flag load overflow (elapsed_decide_says (elapsed_decide val1 val2 flag load overflow))
unfolding number_in
decide_clauses val1 val2 flag load overflow a b h =
    let said = ap elapsed_decide_says (timer.decided val1 val2 flag load overflow a h) in
    let is = ap (λ s. s.value) said in
    record {
      accepted = ap (λ s. s.number) said;
      wrap = ap (λ d. d.wrap_detected) is;
      kept = λ w. ap (λ d. d.new_overflow_cyc) is ∙ ap (λ t. cond t (overflow + load) overflow) (sym (ap (λ d. d.wrap_detected) is) ∙ w);
      added = λ w. ap (λ d. d.new_overflow_cyc) is ∙ ap (λ t. cond t (overflow + load) overflow) (sym (ap (λ d. d.wrap_detected) is) ∙ w);
    }

announce_clauses : (count announced : Cycles) (overflow tick : ℕ) → 0 < tick → count.0 + overflow ≤ max64 → announced.0 ≤ count.0 + overflow → AnnounceDecideEnsures count announced overflow tick (announce_decide_says (announce_decide count announced overflow tick))
announce_clauses count announced overflow tick p a b =
    let exact = announce_exact count announced overflow tick in
    let reads = says_announced in
    record {
      counted = λ n. ap (λ s. s.value.new_cycle_count.0) (said reads exact (fits reads exact n));
      ticks = λ n. let is = said reads exact (fits reads exact n) in ap (λ s. s.value.dticks.0) is ∙ ap (λ (c : ℕ). (c - announced.0) / tick) (sym (ap (λ s. s.value.new_cycle_count.0) is));
    }

product_clauses : (ticks : Ticks) (tick : ℕ) → TicksToCyclesEnsures ticks tick (ticks_to_cycles_says (ticks_to_cycles ticks tick))
unfolding number_in
product_clauses ticks tick =
    let exact = product_exact ticks tick in
    let reads = says_cycles in
    record {
      no_tick = λ e. let is = ap ticks_to_cycles_says (timer.cycles_of_nothing ticks tick e) in (ap (λ said. said.number) is, ap (λ said. said.value.0) is);
      none = λ p h. ap (λ s. s.number) (said_over reads exact (product_over max64 ticks.0 tick p h));
      some = λ p h. let is = said reads exact (product_within max64 ticks.0 tick p h) in (ap (λ s. s.number) is, ap (λ s. s.value.0) is);
    }

-- there and back, over the value that the answer says
back_again : (ticks : Ticks) (tick : ℕ) → 0 < tick → ticks.0 ≤ max64 / tick → cycles_to_ticks (ticks_to_cycles_says (ticks_to_cycles ticks tick)).value tick ≡ Ok ticks
unfolding number_in
back_again ticks tick p h =
    let given = timer.cycles_given ticks tick (product_within max64 ticks.0 tick p h) in
    round_trip ticks tick (ticks_to_cycles_says (ticks_to_cycles ticks tick)).value p
    (given ∙ ap Ok (sym (ap (λ a. (ticks_to_cycles_says a).value) given)))

truncation : (cycles : Cycles) (tick : ℕ) (ticks : Ticks) → cycles.0 ≤ max64 → cycles_to_ticks cycles tick ≡ Ok ticks → (ticks_to_cycles ticks tick ≡ Ok (record { 0 = ticks.0 * tick })) × (ticks.0 * tick ≤ cycles.0) × (cycles.0 < ticks.0 * tick + tick)
truncation cycles tick ticks h e =
    let facts = accepted_ticks cycles tick ticks e in
    let below : ticks.0 * tick ≤ cycles.0 = rw facts.1 (div-mul-le_self cycles.0 tick) in
    let above : cycles.0 < ticks.0 * tick + tick = rw facts.1 (lt-div-mul-add facts.0) in
    (timer.cycles_given ticks tick (le_trans below h), below, above)

pub timer_clauses : TimerClauses
timer_clauses = record {
  elapsed_cycles_lem = elapsed_clauses;
  cycles_to_ticks_lem = λ cycles tick. let exact = quotient_exact cycles tick in record {
    none = λ e. ap (λ s. s.number) (said_bad says_ticks exact e);
    some = λ p. let is = said says_ticks exact p in (ap (λ s. s.number) is, ap (λ s. s.value.0) is);
  };
  ticks_to_cycles_lem = product_clauses;
  max_ticks_lem = λ tick. let exact = most_exact tick in record {
    none = λ e. ap (λ s. s.number) (said_bad says_most exact e);
    some = λ p. ap (λ s. s.number) (said says_most exact p);
  };
  elapsed_decide_lem = decide_clauses;
  announce_decide_lem = announce_clauses;
}

pub timer_lemmas : TimerLemmas
timer_lemmas = record {
  lemma_elapsed_bounded = λ last current load elapsed e. let facts = accepted_difference last current load elapsed e in rw facts.2 (difference_within last current load facts.0 facts.1);
  lemma_roundtrip = back_again;
  lemma_monotonicity = λ c1 c2 tick t1 t2 h e1 e2.
      let one = accepted_ticks c1 tick t1 e1 in
      let two = accepted_ticks c2 tick t2 e2 in
      rw (one.1, two.1) (quotients_keep_order c1.0 c2.0 tick one.0 h);
  lemma_counter_bounded = λ last current load elapsed h e. let facts = accepted_difference last current load elapsed e in rw facts.2 (le_trans (difference_within last current load facts.0 facts.1) h);
  max_ticks_fit = λ tick ticks e. rw (accepted_most tick ticks e) (most_fits tick);
  lemma_wrap_symmetry = λ last current load h b. timer.wrapped last current load b h ∙ ap Ok (omega arith);
  lemma_zero_elapsed = λ count load h. timer.counted_down count count load h (omega arith) ∙ ap Ok (omega arith);
  lemma_conversion_truncation = truncation;
  ticks_within = λ cycles tick ticks e. rw (accepted_ticks cycles tick ticks e).1 (div-le_self cycles.0 tick);
  cycles_fit = λ ticks tick cycles e. let facts = accepted_cycles ticks tick cycles e in rw facts.1 facts.0;
}
