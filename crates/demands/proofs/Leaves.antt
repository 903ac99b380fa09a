-- Every leaf answers exactly what 01 says, and the round trip.
use Rattle.std.specs.Prelude.{Ok, Err}
use Prim.Native.Nat.{ℕ, ◌+◌, ◌-◌, ◌*◌, ◌/◌, ◌%◌, ◌^◌, ◌≤◌, ◌<◌}
use mathlib.Core.Path.{◌≡◌, refl, sym, ap, subst, ◌∙◌}
use mathlib.Core.Bool.{Bool, true, false, cond}
use mathlib.Core.Logic.{◌⊎◌, inl, inr, ⊎_elim}
use native.Mathlib.Omega.{arith}
use native.Mathlib.Nat.{mul-div_cancel, eq-zero-or-pos}
use lib.Dec.{eqb}
use borrow.Author.Tests.{eqb-true, eqb-false}
use Rattle.error.proofs.Tests.{clash}
use Rattle.error.specs.Numbers.{max32, max64}
use Rattle.error.specs.declared.Refusal.TheVariants.{Invalid}
use Rattle.units.specs.declared.Cycles.{Cycles}
use Rattle.units.specs.declared.Ticks.{Ticks}
use Rattle.systick.specs.Leaves.{difference, elapsed_cycles, cycles_to_ticks, ticks_to_cycles, most_ticks, max_ticks, elapsed_decide, announce_decide}
use Rattle.systick.specs.Decisions.{dticks_of, announce_value}
use Rattle.systick.proofs.Outcomes as timer
use Rattle.usage.specs.declared.ThreadUsage.{ThreadUsage}
use Rattle.usage.specs.Formulas.{elapsed_stamps}
use Rattle.usage.specs.Record.{with_total}
use Rattle.usage.specs.Leaves.{enabled_record, enabled, accumulated, sys_enable_decide, sys_disable_decide, start_decide}
use Rattle.usage.proofs.Outcomes as thread
use Rattle.demands.specs.Exact.{Exact}
use Rattle.demands.specs.Leaves.{LeavesExact}
use Rattle.demands.proofs.Exactly.{either, exactly, by_rows}

difference_cases : {last current load : ℕ} → (last ≤ load) ⊎ (load < last) → (current ≤ load) ⊎ (load < current) → ((last ≤ load) × (current ≤ load)) ⊎ (((load < last) ⊎ (load < current)) ⊎ ⊥)
difference_cases (inl a) (inl b) = inl (a, b)
difference_cases (inl a) (inr h) = inr (inl (inr h))
difference_cases (inr h) b = inr (inl (inl h))

outside : {last current load : ℕ} → (load < last) ⊎ (load < current) → (last ≤ load) ⊎ (load < last) → elapsed_cycles last current load ≡ Err Invalid
outside (inl h) side = timer.last_above _ _ _ h
outside (inr h) (inl a) = timer.current_above _ _ _ a h
outside (inr h) (inr b) = timer.last_above _ _ _ b

-- a tick is 0 or above
tick_cases : (tick : ℕ) → (0 < tick) ⊎ ((tick ≡ 0) ⊎ ⊥)
tick_cases tick = ⊎_elim (λ e. inr (inl e)) (λ p. inl p) (eq-zero-or-pos tick)

-- a sum or product fits 64 bits or does not
fit_cases : (n : ℕ) → (n ≤ max64) ⊎ (⊥ ⊎ (max64 < n))
fit_cases n = ⊎_elim (λ h. inl h) (λ h. inr (inr h)) (either n max64)

-- 01's four tests in order: which of them holds first, for any tick, new count, announced cycles and ticks
announce_cases :
    (tick new announced dticks : ℕ) →
    (tick ≡ 0) ⊎ (0 < tick) →
    (new ≤ max64) ⊎ (max64 < new) →
    (announced ≤ new) ⊎ (new < announced) →
    (dticks ≤ max32) ⊎ (max32 < dticks) →
    ((0 < tick) × (new ≤ max64) × (announced ≤ new) × (dticks ≤ max32)) ⊎
    (((tick ≡ 0) ⊎ ((0 < tick) × (new ≤ max64) × (new < announced))) ⊎
    (((0 < tick) × (max64 < new)) ⊎ ((0 < tick) × (new ≤ max64) × (announced ≤ new) × (max32 < dticks))))
announce_cases tick new announced dticks (inl e) b c d = inr (inl (inl e))
announce_cases tick new announced dticks (inr p) (inr h) c d = inr (inr (inl (p, h)))
announce_cases tick new announced dticks (inr p) (inl b) (inr h) d = inr (inl (inr (p, b, h)))
announce_cases tick new announced dticks (inr p) (inl b) (inl c) (inr h) = inr (inr (inr (p, b, c, h)))
announce_cases tick new announced dticks (inr p) (inl b) (inl c) (inl d) = inl (p, b, c, d)

enable_cases :
    (u : ThreadUsage) →
    (on : Bool) →
    u.track_usage ≡ on →
    (full : Bool) →
    eqb u.num_windows max32 ≡ full →
    ((u.track_usage ≡ true) ⊎ ((u.track_usage ≡ false) × (u.num_windows ≡ max32 → ⊥))) ⊎
    (⊥ ⊎ ((u.track_usage ≡ false) × (u.num_windows ≡ max32)))
enable_cases u true t full e = inl (inl t)
enable_cases u false t true e = inr (inr (t, eqb-true _ _ e))
enable_cases u false t false e = inl (inr (t, eqb-false _ _ e))

pub round_trip : (ticks : Ticks) (tick : ℕ) (cycles : Cycles) → 0 < tick → ticks_to_cycles ticks tick ≡ Ok cycles → cycles_to_ticks cycles tick ≡ Ok ticks
round_trip ticks tick cycles p e = by_case (either (ticks.0 * tick) max64)
  where
    by_case : (ticks.0 * tick ≤ max64) ⊎ (max64 < ticks.0 * tick) → cycles_to_ticks cycles tick ≡ Ok ticks
    by_case (inl h) =
        let product : record { 0 = ticks.0 * tick } ≡ cycles = cc (timer.cycles_given ticks tick h) in
        subst (λ (c : Cycles). cycles_to_ticks c tick ≡ Ok ticks) product
        (timer.ticks_given (record { 0 = ticks.0 * tick }) tick p ∙
        ap (λ (n : ℕ). Ok (record { 0 = n })) (mul-div_cancel ticks.0 p))
    by_case (inr h) = clash (cc (timer.product_above ticks tick h))

-- each leaf's definition answers exactly what 01 says
pub difference_exact : (last current load : ℕ) → Exact Ok Err (elapsed_cycles last current load) ((last ≤ load) × (current ≤ load)) (difference last current load) ((load < last) ⊎ (load < current)) ⊥
difference_exact last current load =
    exactly Ok Err (λ why e. clash (cc)) (λ e. clash (cc)) (difference_cases (either last load) (either current load))
    (λ fits. timer.difference_given last current load fits.0 fits.1)
    (λ bad. outside bad (either last load))
    (λ never. absurd never)

pub quotient_exact : (cycles : Cycles) (tick : ℕ) → Exact Ok Err (cycles_to_ticks cycles tick) (0 < tick) (record { 0 = cycles.0 / tick }) (tick ≡ 0) ⊥
quotient_exact cycles tick =
    exactly Ok Err (λ why e. clash (cc)) (λ e. clash (cc)) (tick_cases tick)
    (timer.ticks_given cycles tick)
    (timer.ticks_no_tick cycles tick)
    (λ never. absurd never)

pub product_exact : (ticks : Ticks) (tick : ℕ) → Exact Ok Err (ticks_to_cycles ticks tick) (ticks.0 * tick ≤ max64) (record { 0 = ticks.0 * tick }) ⊥ (max64 < ticks.0 * tick)
product_exact ticks tick =
    exactly Ok Err (λ why e. clash (cc)) (λ e. clash (cc)) (fit_cases (ticks.0 * tick))
    (timer.cycles_given ticks tick)
    (λ never. absurd never)
    (timer.product_above ticks tick)

pub most_exact : (tick : ℕ) → Exact Ok Err (max_ticks tick) (0 < tick) (record { 0 = most_ticks tick }) (tick ≡ 0) ⊥
most_exact tick =
    exactly Ok Err (λ why e. clash (cc)) (λ e. clash (cc)) (tick_cases tick)
    (timer.most_ticks_given tick)
    (timer.most_no_tick tick)
    (λ never. absurd never)

pub announce_exact : (count announced : Cycles) (overflow tick : ℕ) → let new-count = count.0 + overflow in let dticks = dticks_of count announced overflow tick in Exact Ok Err (announce_decide count announced overflow tick) ((0 < tick) × (new-count ≤ max64) × (announced.0 ≤ new-count) × (dticks ≤ max32)) (announce_value count announced overflow tick) ((tick ≡ 0) ⊎ ((0 < tick) × (new-count ≤ max64) × (new-count < announced.0))) (((0 < tick) × (max64 < new-count)) ⊎ ((0 < tick) × (new-count ≤ max64) × (announced.0 ≤ new-count) × (max32 < dticks)))
announce_exact count announced overflow tick =
    exactly Ok Err (λ why e. clash (cc)) (λ e. clash (cc))
    (announce_cases tick (count.0 + overflow) announced.0 (dticks_of count announced overflow tick) (eq-zero-or-pos tick) (either _ _) (either _ _) (either _ _))
    (λ fits. timer.announced_now count announced overflow tick fits.0 fits.1 fits.2 fits.3)
    (⊎_elim (timer.announce_no_tick count announced overflow tick) (λ h. timer.announced_above count announced overflow tick h.0 h.1 h.2))
    (⊎_elim (λ h. timer.count_above count announced overflow tick h.0 h.1) (λ h. timer.dticks_above count announced overflow tick h.0 h.1 h.2 h.3))

enable_exact : (u : ThreadUsage) → Exact Ok Err (enabled u) ((u.track_usage ≡ true) ⊎ ((u.track_usage ≡ false) × (u.num_windows ≡ max32 → ⊥))) (enabled_record u) ⊥ ((u.track_usage ≡ false) × (u.num_windows ≡ max32))
enable_exact u =
    exactly Ok Err (λ why e. clash (cc)) (λ e. clash (cc)) (enable_cases u u.track_usage refl (eqb u.num_windows max32) refl)
    (thread.enabled_given u)
    (λ never. absurd never)
    (λ full. thread.windows_full u full.0 full.1)

sum_exact : (u : ThreadUsage) (cycles : ℕ) → Exact Ok Err (accumulated u cycles) (u.total_cycles.0 + cycles ≤ max64) (with_total (record { 0 = u.total_cycles.0 + cycles }) u) ⊥ (max64 < u.total_cycles.0 + cycles)
sum_exact u cycles =
    exactly Ok Err (λ why e. clash (cc)) (λ e. clash (cc)) (fit_cases (u.total_cycles.0 + cycles))
    (thread.sum_kept u cycles)
    (λ never. absurd never)
    (thread.sum_above u cycles)

-- a decision by its two cases
by_flag : {A : Type 0} (f : Bool → A) (flag : Bool) → f flag ≡ cond flag (f true) (f false)
by_flag f true = refl
by_flag f false = refl

-- the low bits of two times are as far apart as the times, modulo 2^32
low_apart : (from to : ℕ) → from ≤ to → elapsed_stamps (to % 2 ^ 32) (from % 2 ^ 32) ≡ (to - from) % 2 ^ 32
low_apart from to h = omega (arith, h)

pub leaves_exact : LeavesExact
unfolding elapsed_decide announce_decide
leaves_exact = record {
  elapsed_cycles_lem = λ last current load r allowed. rw allowed.2 (difference_exact last current load);
  cycles_to_ticks_lem = λ cycles tick r allowed. rw allowed.2 (quotient_exact cycles tick);
  ticks_to_cycles_lem = λ ticks tick r allowed. rw allowed.2 (product_exact ticks tick);
  max_ticks_lem = λ tick r allowed. rw allowed.2 (most_exact tick);
  elapsed_decide_lem = λ val1 val2 flag load overflow r allowed. rw allowed.2 (by_rows Ok Err _ _ (λ why e. clash (cc)) (λ r s e. cc));
  announce_decide_lem = λ count announced overflow tick r allowed. rw allowed.2 (by_rows Ok Err _ _ (λ why e. clash (cc)) (λ r s e. cc));
  enable = λ u r allowed. rw allowed.2 (enable_exact u);
  accumulate = λ u cycles r allowed. rw allowed.2 (sum_exact u cycles);
  disable = λ u r allowed. allowed.2;
  new_idle_lem = λ r allowed. allowed.2;
  is_tracked_lem = λ u r allowed. allowed.2;
  average = λ total windows r allowed. allowed.2;
  stamps_apart = λ now then r allowed. allowed.2;
  sys_enable_decide_lem = λ tracking r allowed. allowed.2 ∙ by_flag sys_enable_decide tracking;
  sys_disable_decide_lem = λ tracking r allowed. allowed.2 ∙ by_flag sys_disable_decide tracking;
  start_decide_lem = λ tracked r allowed. allowed.2 ∙ by_flag start_decide tracked;
  stop_decide_lem = λ usage0 r allowed. allowed.2;
  stamps_true = λ from to h r allowed. allowed.2 ∙ low_apart from to h;
  round_trip = λ ticks tick cycles p there allowed e back allowed'. allowed'.2 ∙ round_trip ticks tick cycles p (sym allowed.2 ∙ e);
}
