-- Evidence: upstream's clauses and lemmas of usage.rs, each over our definition, `is_tracked_lem` over its contract. They follow from 01's formulas.
use Rattle.std.specs.Prelude.{ℕ, ◌+◌, ◌/◌, ◌%◌, ◌^◌, ◌≤◌, ◌<◌, ◌≡◌, Bool, true, false, cond, ◌⊎◌, ◌↔◌}
use Rattle.error.specs.Numbers.{ok, minus, max32}
use Rattle.units.specs.declared.Cycles.{Cycles}
use Rattle.usage.specs.declared.ThreadUsage.{ThreadUsage}
use Rattle.usage.specs.Says.{InPlace}
use Rattle.usage.specs.declared.SysTrackDecision.{SysTrackDecision}
use Rattle.usage.specs.declared.SysTrackDecision.TheVariants.{NoOp, Apply}
use Rattle.usage.specs.declared.StartDecision.TheVariants.{RecordStart, RecordOnly}
use Rattle.usage.specs.declared.StopDecision.TheVariants.{Accumulate, Skip}
use Rattle.usage.specs.Formulas.{new_idle, average_cycles, elapsed_stamps}
use Rattle.usage.specs.Leaves.{sys_enable_decide, sys_disable_decide, start_decide, stop_decide}
use Rattle.usage.proofs.is_tracked.Reads as usage-is-tracked
use Rattle.demands.specs.Contract.{Every}
use Rattle.usage.specs.Says.{enable_outcome, disable_outcome, accumulate_outcome, sys_track_says}

-- what enable ensures, but for an untracked record with a full count of windows
pub record EnableEnsures (old : ThreadUsage) (after : InPlace) : Type 0 where
  pub code : after.code ≡ ok
  pub tracked : after.usage.track_usage ≡ true
  pub total : after.usage.total_cycles ≡ old.total_cycles
  pub opened : old.track_usage ≡ false → after.usage.num_windows ≡ old.num_windows + 1
  pub windows_kept : old.track_usage ≡ true → after.usage.num_windows ≡ old.num_windows

pub record DisableEnsures (old : ThreadUsage) (after : InPlace) : Type 0 where
  pub code : after.code ≡ ok
  pub untracked : after.usage.track_usage ≡ false
  pub total : after.usage.total_cycles ≡ old.total_cycles
  pub windows : after.usage.num_windows ≡ old.num_windows

pub record AccumulateEnsures (old : ThreadUsage) (cycles : ℕ) (after : InPlace) : Type 0 where
  pub code : (after.code ≡ ok) ⊎ (after.code ≡ minus 139)
  pub added : after.code ≡ ok → after.usage.total_cycles.0 ≡ old.total_cycles.0 + cycles
  pub unchanged : after.code ≡ minus 139 → after.usage ≡ old
  -- which upstream leaves open
  pub flag : after.usage.track_usage ≡ old.track_usage
  pub windows : after.usage.num_windows ≡ old.num_windows

pub record ThreadClauses : Type 0 where
  pub new_idle_lem : (new_idle.track_usage ≡ false) × (new_idle.total_cycles.0 ≡ 0) × (new_idle.num_windows ≡ 0)
  pub is_tracked_lem : (u : ThreadUsage) → Every usage-is-tracked.Post (u, tt) (λ r. r ≡ u.track_usage)
  pub enable_but_full : (u : ThreadUsage) → (u.track_usage ≡ true) ⊎ ((u.track_usage ≡ false) × (u.num_windows ≡ max32 → ⊥)) → EnableEnsures u (enable_outcome u)
  -- 01's replacement where upstream's clauses can't all hold
  pub enable_full : (u : ThreadUsage) → u.track_usage ≡ false → u.num_windows ≡ max32 → enable_outcome u ≡ record { code = minus 139; usage = u }
  pub disable_always : (u : ThreadUsage) → DisableEnsures u (disable_outcome u)
  pub accumulate_always : (u : ThreadUsage) (cycles : ℕ) → AccumulateEnsures u cycles (accumulate_outcome u cycles)
  pub sys_enable_decide_lem : (sys_enable_decide true ≡ NoOp) × (sys_enable_decide false ≡ Apply)
  pub sys_disable_decide_lem : (sys_disable_decide false ≡ NoOp) × (sys_disable_decide true ≡ Apply)
  pub start_decide_lem : (start_decide true ≡ RecordStart) × (start_decide false ≡ RecordOnly)
  pub stop_decide_lem : (usage0 : ℕ) → ((usage0 ≡ 0 → ⊥) → stop_decide usage0 ≡ Accumulate) × (usage0 ≡ 0 → stop_decide usage0 ≡ Skip)
  pub average_cycles_lem : (total : Cycles) (windows : ℕ) → (windows ≡ 0 → (average_cycles total windows).0 ≡ 0) × ((windows ≡ 0 → ⊥) → (average_cycles total windows).0 ≡ total.0 / windows)
  -- now.wrapping_sub(usage0), by what it means: added to usage0 it gives now, modulo 2^32
  pub elapsed_cycles_lem : (now usage0 : ℕ) → now < 2 ^ 32 → usage0 < 2 ^ 32 → (elapsed_stamps now usage0 < 2 ^ 32) × ((usage0 + elapsed_stamps now usage0) % 2 ^ 32 ≡ now)

-- whether the system tracks after a decision, toward `wanted`, is carried out
abbrev pub carried_out : SysTrackDecision → Bool → Bool → Bool
carried_out decision wanted now = cond (sys_track_says decision).value wanted now

abbrev pub sys_enabled : Bool → Bool
sys_enabled now = carried_out (sys_enable_decide now) true now

abbrev pub sys_disabled : Bool → Bool
sys_disabled now = carried_out (sys_disable_decide now) false now

-- upstream's lemmas by name; upstream states nothing of them, so each is the law that its name suggests
pub record ThreadLemmas : Type 0 where
  -- US4: twice is once, the first reaches the wanted state, and the second finds nothing to do
  pub lemma_sys_enable_idempotent : (now : Bool) → (sys_enabled now ≡ true) × (sys_enabled (sys_enabled now) ≡ sys_enabled now) × (sys_enable_decide (sys_enabled now) ≡ NoOp)
  pub lemma_sys_disable_idempotent : (now : Bool) → (sys_disabled now ≡ false) × (sys_disabled (sys_disabled now) ≡ sys_disabled now) × (sys_disable_decide (sys_disabled now) ≡ NoOp)
  -- US2
  pub lemma_stop_skips_on_zero : stop_decide 0 ≡ Skip
  pub lemma_stop_accumulates_on_nonzero : (u0 : ℕ) → (stop_decide u0 ≡ Accumulate) ↔ (u0 ≡ 0 → ⊥)
  -- US5
  pub lemma_average_zero_windows : (total : Cycles) → (average_cycles total 0).0 ≡ 0
  pub lemma_average_nonzero_windows : (total : Cycles) (windows : ℕ) → 0 < windows → (average_cycles total windows).0 ≡ total.0 / windows
  -- US3: enable, then disable: the flag cleared, the total kept, windows one more, or as many where the record was tracked
  pub lemma_enable_disable_roundtrip : (u : ThreadUsage) → u.track_usage ≡ false → (u.num_windows ≡ max32 → ⊥) → disable_outcome (enable_outcome u).usage ≡ record { code = ok; usage = record { track_usage = false; total_cycles = u.total_cycles; num_windows = u.num_windows + 1 } }
  pub lemma_enable_disable_tracked : (u : ThreadUsage) → u.track_usage ≡ true → disable_outcome (enable_outcome u).usage ≡ record { code = ok; usage = record { track_usage = false; total_cycles = u.total_cycles; num_windows = u.num_windows } }
  -- US1
  pub start_only_when_tracked : (flag : Bool) → (start_decide flag ≡ RecordStart) ↔ (flag ≡ true)
  -- US6
  pub total_never_falls : (u : ThreadUsage) (cycles : ℕ) → u.total_cycles.0 ≤ (accumulate_outcome u cycles).usage.total_cycles.0
