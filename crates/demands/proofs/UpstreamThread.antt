-- Every clause and lemma of upstream's usage.rs follows from our definitions.
use Rattle.std.specs.Prelude.{Result, Ok}
use Prim.Native.Nat.{ℕ, ◌+◌, ◌%◌, ◌^◌, ◌≤◌, ◌<◌}
use mathlib.Core.Path.{◌≡◌, refl, ap}
use mathlib.Core.Bool.{Bool, true, false}
use mathlib.Core.Logic.{◌⊎◌, inl, inr}
use native.Mathlib.Omega.{arith}
use lib.Signed.{mag}
use Rattle.error.proofs.Tests.{clash}
use Rattle.error.specs.Numbers.{ok, minus, max32, max64}
use Rattle.units.specs.declared.Cycles.{Cycles}
use Rattle.usage.specs.Leaves.{enabled, accumulated, sys_enable_decide, sys_disable_decide, start_decide, stop_decide}
use Rattle.usage.specs.Formulas.{elapsed_stamps}
use Rattle.usage.specs.Says.{outcome_of, kept, sys_track_says, enable_outcome, disable_outcome, accumulate_outcome}
use Rattle.usage.specs.declared.ThreadUsage.{ThreadUsage}
use Rattle.usage.specs.Says.{InPlace}
use Rattle.usage.specs.declared.SysTrackDecision.TheVariants.{NoOp}
use Rattle.usage.specs.declared.StartDecision.TheVariants.{RecordStart}
use Rattle.usage.specs.declared.StopDecision.TheVariants.{Accumulate}
use Rattle.usage.proofs.Outcomes as thread
use Rattle.demands.specs.UpstreamThread.{EnableEnsures, DisableEnsures, AccumulateEnsures, ThreadClauses, ThreadLemmas, sys_enabled, sys_disabled}
use Rattle.demands.proofs.Exactly.{either}
use Rattle.error.specs.declared.Refusal.{Refusal}
use Rattle.error.specs.Said.{number_in}

-- an accepted change with 0 and the new record
stored : (u v : ThreadUsage) (answer : Result ThreadUsage Refusal) → answer ≡ Ok v → outcome_of u answer ≡ record { code = ok; usage = v }
unfolding number_in kept
stored u v answer e = ap (outcome_of u) e

enable_clauses : (u : ThreadUsage) → (u.track_usage ≡ true) ⊎ ((u.track_usage ≡ false) × (u.num_windows ≡ max32 → ⊥)) → EnableEnsures u (enable_outcome u)
enable_clauses u (inl on) =
    rw (stored u u (enabled u) (thread.already_tracked u on))
    (record {
      code = refl;
      tracked = on;
      total = refl;
      opened = λ off. clash (cc);
      windows_kept = λ again. refl;
    })
enable_clauses u (inr (off, room)) =
    rw (stored u _ (enabled u) (thread.window_opened u off room))
    (record {
      code = refl;
      tracked = refl;
      total = refl;
      opened = λ again. refl;
      windows_kept = λ on. clash (cc);
    })

full : (u : ThreadUsage) → u.track_usage ≡ false → u.num_windows ≡ max32 → enable_outcome u ≡ record { code = minus 139; usage = u }
unfolding number_in kept
full u off h = ap (outcome_of u) (thread.windows_full u off h)

disable_clauses : (u : ThreadUsage) → DisableEnsures u (disable_outcome u)
unfolding number_in kept
disable_clauses u = record { code = refl; untracked = refl; total = refl; windows = refl }

accumulate_clauses : (u : ThreadUsage) (cycles : ℕ) → AccumulateEnsures u cycles (accumulate_outcome u cycles)
unfolding number_in kept
accumulate_clauses u cycles = by_case (either (u.total_cycles.0 + cycles) max64)
  where
    by_case : (u.total_cycles.0 + cycles ≤ max64) ⊎ (max64 < u.total_cycles.0 + cycles) → AccumulateEnsures u cycles (accumulate_outcome u cycles)
    by_case (inl h) =
        rw (stored u _ (accumulated u cycles) (thread.sum_kept u cycles h))
        (record {
          code = inl refl;
          added = λ n. refl;
          unchanged = λ n. let clash = ap mag n in absurd (omega arith);
          flag = refl;
          windows = refl;
        })
    by_case (inr h) =
        let is : accumulate_outcome u cycles ≡ record { code = minus 139; usage = u } = ap (outcome_of u) (thread.sum_above u cycles h) in
        rw is
        (record {
          code = inr refl;
          added = λ n. let clash = ap mag n in absurd (omega arith);
          unchanged = λ n. refl;
          flag = refl;
          windows = refl;
        })

-- wrapping: what is added to the old stamp gives the new one
difference_back : (now usage0 : ℕ) → now < 2 ^ 32 → usage0 < 2 ^ 32 → (elapsed_stamps now usage0 < 2 ^ 32) × ((usage0 + elapsed_stamps now usage0) % 2 ^ 32 ≡ now)
difference_back now usage0 a b = (omega arith, omega arith)

pub thread_clauses : ThreadClauses
thread_clauses = record {
  new_idle_lem = (refl, refl, refl);
  is_tracked_lem = λ u r given. given.2;
  enable_but_full = enable_clauses;
  enable_full = full;
  disable_always = disable_clauses;
  accumulate_always = accumulate_clauses;
  sys_enable_decide_lem = (refl, refl);
  sys_disable_decide_lem = (refl, refl);
  start_decide_lem = (refl, refl);
  stop_decide_lem = λ usage0. (thread.to_accumulate usage0, thread.skipped usage0);
  average_cycles_lem = λ total windows. (λ e. ap (λ (c : Cycles). c.0) (thread.no_windows total windows e), λ n. ap (λ (c : Cycles). c.0) (thread.averaged total windows n));
  elapsed_cycles_lem = difference_back;
}

enable_twice : (now : Bool) → (sys_enabled now ≡ true) × (sys_enabled (sys_enabled now) ≡ sys_enabled now) × (sys_enable_decide (sys_enabled now) ≡ NoOp)
unfolding sys_track_says
enable_twice true = (refl, refl, refl)
enable_twice false = (refl, refl, refl)

disable_twice : (now : Bool) → (sys_disabled now ≡ false) × (sys_disabled (sys_disabled now) ≡ sys_disabled now) × (sys_disable_decide (sys_disabled now) ≡ NoOp)
unfolding sys_track_says
disable_twice true = (refl, refl, refl)
disable_twice false = (refl, refl, refl)

only_nonzero : (u0 : ℕ) → stop_decide u0 ≡ Accumulate → u0 ≡ 0 → ⊥
only_nonzero u0 e z = clash (cc (thread.skipped u0 z))

only_tracked : (flag : Bool) → start_decide flag ≡ RecordStart → flag ≡ true
only_tracked true e = refl
only_tracked false e = clash (cc)

there_and_back : (u : ThreadUsage) → u.track_usage ≡ false → (u.num_windows ≡ max32 → ⊥) → disable_outcome (enable_outcome u).usage ≡ record { code = ok; usage = record { track_usage = false; total_cycles = u.total_cycles; num_windows = u.num_windows + 1 } }
unfolding number_in kept
there_and_back u off room = ap (λ (o : InPlace). disable_outcome o.usage) (stored u _ (enabled u) (thread.window_opened u off room))

there_and_back_tracked : (u : ThreadUsage) → u.track_usage ≡ true → disable_outcome (enable_outcome u).usage ≡ record { code = ok; usage = record { track_usage = false; total_cycles = u.total_cycles; num_windows = u.num_windows } }
unfolding number_in kept
there_and_back_tracked u on = ap (λ (o : InPlace). disable_outcome o.usage) (stored u _ (enabled u) (thread.already_tracked u on))

never_falls : (u : ThreadUsage) (cycles : ℕ) → u.total_cycles.0 ≤ (accumulate_outcome u cycles).usage.total_cycles.0
never_falls u cycles = by_case (accumulate_clauses u cycles).code
  where
    by_case : ((accumulate_outcome u cycles).code ≡ ok) ⊎ ((accumulate_outcome u cycles).code ≡ minus 139) → u.total_cycles.0 ≤ (accumulate_outcome u cycles).usage.total_cycles.0
    by_case (inl n) = rw ((accumulate_clauses u cycles).added n) (omega arith)
    by_case (inr n) = rw ((accumulate_clauses u cycles).unchanged n) (omega arith)

pub thread_lemmas : ThreadLemmas
thread_lemmas = record {
  lemma_sys_enable_idempotent = enable_twice;
  lemma_sys_disable_idempotent = disable_twice;
  lemma_stop_skips_on_zero = refl;
  lemma_stop_accumulates_on_nonzero = λ u0. (only_nonzero u0, thread.to_accumulate u0);
  lemma_average_zero_windows = λ total. ap (λ (c : Cycles). c.0) (thread.no_windows total 0 refl);
  lemma_average_nonzero_windows = λ total windows p. ap (λ (c : Cycles). c.0) (thread.averaged total windows (λ e. omega arith));
  lemma_enable_disable_roundtrip = there_and_back;
  lemma_enable_disable_tracked = there_and_back_tracked;
  start_only_when_tracked = λ flag. (only_tracked flag, λ e. ap start_decide e);
  total_never_falls = never_falls;
}
