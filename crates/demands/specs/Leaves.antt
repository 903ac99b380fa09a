-- Believed: 01's leaf formulas, written out. A leaf that can refuse does so exactly when 01 says, and else gives the formula; ticks made into cycles come back.
use Rattle.std.specs.Prelude.{ℕ, ◌+◌, ◌-◌, ◌*◌, ◌/◌, ◌%◌, ◌^◌, ◌≤◌, ◌<◌, ◌≡◌, Bool, true, false, cond, [], ◌∷◌, ◌⊎◌, ltb, leb, eqb, Ok, Err}
use Rattle.error.specs.declared.Refusal.TheVariants.{Invalid, Overflow}
use Rattle.error.specs.Numbers.{max32, max64}
use Rattle.units.specs.declared.Cycles.{Cycles}
use Rattle.units.specs.declared.Ticks.{Ticks}
use Rattle.systick.specs.Decisions.{elapsed_value, announce_value, announce_tests}
use Rattle.systick.proofs.elapsed_cycles.Reads as systick-elapsed-cycles
use Rattle.systick.proofs.cycles_to_ticks.Reads as systick-cycles-to-ticks
use Rattle.systick.proofs.ticks_to_cycles.Reads as systick-ticks-to-cycles
use Rattle.systick.proofs.max_ticks.Reads as systick-max-ticks
use Rattle.systick.proofs.elapsed_decide.Reads as systick-elapsed-decide
use Rattle.systick.proofs.announce_decide.Reads as systick-announce-decide
use Rattle.usage.specs.declared.ThreadUsage.{ThreadUsage}
use Rattle.usage.specs.declared.SysTrackDecision.TheVariants.{NoOp, Apply}
use Rattle.usage.specs.declared.StartDecision.TheVariants.{RecordStart, RecordOnly}
use Rattle.usage.specs.declared.StopDecision.TheVariants.{Accumulate, Skip}
use Rattle.usage.specs.Formulas.{new_idle, average_cycles, elapsed_stamps}
use Rattle.usage.proofs.ThreadUsage.new_idle.Reads as usage-new-idle
use Rattle.usage.proofs.is_tracked.Reads as usage-is-tracked
use Rattle.usage.proofs.enabled.Reads as usage-enabled
use Rattle.usage.proofs.disabled.Reads as usage-disabled
use Rattle.usage.proofs.accumulated.Reads as usage-accumulated
use Rattle.usage.proofs.average_cycles.Reads as usage-average-cycles
use Rattle.usage.proofs.elapsed_cycles.Reads as usage-elapsed-cycles
use Rattle.usage.proofs.sys_enable_decide.Reads as usage-sys-enable-decide
use Rattle.usage.proofs.sys_disable_decide.Reads as usage-sys-disable-decide
use Rattle.usage.proofs.start_decide.Reads as usage-start-decide
use Rattle.usage.proofs.stop_decide.Reads as usage-stop-decide
use Rattle.demands.specs.Contract.{Every, Gives, Gives1, Gives2}
use Rattle.demands.specs.Exact.{Exact, ByRows}

pub record LeavesExact : Type 0 where
  pub elapsed_cycles_lem :
      (last current load : ℕ) →
      Every systick-elapsed-cycles.Post (last, (current, (load, tt))) (λ r. Exact Ok Err r ((last ≤ load) × (current ≤ load)) (cond (leb current last) (last - current) (last + load - current)) ((load < last) ⊎ (load < current)) ⊥)
  pub cycles_to_ticks_lem : (cycles : Cycles) (tick : ℕ) → Every systick-cycles-to-ticks.Post (cycles, (tick, tt)) (λ r. Exact Ok Err r (0 < tick) (record { 0 = cycles.0 / tick }) (tick ≡ 0) ⊥)
  pub ticks_to_cycles_lem : (ticks : Ticks) (tick : ℕ) → Every systick-ticks-to-cycles.Post (ticks, (tick, tt)) (λ r. Exact Ok Err r (ticks.0 * tick ≤ max64) (record { 0 = ticks.0 * tick }) ⊥ (max64 < ticks.0 * tick))
  pub max_ticks_lem : (tick : ℕ) → Every systick-max-ticks.Post (tick, tt) (λ r. Exact Ok Err r (0 < tick) (record { 0 = cond (eqb (16777215 / tick) 0) 0 (16777215 / tick - 1) }) (tick ≡ 0) ⊥)
  -- In order: val2 > load, -22; load - val2 + overflow + load above 2^32 - 1, -139, wrap or not.
  pub elapsed_decide_lem :
      (val1 val2 : ℕ) (flag : Bool) (load overflow : ℕ) →
      Every systick-elapsed-decide.Post (val1, (val2, (flag, (load, (overflow, tt))))) (λ r. ByRows Ok Err r ((ltb load val2, Invalid) ∷ (ltb max32 (load - val2 + overflow + load), Overflow) ∷ []) (elapsed_value val1 val2 flag load overflow))
  pub announce_decide_lem :
      (count announced : Cycles) (overflow tick : ℕ) →
      Every systick-announce-decide.Post (count, (announced, (overflow, (tick, tt)))) (λ r. ByRows Ok Err r (announce_tests count announced overflow tick) (announce_value count announced overflow tick))
  pub enable :
      (u : ThreadUsage) →
      Every usage-enabled.Post (u, tt) (λ r.
      Exact Ok Err r
      ((u.track_usage ≡ true) ⊎ ((u.track_usage ≡ false) × (u.num_windows ≡ max32 → ⊥))) (cond u.track_usage u (record { track_usage = true; total_cycles = u.total_cycles; num_windows = u.num_windows + 1 }))
      ⊥ ((u.track_usage ≡ false) × (u.num_windows ≡ max32)))
  pub accumulate :
      (u : ThreadUsage) (cycles : ℕ) →
      Every usage-accumulated.Post (u, (cycles, tt)) (λ r.
      Exact Ok Err r
      (u.total_cycles.0 + cycles ≤ max64) (record { track_usage = u.track_usage; total_cycles = record { 0 = u.total_cycles.0 + cycles }; num_windows = u.num_windows })
      ⊥ (max64 < u.total_cycles.0 + cycles))
  -- never refused: disable, a fresh record, its flag, the average, the difference of two stamps, and the four decisions
  pub disable : Gives1 usage-disabled.Post (λ u. Ok (record { track_usage = false; total_cycles = u.total_cycles; num_windows = u.num_windows }))
  pub new_idle_lem : Gives usage-new-idle.Post new_idle
  pub is_tracked_lem : Gives1 usage-is-tracked.Post (λ u. u.track_usage)
  pub average : Gives2 usage-average-cycles.Post average_cycles
  pub stamps_apart : Gives2 usage-elapsed-cycles.Post elapsed_stamps
  pub sys_enable_decide_lem : Gives1 usage-sys-enable-decide.Post (λ tracking. cond tracking NoOp Apply)
  pub sys_disable_decide_lem : Gives1 usage-sys-disable-decide.Post (λ tracking. cond tracking Apply NoOp)
  pub start_decide_lem : Gives1 usage-start-decide.Post (λ tracked. cond tracked RecordStart RecordOnly)
  pub stop_decide_lem : Gives1 usage-stop-decide.Post (λ usage0. cond (eqb usage0 0) Skip Accumulate)
  -- the difference of the low 32 bits of two times is the true length between them modulo 2^32, for any length
  pub stamps_true : (from to : ℕ) → from ≤ to → Every usage-elapsed-cycles.Post (to % 2 ^ 32, (from % 2 ^ 32, tt)) (λ r. r ≡ (to - from) % 2 ^ 32)
  -- for a tick above 0, wherever ticks_to_cycles accepts, cycles_to_ticks of its answer gives the same ticks
  pub round_trip :
      (ticks : Ticks) (tick : ℕ) (cycles : Cycles) →
      0 < tick →
      Every systick-ticks-to-cycles.Post (ticks, (tick, tt)) (λ there. there ≡ Ok cycles → Every systick-cycles-to-ticks.Post (cycles, (tick, tt)) (λ back. back ≡ Ok ticks))
