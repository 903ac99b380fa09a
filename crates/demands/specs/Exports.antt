-- Believed: the exports on plain numbers. Each gives what is read off the leaf's answer; flags are 0 and 1.
use Rattle.std.specs.Prelude.{ℕ, ◌≡◌, Bool, Result, Ok, Err}
use Rattle.error.specs.Numbers.{ok}
use Rattle.units.specs.declared.Cycles.{Cycles}
use Rattle.units.specs.declared.Ticks.{Ticks}
use Rattle.usage.specs.declared.ThreadUsage.{ThreadUsage}
use Rattle.tickclock.specs.Plain.{is_set, flag_of, usage_of}
use Rattle.systick.proofs.elapsed_cycles.Reads as leaf-elapsed-cycles
use Rattle.systick.proofs.cycles_to_ticks.Reads as leaf-cycles-to-ticks
use Rattle.systick.proofs.ticks_to_cycles.Reads as leaf-ticks-to-cycles
use Rattle.systick.proofs.max_ticks.Reads as leaf-max-ticks
use Rattle.systick.proofs.elapsed_decide.Reads as leaf-elapsed-decide
use Rattle.systick.proofs.announce_decide.Reads as leaf-announce-decide
use Rattle.usage.proofs.enabled.Reads as leaf-enabled
use Rattle.usage.proofs.disabled.Reads as leaf-disabled
use Rattle.usage.proofs.accumulated.Reads as leaf-accumulated
use Rattle.usage.proofs.average_cycles.Reads as leaf-average-cycles
use Rattle.usage.proofs.is_tracked.Reads as leaf-is-tracked
use Rattle.usage.proofs.sys_enable_decide.Reads as leaf-sys-enable-decide
use Rattle.usage.proofs.sys_disable_decide.Reads as leaf-sys-disable-decide
use Rattle.usage.proofs.start_decide.Reads as leaf-start-decide
use Rattle.usage.proofs.stop_decide.Reads as leaf-stop-decide
use Rattle.usage.proofs.elapsed_cycles.Reads as leaf-stamps-apart
use Rattle.usage.proofs.ThreadUsage.new_idle.Reads as leaf-new-idle
use Rattle.counter.proofs.value_of.Reads as leaf-value-of
use Rattle.usage.proofs.SysTrackDecision.is_apply.Reads as SysTrackDecision-is-apply
use Rattle.usage.proofs.StartDecision.is_record_start.Reads as StartDecision-is-record-start
use Rattle.usage.proofs.StopDecision.is_accumulate.Reads as StopDecision-is-accumulate
use Rattle.tickclock.proofs.thread.usage_enable_number.Reads as usage-enable-number
use Rattle.tickclock.proofs.thread.usage_enable_track_usage.Reads as usage-enable-track-usage
use Rattle.tickclock.proofs.thread.usage_enable_total_cycles.Reads as usage-enable-total-cycles
use Rattle.tickclock.proofs.thread.usage_enable_num_windows.Reads as usage-enable-num-windows
use Rattle.tickclock.proofs.thread.usage_disable_number.Reads as usage-disable-number
use Rattle.tickclock.proofs.thread.usage_disable_track_usage.Reads as usage-disable-track-usage
use Rattle.tickclock.proofs.thread.usage_disable_total_cycles.Reads as usage-disable-total-cycles
use Rattle.tickclock.proofs.thread.usage_disable_num_windows.Reads as usage-disable-num-windows
use Rattle.tickclock.proofs.thread.usage_accumulate_number.Reads as usage-accumulate-number
use Rattle.tickclock.proofs.thread.usage_accumulate_track_usage.Reads as usage-accumulate-track-usage
use Rattle.tickclock.proofs.thread.usage_accumulate_total_cycles.Reads as usage-accumulate-total-cycles
use Rattle.tickclock.proofs.thread.usage_accumulate_num_windows.Reads as usage-accumulate-num-windows
use Rattle.tickclock.proofs.thread.usage_average_cycles_number.Reads as usage-average-cycles-number
use Rattle.tickclock.proofs.thread.usage_average_cycles_cycles.Reads as usage-average-cycles-cycles
use Rattle.tickclock.proofs.thread.usage_elapsed_cycles_number.Reads as usage-elapsed-cycles-number
use Rattle.tickclock.proofs.thread.usage_elapsed_cycles_cycles.Reads as usage-elapsed-cycles-cycles
use Rattle.tickclock.proofs.thread.usage_is_tracked_number.Reads as usage-is-tracked-number
use Rattle.tickclock.proofs.thread.usage_is_tracked_tracked.Reads as usage-is-tracked-tracked
use Rattle.tickclock.proofs.thread.usage_new_idle_number.Reads as usage-new-idle-number
use Rattle.tickclock.proofs.thread.usage_new_idle_track_usage.Reads as usage-new-idle-track-usage
use Rattle.tickclock.proofs.thread.usage_new_idle_total_cycles.Reads as usage-new-idle-total-cycles
use Rattle.tickclock.proofs.thread.usage_new_idle_num_windows.Reads as usage-new-idle-num-windows
use Rattle.tickclock.proofs.thread.usage_sys_enable_decide_number.Reads as usage-sys-enable-decide-number
use Rattle.tickclock.proofs.thread.usage_sys_enable_decide_apply.Reads as usage-sys-enable-decide-apply
use Rattle.tickclock.proofs.thread.usage_sys_disable_decide_number.Reads as usage-sys-disable-decide-number
use Rattle.tickclock.proofs.thread.usage_sys_disable_decide_apply.Reads as usage-sys-disable-decide-apply
use Rattle.tickclock.proofs.thread.usage_start_decide_number.Reads as usage-start-decide-number
use Rattle.tickclock.proofs.thread.usage_start_decide_record_start.Reads as usage-start-decide-record-start
use Rattle.tickclock.proofs.thread.usage_stop_decide_number.Reads as usage-stop-decide-number
use Rattle.tickclock.proofs.thread.usage_stop_decide_accumulate.Reads as usage-stop-decide-accumulate
use Rattle.tickclock.proofs.timer.systick_elapsed_cycles_number.Reads as systick-elapsed-cycles-number
use Rattle.tickclock.proofs.timer.systick_elapsed_cycles_cycles.Reads as systick-elapsed-cycles-cycles
use Rattle.tickclock.proofs.timer.systick_cycles_to_ticks_number.Reads as systick-cycles-to-ticks-number
use Rattle.tickclock.proofs.timer.systick_cycles_to_ticks_ticks.Reads as systick-cycles-to-ticks-ticks
use Rattle.tickclock.proofs.timer.systick_ticks_to_cycles_number.Reads as systick-ticks-to-cycles-number
use Rattle.tickclock.proofs.timer.systick_ticks_to_cycles_cycles.Reads as systick-ticks-to-cycles-cycles
use Rattle.tickclock.proofs.timer.systick_max_ticks_number.Reads as systick-max-ticks-number
use Rattle.tickclock.proofs.timer.systick_max_ticks_ticks.Reads as systick-max-ticks-ticks
use Rattle.tickclock.proofs.timer.systick_elapsed_decide_number.Reads as systick-elapsed-decide-number
use Rattle.tickclock.proofs.timer.systick_elapsed_decide_wrap_detected.Reads as systick-elapsed-decide-wrap-detected
use Rattle.tickclock.proofs.timer.systick_elapsed_decide_new_overflow_cyc.Reads as systick-elapsed-decide-new-overflow-cyc
use Rattle.tickclock.proofs.timer.systick_elapsed_decide_elapsed.Reads as systick-elapsed-decide-elapsed
use Rattle.tickclock.proofs.timer.systick_announce_decide_number.Reads as systick-announce-decide-number
use Rattle.tickclock.proofs.timer.systick_announce_decide_dticks.Reads as systick-announce-decide-dticks
use Rattle.tickclock.proofs.timer.systick_announce_decide_new_cycle_count.Reads as systick-announce-decide-new-cycle-count
use Rattle.tickclock.proofs.timer.systick_announce_decide_new_announced_cycles.Reads as systick-announce-decide-new-announced-cycles
use Rattle.tickclock.proofs.timer.counter_value_number.Reads as counter-value-number
use Rattle.tickclock.proofs.timer.counter_value_value.Reads as counter-value-value
use Rattle.error.specs.declared.Refusal.{Refusal}
use Rattle.error.specs.Said.{number_in}
use Rattle.demands.specs.Contract.{Allowed, Every, Gives, Gives1, Gives2, Gives3}

-- of the arguments made into the leaf's, whatever the leaf answers and a reader reads off it, made plain
pub record Exports {Plain Args Answer Read Out Lives Lives' Lives'' Exit Exit' Exit'' : Type 0} (made : Plain → Args) (Leaf : Lives → Args → Answer → Exit → Type 0) (Reader : Lives' → Answer × Unit {0} → Read → Exit' → Type 0) (plain : Read → Out) (Export : Lives'' → Plain → Out → Exit'' → Type 0) : Type 0 where
  pub gives : (given : Plain) (answer : Answer) (read : Read) → Allowed Leaf (made given) answer → Allowed Reader (answer, tt) read → Every Export given (λ r. r ≡ plain read)

-- the same of what a leaf answers, read and made plain at once
pub record ExportsValue {Plain Args Answer Out Lives Lives' Exit Exit' : Type 0} (made : Plain → Args) (Leaf : Lives → Args → Answer → Exit → Type 0) (plain : Answer → Out) (Export : Lives' → Plain → Out → Exit' → Type 0) : Type 0 where
  pub gives : (given : Plain) (answer : Answer) → Allowed Leaf (made given) answer → Every Export given (λ r. r ≡ plain answer)

-- a part of an answer's value as a plain number, and 0 where it is refused
abbrev pub part_or_zero : {Value : Type 0} → (Value → ℕ) → Result Value Refusal → ℕ
part_or_zero part (Ok v) = part v
part_or_zero part (Err why) = 0

-- plain numbers as the leaves' arguments
abbrev pub cycles_then : {More : Type 0} → ℕ × More → Cycles × More
cycles_then given = (record { 0 = given.0 }, given.1)

abbrev pub ticks_then : {More : Type 0} → ℕ × More → Ticks × More
ticks_then given = (record { 0 = given.0 }, given.1)

abbrev pub flag_then : {More : Type 0} → ℕ × More → Bool × More
flag_then given = (is_set given.0, given.1)

abbrev pub usage_then : {More : Type 0} → ℕ × (ℕ × (ℕ × More)) → ThreadUsage × More
usage_then given = (usage_of given.0 given.1.0 given.1.1.0, given.1.1.1)

abbrev pub decided_from : ℕ × (ℕ × (ℕ × (ℕ × (ℕ × Unit {0})))) → ℕ × (ℕ × (Bool × (ℕ × (ℕ × Unit {0}))))
decided_from given = (given.0, (given.1.0, flag_then given.1.1))

abbrev pub announced_from : ℕ × (ℕ × (ℕ × (ℕ × Unit {0}))) → Cycles × (Cycles × (ℕ × (ℕ × Unit {0})))
announced_from given = (record { 0 = given.0 }, cycles_then given.1)

pub record ExportsRead : Type 0 where
  pub elapsed_cycles_lem : ExportsValue (λ a. a) leaf-elapsed-cycles.Post number_in systick-elapsed-cycles-number.Post × ExportsValue (λ a. a) leaf-elapsed-cycles.Post (part_or_zero (λ c. c)) systick-elapsed-cycles-cycles.Post
  pub cycles_to_ticks_lem : ExportsValue cycles_then leaf-cycles-to-ticks.Post number_in systick-cycles-to-ticks-number.Post × ExportsValue cycles_then leaf-cycles-to-ticks.Post (part_or_zero (λ t. t.0)) systick-cycles-to-ticks-ticks.Post
  pub ticks_to_cycles_lem : ExportsValue ticks_then leaf-ticks-to-cycles.Post number_in systick-ticks-to-cycles-number.Post × ExportsValue ticks_then leaf-ticks-to-cycles.Post (part_or_zero (λ c. c.0)) systick-ticks-to-cycles-cycles.Post
  pub max_ticks_lem : ExportsValue (λ a. a) leaf-max-ticks.Post number_in systick-max-ticks-number.Post × ExportsValue (λ a. a) leaf-max-ticks.Post (part_or_zero (λ t. t.0)) systick-max-ticks-ticks.Post
  pub elapsed_decide_lem :
      ExportsValue decided_from leaf-elapsed-decide.Post number_in systick-elapsed-decide-number.Post ×
      ExportsValue decided_from leaf-elapsed-decide.Post (part_or_zero (λ v. flag_of v.wrap_detected)) systick-elapsed-decide-wrap-detected.Post ×
      ExportsValue decided_from leaf-elapsed-decide.Post (part_or_zero (λ v. v.new_overflow_cyc)) systick-elapsed-decide-new-overflow-cyc.Post ×
      ExportsValue decided_from leaf-elapsed-decide.Post (part_or_zero (λ v. v.elapsed)) systick-elapsed-decide-elapsed.Post
  pub announce_decide_lem :
      ExportsValue announced_from leaf-announce-decide.Post number_in systick-announce-decide-number.Post ×
      ExportsValue announced_from leaf-announce-decide.Post (part_or_zero (λ v. v.dticks.0)) systick-announce-decide-dticks.Post ×
      ExportsValue announced_from leaf-announce-decide.Post (part_or_zero (λ v. v.new_cycle_count.0)) systick-announce-decide-new-cycle-count.Post ×
      ExportsValue announced_from leaf-announce-decide.Post (part_or_zero (λ v. v.new_announced_cycles.0)) systick-announce-decide-new-announced-cycles.Post
  pub value : ExportsValue (λ a. a) leaf-value-of.Post number_in counter-value-number.Post × ExportsValue (λ a. a) leaf-value-of.Post (part_or_zero (λ v. v)) counter-value-value.Post
  pub enable :
      ExportsValue usage_then leaf-enabled.Post number_in usage-enable-number.Post ×
      ExportsValue usage_then leaf-enabled.Post (part_or_zero (λ u. flag_of u.track_usage)) usage-enable-track-usage.Post ×
      ExportsValue usage_then leaf-enabled.Post (part_or_zero (λ u. u.total_cycles.0)) usage-enable-total-cycles.Post ×
      ExportsValue usage_then leaf-enabled.Post (part_or_zero (λ u. u.num_windows)) usage-enable-num-windows.Post
  pub disable :
      ExportsValue usage_then leaf-disabled.Post number_in usage-disable-number.Post ×
      ExportsValue usage_then leaf-disabled.Post (part_or_zero (λ u. flag_of u.track_usage)) usage-disable-track-usage.Post ×
      ExportsValue usage_then leaf-disabled.Post (part_or_zero (λ u. u.total_cycles.0)) usage-disable-total-cycles.Post ×
      ExportsValue usage_then leaf-disabled.Post (part_or_zero (λ u. u.num_windows)) usage-disable-num-windows.Post
  pub accumulate :
      ExportsValue usage_then leaf-accumulated.Post number_in usage-accumulate-number.Post ×
      ExportsValue usage_then leaf-accumulated.Post (part_or_zero (λ u. flag_of u.track_usage)) usage-accumulate-track-usage.Post ×
      ExportsValue usage_then leaf-accumulated.Post (part_or_zero (λ u. u.total_cycles.0)) usage-accumulate-total-cycles.Post ×
      ExportsValue usage_then leaf-accumulated.Post (part_or_zero (λ u. u.num_windows)) usage-accumulate-num-windows.Post
  pub sys_enable_decide_lem : Exports flag_then leaf-sys-enable-decide.Post SysTrackDecision-is-apply.Post flag_of usage-sys-enable-decide-apply.Post
  pub sys_disable_decide_lem : Exports flag_then leaf-sys-disable-decide.Post SysTrackDecision-is-apply.Post flag_of usage-sys-disable-decide-apply.Post
  pub start_decide_lem : Exports flag_then leaf-start-decide.Post StartDecision-is-record-start.Post flag_of usage-start-decide-record-start.Post
  pub stop_decide_lem : Exports (λ a. a) leaf-stop-decide.Post StopDecision-is-accumulate.Post flag_of usage-stop-decide-accumulate.Post
  pub average_cycles_lem : ExportsValue cycles_then leaf-average-cycles.Post (λ c. c.0) usage-average-cycles-cycles.Post
  pub stamps_apart : ExportsValue (λ a. a) leaf-stamps-apart.Post (λ c. c) usage-elapsed-cycles-cycles.Post
  pub is_tracked_lem : ExportsValue usage_then leaf-is-tracked.Post flag_of usage-is-tracked-tracked.Post
  pub new_idle_lem :
      ExportsValue (λ a. a) leaf-new-idle.Post (λ u. flag_of u.track_usage) usage-new-idle-track-usage.Post ×
      ExportsValue (λ a. a) leaf-new-idle.Post (λ u. u.total_cycles.0) usage-new-idle-total-cycles.Post ×
      ExportsValue (λ a. a) leaf-new-idle.Post (λ u. u.num_windows) usage-new-idle-num-windows.Post
  -- what is never refused has the number 0
  pub never_refused :
      Gives2 usage-average-cycles-number.Post (λ total windows. ok) ×
      Gives2 usage-elapsed-cycles-number.Post (λ now usage0. ok) ×
      Gives3 usage-is-tracked-number.Post (λ flag total windows. ok) ×
      Gives usage-new-idle-number.Post ok ×
      Gives1 usage-sys-enable-decide-number.Post (λ tracking. ok) ×
      Gives1 usage-sys-disable-decide-number.Post (λ tracking. ok) ×
      Gives1 usage-start-decide-number.Post (λ tracked. ok) ×
      Gives1 usage-stop-decide-number.Post (λ usage0. ok)
