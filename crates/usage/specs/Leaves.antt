-- Inside: the thread record's leaves as their contracts cite them. `LeavesExact` (crates/demands/specs/Leaves.antt) writes each out.
use Rattle.std.specs.Prelude.{ℕ, ◌+◌, Bool, true, false, cond, not, ◌&&◌, List, [], ◌∷◌, ◌==◌, nat_lt, Result, Ok, Err}
use Rattle.error.specs.declared.Refusal.{Refusal}
use Rattle.error.specs.declared.Refusal.TheVariants.{Overflow}
use Rattle.error.specs.Numbers.{max32, max64}
use Rattle.error.specs.InOrder.{Row, in_order}
use Rattle.usage.specs.declared.ThreadUsage.{ThreadUsage}
use Rattle.usage.specs.declared.SysTrackDecision.{SysTrackDecision}
use Rattle.usage.specs.declared.SysTrackDecision.TheVariants.{NoOp, Apply}
use Rattle.usage.specs.declared.StartDecision.{StartDecision}
use Rattle.usage.specs.declared.StartDecision.TheVariants.{RecordStart, RecordOnly}
use Rattle.usage.specs.declared.StopDecision.{StopDecision}
use Rattle.usage.specs.declared.StopDecision.TheVariants.{Accumulate, Skip}
use Rattle.usage.specs.Record.{with_flag, with_total, with_windows}

-- Enable: windows + 1 if untracked; already tracked: unchanged.
abbrev pub enabled_record : ThreadUsage → ThreadUsage
enabled_record u = cond u.track_usage u (with_windows (u.num_windows + 1) (with_flag true u))

-- At 4294967295 untracked: -139.
abbrev pub enable_tests : ThreadUsage → List (Row Refusal)
enable_tests u = (not u.track_usage && (u.num_windows == max32), Overflow) ∷ []

unfoldable pub enabled : ThreadUsage → Result ThreadUsage Refusal
enabled u = in_order (enable_tests u) Err (Ok (enabled_record u))

-- Disable: the flag cleared, never refused.
abbrev pub disabled : ThreadUsage → Result ThreadUsage Refusal
disabled u = Ok (with_flag false u)

-- Accumulate: -139 exactly when the sum passes 2^64 - 1. Flag and windows never change.
abbrev pub sum_tests : ThreadUsage → ℕ → List (Row Refusal)
sum_tests u cycles = (nat_lt max64 (u.total_cycles.0 + cycles), Overflow) ∷ []

unfoldable pub accumulated : ThreadUsage → ℕ → Result ThreadUsage Refusal
accumulated u cycles =
    in_order (sum_tests u cycles) Err
    (Ok (with_total (record { 0 = u.total_cycles.0 + cycles }) u))

-- The four decide functions, as their upstream clauses say.
abbrev pub sys_enable_decide : Bool → SysTrackDecision
sys_enable_decide true = NoOp
sys_enable_decide false = Apply

abbrev pub sys_disable_decide : Bool → SysTrackDecision
sys_disable_decide true = Apply
sys_disable_decide false = NoOp

abbrev pub start_decide : Bool → StartDecision
start_decide true = RecordStart
start_decide false = RecordOnly

abbrev pub stop_decide : ℕ → StopDecision
stop_decide usage0 = cond (usage0 == 0) Skip Accumulate
