-- `read_trace` stays within the array and ends: each turn brings a byte or is the last.
use Rattle.std.proofs.Common.{length, ◌-◌, ◌≤◌, ◌≡◌}
use Rattle.replay.proofs.input.read_trace.Given as goal

abbrev pub invariant-loop-done : goal.invariant-loop-done
invariant-loop-done g l = (length l.trace ≡ length l.initial.trace) × (l.done ≤ length l.trace)

abbrev pub decreases-loop-done : goal.decreases-loop-done
decreases-loop-done g l = length l.initial.trace - l.done
