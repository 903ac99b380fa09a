-- `read_part` stays within the array and ends: each turn brings a byte or is the last.
use Rattle.std.proofs.Common.{length, ◌-◌, ◌≤◌, ◌≡◌}
use Rattle.replay_long.proofs.input.read_part.Given as goal

abbrev pub invariant-loop-done : goal.invariant-loop-done
invariant-loop-done g l = (length l.part ≡ length l.initial.part) × (l.done ≤ length l.part)

abbrev pub decreases-loop-done : goal.decreases-loop-done
decreases-loop-done g l = length l.initial.part - l.done
