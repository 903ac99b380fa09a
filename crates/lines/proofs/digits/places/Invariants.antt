-- `places` divides by 10000 a turn: the digits left and those counted are all.
use Rattle.std.proofs.Common.{◌+◌, ◌≡◌, length}
use Rattle.lines.specs.Text.{decimal}
use Rattle.lines.proofs.digits.places.Given as goal

abbrev pub invariant-loop-left : goal.invariant-loop-left
invariant-loop-left l = length (decimal l.number) ≡ length (decimal l.left) + l.count

abbrev pub decreases-loop-left : goal.decreases-loop-left
decreases-loop-left l = l.left
