-- `put_records` puts a line a turn, and what is left would finish the text.
use Rattle.std.proofs.Common.{◌+◌, ◌-◌, ◌*◌, length}
use Rattle.lines.specs.Buffer.{line_room}
use Rattle.machine.specs.Step.{machine_of}
use Rattle.transcript.specs.Replay.{records_from}
use Rattle.transcript.proofs.Replaying.{Going, counted}
use Rattle.transcript.proofs.put_records.Given as goal

abbrev pub invariant-loop-k : goal.invariant-loop-k
invariant-loop-k l =
    Going (machine_of l.initial.core l.initial.threads) (counted l.initial.label) (records_from l.count l.trace 0) (length l.initial.threads) l.broken l.trace l.initial.out l.at (l.at + l.count * line_room) l.out (machine_of l.core l.threads) l.label (l.count - l.k) (16 * l.k) l.end
