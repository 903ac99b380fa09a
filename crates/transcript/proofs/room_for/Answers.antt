-- `room_for` is the room for the longest text.
use borrow.Author.Tests.{lt-ltb, le-ltb}
use Rattle.lines.proofs.Sizes.{tail_size, input_size}
use Rattle.transcript.specs.Buffer.{room_for}
use Rattle.transcript.proofs.room_for.Goals as goal

pub returns-then-bytes-gt-MOST_BYTES : goal.returns-then-bytes-gt-MOST_BYTES
unfolding room_for
returns-then-bytes-gt-MOST_BYTES c = simp (lt-ltb _ _ c.if-bytes-gt-MOST_BYTES.true, input_size)

pub returns : goal.returns
unfolding room_for
returns c = simp (le-ltb _ _ c.if-bytes-gt-MOST_BYTES.false, tail_size)
