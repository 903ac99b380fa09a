-- `put_whole` puts the records' lines, and then the last ones.
use Rattle.transcript.proofs.Texts.{joined}
use Rattle.transcript.proofs.put_whole.Goals as goal

pub returns-clause-text : goal.returns-clause-text
returns-clause-text c =
    let last = rw (c.if_ready-cycles.ensures, c.if_ready-reading.ensures) at c.put_last.ensures.text in
    rw c.fresh.ensures at (joined c.put_records-end.ensures last)
