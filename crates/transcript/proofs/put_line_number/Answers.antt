-- `put_line_number` puts the label where the longest line has room.
use Rattle.transcript.proofs.Texts.{label_stands}
use Rattle.transcript.proofs.put_line_number.Goals as goal

pub returns : goal.returns
returns c = label_stands c.args.label c.requires c.put_label.ensures.answer c.put_label.ensures.buffer c.unwrap_or.ensures
