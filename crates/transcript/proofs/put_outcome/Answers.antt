-- `put_outcome` puts what follows the number in a step's line.
use Rattle.std.proofs.Common.{◌∙◌, ap}
use Rattle.error.proofs.Answers.{handed}
use Rattle.error.specs.Numbers.{number_of}
use Rattle.lines.proofs.Sizes.{code_fits}
use Rattle.transcript.proofs.Texts.{refused_stands}
use Rattle.transcript.proofs.put_outcome.Goals as goal

pub returns-in-Err-clause-text : goal.returns-in-Err-clause-text
returns-in-Err-clause-text c = (refused_stands c.in-Err.is (handed c.number.type_inv (c.number.ensures ∙ ap number_of c.refusal.ensures)) (code_fits c.number.result c.number.type_inv) c.requires c.put_refusal.ensures.answer c.put_refusal.ensures.buffer c.unwrap_or.ensures).0

pub returns-in-Err-clause-room : goal.returns-in-Err-clause-room
returns-in-Err-clause-room c = (refused_stands c.in-Err.is (handed c.number.type_inv (c.number.ensures ∙ ap number_of c.refusal.ensures)) (code_fits c.number.result c.number.type_inv) c.requires c.put_refusal.ensures.answer c.put_refusal.ensures.buffer c.unwrap_or.ensures).1
