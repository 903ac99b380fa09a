-- `put_told` puts the values of a record that was accepted; where there are none to tell, they are written as constants.
use Rattle.std.proofs.Common.{arith}
use mathlib.Core.Path.{refl, sym}
use Rattle.transcript.proofs.Texts.{told_stands}
use Rattle.transcript.proofs.put_told.Goals as goal

pub returns-then-told-eq0-2-clause-text : goal.returns-then-told-eq0-2-clause-text
returns-then-told-eq0-2-clause-text c = (told_stands {told = c.args.told} (sym c.if-told-eq0.true) (sym c.if-told-eq0-2.true) (omega arith) (omega arith) c.requires c.put_values.ensures.answer c.put_values.ensures.buffer c.unwrap_or.ensures).0

pub returns-then-told-eq0-2-clause-room : goal.returns-then-told-eq0-2-clause-room
returns-then-told-eq0-2-clause-room c = (told_stands {told = c.args.told} (sym c.if-told-eq0.true) (sym c.if-told-eq0-2.true) (omega arith) (omega arith) c.requires c.put_values.ensures.answer c.put_values.ensures.buffer c.unwrap_or.ensures).1

pub returns-clause-text : goal.returns-clause-text
returns-clause-text c = (told_stands {told = c.args.told} refl refl (omega arith) (omega arith) c.requires c.put_values-2.ensures.answer c.put_values-2.ensures.buffer c.unwrap_or-2.ensures).0

pub returns-clause-room : goal.returns-clause-room
returns-clause-room c = (told_stands {told = c.args.told} refl refl (omega arith) (omega arith) c.requires c.put_values-2.ensures.answer c.put_values-2.ensures.buffer c.unwrap_or-2.ensures).1
