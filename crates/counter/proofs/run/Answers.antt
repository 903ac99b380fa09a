-- `run` jumps where its two tests let it.
use Rattle.std.proofs.Common.{◌∙◌, sym}
use borrow.Author.Tests.{ltb-false}
use Rattle.counter.proofs.Outcomes as outcome
use Rattle.counter.proofs.run.Goals as goal

pub advanced-requires : goal.advanced-requires
advanced-requires c = (outcome.valid_of _ (sym c.in_range.ensures ∙ c.if-in_range.true), ltb-false _ _ (sym c.cycles_above.ensures ∙ c.if-cycles_above.false))
