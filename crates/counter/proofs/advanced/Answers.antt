-- `advanced` gives what stepping gives.
use Rattle.counter.proofs.Cycles.{no_wrap, past_wrap}
use Rattle.counter.proofs.advanced.Goals as goal

pub returns-then-n-counter : goal.returns-then-n-counter
returns-then-n-counter c = no_wrap c.args.n c.args.counter c.requires.0 c.if-n-counter.true

pub returns : goal.returns
returns c = past_wrap c.args.n c.args.counter c.requires.0 c.if-n-counter.false
