-- `readings` jumps three times where its two tests let it: what is left of the whole run fits at each.
use Rattle.std.proofs.Common.{◌+◌, ◌≤◌, ◌∙◌, sym, arith}
use borrow.Author.Tests.{ltb-false}
use Rattle.error.specs.Numbers.{max64}
use Rattle.counter.proofs.Cycles.{ran_from, cleared_from}
use Rattle.counter.proofs.Outcomes as outcome
use Rattle.counter.proofs.readings.Goals as goal

pub advanced-b-requires : goal.advanced-b-requires
advanced-b-requires c =
    let all : c.args.counter.cycles.0 + (c.args.gaps.p + c.args.gaps.q + c.args.gaps.r) ≤ max64 = ltb-false _ _ (sym (outcome.tested_sum c.args.counter c.cycles_above.ensures c.whole.ensures) ∙ c.if-cycles_above.false) in
    (outcome.valid_of _ (sym c.in_range.ensures ∙ c.if-in_range.true), omega arith)

pub advanced-c-requires : goal.advanced-c-requires
advanced-c-requires c =
    let a = outcome.valid_of _ (sym c.in_range.ensures ∙ c.if-in_range.true) in
    let b = ran_from _ a c.advanced-b.ensures in
    let read = cleared_from b.0 c.cleared-read.ensures in
    let all : c.args.counter.cycles.0 + (c.args.gaps.p + c.args.gaps.q + c.args.gaps.r) ≤ max64 = ltb-false _ _ (sym (outcome.tested_sum c.args.counter c.cycles_above.ensures c.whole.ensures) ∙ c.if-cycles_above.false) in
    (read.0, omega arith)

pub advanced-requires : goal.advanced-requires
advanced-requires c =
    let a = outcome.valid_of _ (sym c.in_range.ensures ∙ c.if-in_range.true) in
    let b = ran_from _ a c.advanced-b.ensures in
    let read = cleared_from b.0 c.cleared-read.ensures in
    let all : c.args.counter.cycles.0 + (c.args.gaps.p + c.args.gaps.q + c.args.gaps.r) ≤ max64 = ltb-false _ _ (sym (outcome.tested_sum c.args.counter c.cycles_above.ensures c.whole.ensures) ∙ c.if-cycles_above.false) in
    let at_c = ran_from _ read.0 c.advanced-c.ensures in
    (at_c.0, omega arith)
