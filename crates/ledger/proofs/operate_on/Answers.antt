-- `operate_on` answers by its definition: three tests, then the entry over the record concerned, stored where it is accepted.
use Rattle.std.proofs.Common.{◌≡◌, ◌∙◌, sym, rules, length}
use Rattle.usage.specs.declared.TheConstants.ThreadUsage.{SLOTS}
use Rattle.ledger.specs.Operate.{ledger_of, stored_in}
use Rattle.ledger.proofs.Operating.{storing}
use Rattle.ledger.proofs.operate_on.Goals as goal

pub returns-in_err-entry : goal.returns-in_err-entry
unfolding stored_in
returns-in_err-entry c =
    let size : length c.args.threads.now ≡ SLOTS = search rules in
    let stored = storing (ledger_of c.args.books.now c.args.threads.now) c.args.reading c.args.operation size (sym c.unrecorded.ensures ∙ c.if-unrecorded.false) (sym c.past.ensures ∙ c.if-past.false) (sym c.busy.ensures ∙ c.if-busy.false) c.concerned-k.ensures c.enter.ensures in
    search rules

pub returns : goal.returns
unfolding stored_in
returns c =
    let size : length c.args.threads.now ≡ SLOTS = search rules in
    let stored = storing (ledger_of c.args.books.now c.args.threads.now) c.args.reading c.args.operation size (sym c.unrecorded.ensures ∙ c.if-unrecorded.false) (sym c.past.ensures ∙ c.if-past.false) (sym c.busy.ensures ∙ c.if-busy.false) c.concerned-k.ensures c.enter.ensures in
    search rules
