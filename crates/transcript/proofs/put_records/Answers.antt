-- `put_records`: each turn makes the record's step and its line, and what is left goes on from there.
use Rattle.std.proofs.Common.{◌≡◌, ◌+◌, ◌-◌, ◌*◌, ◌∙◌, length, refl, sym, ap, arith, rules}
use Rattle.lines.proofs.Named.{of_named}
use Rattle.lines.specs.Naming.{Named}
use Rattle.usage.specs.declared.TheConstants.ThreadUsage.{SLOTS}
use Rattle.table.specs.Table.{malformed}
use Rattle.machine.specs.declared.Stepped.{Stepped}
use Rattle.machine.specs.Step.{machine_of, slots_of}
use Rattle.machine.proofs.AsMany.{as_many}
use Rattle.transcript.proofs.Replaying.{counts, rest_fits, stepped_here, goes_on, ended}
use Rattle.transcript.proofs.put_records.Goals as goal

pub loop-k-init : goal.loop-k-init
loop-k-init c =
    let n : length c.args.machine.ledger.threads ≡ SLOTS = search rules in
    let named : Named c.of-label.result c.args.first = rw c.of-label.ensures (of_named c.args.first) in
    let first = counts named in
    let all : c.args.count - 0 ≡ c.args.count = omega arith in
    rw all (record {
      machine = refl;
      place = refl;
      bytes = refl;
      kept = refl;
      table = refl;
      form = ap (malformed c.core-core.result) n ∙ sym c.malformed-broken.ensures;
      named = rw first named;
      numbers = omega arith;
      records = omega arith;
      room = omega arith;
      enough = omega arith;
    })

pub put_outcome-end-requires : goal.put_outcome-end-requires
put_outcome-end-requires c = rest_fits c.loop-k.invariant (omega arith) c.put_line_number-second.ensures

pub loop-k-preserved : goal.loop-k-preserved
loop-k-preserved c =
    let n : length c.args.machine.ledger.threads ≡ SLOTS = search rules in
    let here : length c.loop-k.threads ≡ SLOTS = search rules in
    let before = c.loop-k.invariant in
    let now = machine_of c.loop-k.core c.loop-k.threads in
    let stepped = stepped_here now _ here (sym (ap (malformed _) n) ∙ before.form) (rw c.core_afresh.ensures at c.change_at-change.ensures) c.make-outcome.ensures in
    let table = ap (λ (t : Stepped). slots_of t.machine) c.make-outcome.ensures ∙ as_many now _ ∙ before.table in
    let on = goes_on before (omega arith) c.put_line_number-second.ensures stepped c.put_outcome-end.ensures.text c.put_outcome-end.ensures.room c.next-label.ensures table in
    let fewer : c.args.count - (c.loop-k.k + 1) ≡ c.args.count - c.loop-k.k - 1 = omega arith in
    let further : 16 * (c.loop-k.k + 1) ≡ 16 * c.loop-k.k + 16 = omega arith in
    rw (fewer, further) on

pub returns : goal.returns
returns c =
    let named : Named c.of-label.result c.args.first = rw c.of-label.ensures (of_named c.args.first) in
    let whole : machine_of c.core-core.result c.args.machine.ledger.threads ≡ c.args.machine = rw c.core-core.ensures refl in
    rw (c.of.ensures, c.core_afresh-2.ensures) (ended (counts named) (rw whole at c.loop-k.invariant) (omega arith))
