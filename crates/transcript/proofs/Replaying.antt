-- A line a turn: the lines of what is left, written where the last one ended, finish the text.
use Rattle.std.specs.Prelude.{Result}
use Prim.Native.Nat.{◌-◌, ℕ, suc, ◌+◌, ◌*◌, ◌≤◌, ◌<◌}
use mathlib.Core.Path.{◌≡◌, refl, sym, ap, ◌∙◌}
use mathlib.Core.Bool.{Bool, true, false}
use mathlib.Core.List.{List, ◌++◌}
use mathlib.Core.Logic.{inl}
use native.Mathlib.Omega.{arith}
use native.Mathlib.Numerals.{add-one}
use lib.ListN.{length, length-append}
use lib.Seq.{sets, length-sets}
use Rattle.error.specs.Numbers.{max64}
use Rattle.error.proofs.Tests.{clash}
use Rattle.trace.specs.Decode.{Decoded}
use Rattle.trace.specs.Decode.{decode_of}
use Rattle.table.specs.declared.Reason.{Reason}
use Rattle.table.specs.declared.Reason.TheVariants as Why
use Rattle.table.specs.Says.{Outcome}
use Rattle.table.specs.Table.{malformed}
use Rattle.table.specs.declared.changes.Change.{Change}
use Rattle.table.specs.Change.{change_of}
use Rattle.machine.specs.declared.Machine.{Machine}
use Rattle.machine.specs.declared.Stepped.{Stepped}
use Rattle.machine.specs.Step.{core_of, slots_of, step_of}
use Rattle.machine.specs.Making.{made_of}
use Rattle.machine.proofs.Tying.{step_made}
use Rattle.machine.proofs.Stepping.{every_refusal}
use Rattle.machine.proofs.Whole.{stays_whole}
use Rattle.lines.specs.declared.label.Label.{Label}
use Rattle.lines.specs.Buffer.{line_room, rest_room}
use Rattle.lines.specs.Naming.{next_label, label_text, underneath, Named}
use Rattle.lines.specs.Writing.{Put}
use Rattle.transcript.specs.Replay.{records_from, machine_after, lines_from, outcome_text}
use Rattle.transcript.specs.Room.{Labelled, Replays, rest_of}
use Rattle.lines.proofs.Named.{next_named}
use Rattle.lines.proofs.Stores.{in_parts}
use Rattle.transcript.proofs.Texts.{whole_line, label_room}

-- the number that a label counts
abbrev pub counted : Label → ℕ
counted l = 100 * l.head + l.pair

pub counts : {l : Label} {n : ℕ} → Named l n → counted l ≡ n
counts named = let h = named.head in let p = named.pair in omega arith

-- the state of the loop: what is left to do from here gives what is to be done in all
pub record Going (m₀ : Machine) (n₀ : ℕ) (ds₀ : List Decoded) (slots : ℕ) (broken : Bool) (trace out₀ : List ℕ) (at limit : ℕ) (out : List ℕ) (m : Machine) (label : Label) (left from end : ℕ) : Type 0 where
  pub machine : machine_after m (records_from left trace from) ≡ machine_after m₀ ds₀
  pub place : end + length (lines_from m (counted label) (records_from left trace from)) ≡ at + length (lines_from m₀ n₀ ds₀)
  pub bytes : sets out end (lines_from m (counted label) (records_from left trace from)) ≡ sets out₀ at (lines_from m₀ n₀ ds₀)
  pub kept : length out ≡ length out₀
  pub table : length m.ledger.threads ≡ slots
  pub form : malformed (core_of m) slots ≡ broken
  pub named : Named label (counted label)
  pub numbers : counted label + left ≤ max64
  pub records : from + left * 16 ≤ max64
  pub room : end + left * line_room ≤ limit
  pub enough : limit ≤ length out

-- a state that is malformed stays so, and one that is not does not become so
stays : (m : Machine) (d : Decoded) (b : Bool) → malformed (core_of m) (length m.ledger.threads) ≡ b → malformed (core_of (step_of m d).machine) (length (step_of m d).machine.ledger.threads) ≡ b
stays m d false e = stays_whole m d e
stays m d true e =
    let refused = ((every_refusal m d).0.refused Why.Malformed).1 (inl (e, refl)) in
    let unchanged = (every_refusal m d).1.untouched Why.Malformed refused (λ q. clash (cc)) in
    rw unchanged e

module _ {m₀ : Machine} {n₀ : ℕ} {ds₀ : List Decoded} {slots : ℕ} {broken : Bool} {trace out₀ : List ℕ} {at limit : ℕ} {out : List ℕ} {m : Machine} {label : Label} {left from end : ℕ} (before : Going m₀ n₀ ds₀ slots broken trace out₀ at limit out m label left from end) (some : 0 < left) where
  abbrev rest : ℕ
  rest = left - 1

  abbrev number : ℕ
  number = counted label

  going : Going m₀ n₀ ds₀ slots broken trace out₀ at limit out m label (suc rest) from end
  going = let e : suc rest ≡ left = omega arith in rw e before

  module _ {second : ℕ} {between : List ℕ} (labelled : Labelled out between end second label) where
    -- what follows the number has its room
    pub rest_fits : second + rest_room ≤ length between
    rest_fits =
        let same : length between ≡ length out = ap length labelled.put.bytes ∙ (length-sets (sets out end (underneath label)) end (label_text label) ∙ length-sets out end (underneath label)) in
        let next = labelled.put.next in
        omega (arith, label_room label number going.named (omega (arith, going.numbers)), going.room, going.enough)

    module _ {o : Outcome} {m' : Machine} (stepped : step_of m (decode_of trace from) ≡ record { outcome = o; machine = m' }) {end' : ℕ} {out' : List ℕ} (follows : Put between out' second end' (rest_of o)) (within : end' ≤ second + rest_room) {label' : Label} (onward : label' ≡ next_label label) where
      line : Put out out' end end' (outcome_text number o)
      line = whole_line label number o going.named (omega (arith, going.numbers)) labelled follows

      line_within : end' ≤ end + line_room
      line_within = let next = labelled.put.next in omega (arith, within, label_room label number going.named (omega (arith, going.numbers)))

      -- of what was left, this line and the lines after it
      this_line : lines_from m number (records_from (suc rest) trace from) ≡ outcome_text number o ++ lines_from m' (suc number) (records_from rest trace (from + 16))
      unfolding lines_from records_from
      this_line = rw stepped refl

      same_length : length out' ≡ length out
      same_length = ap length line.bytes ∙ length-sets out end (outcome_text number o)

      next_named' : Named label' (number + 1)
      next_named' = rw onward (next_named label number going.named (omega (arith, going.numbers)))

      pub goes_on : length m'.ledger.threads ≡ slots → Going m₀ n₀ ds₀ slots broken trace out₀ at limit out' m' label' rest (from + 16) end'
      unfolding machine_after records_from
      goes_on table =
          let one_more : counted label' ≡ suc number = counts next_named' ∙ add-one number in
          record {
            machine = sym (ap (λ t. machine_after t.machine (records_from rest trace (from + 16))) stepped) ∙ going.machine;
            place = rw one_more (let h = going.place in let both = length-append (outcome_text number o) (lines_from m' (suc number) (records_from rest trace (from + 16))) in let same = ap length this_line in let next = line.next in omega arith);
            bytes = rw (one_more, line.next, line.bytes) (sym (in_parts out end (outcome_text number o) (lines_from m' (suc number) (records_from rest trace (from + 16)))) ∙ (sym (ap (sets out end) this_line) ∙ going.bytes));
            kept = same_length ∙ going.kept;
            table = table;
            form = rw (← table) (ap (λ (t : Stepped). malformed (core_of t.machine) (length t.machine.ledger.threads)) (sym stepped) ∙ stays m (decode_of trace from) broken (rw going.table going.form));
            named = rw (counts next_named') next_named';
            numbers = let h = going.numbers in omega arith;
            records = let h = going.records in omega arith;
            room = let h = going.room in omega (arith, line_within);
            enough = rw same_length going.enough;
          }

-- the machine's step, as the loop makes it: what the record changes, worked out, and then the change made
pub stepped_here : (m : Machine) (d : Decoded) {after : Machine} {change : Result Change Reason} {o : Outcome} {slots : ℕ} {broken : Bool} → slots_of m ≡ slots → malformed (core_of m) slots ≡ broken → change ≡ change_of broken (core_of m) slots d → record { outcome = o; machine = after } ≡ made_of m change → step_of m d ≡ record { outcome = o; machine = after }
stepped_here m d n form worked made = step_made (record { slots = _; broken = _; table = n; form = form; made = worked }) ∙ sym made

-- where nothing is left, everything is done
pub ended : {m : Machine} {n₀ first count at : ℕ} {slots : ℕ} {broken : Bool} {trace out₀ out : List ℕ} {after : Machine} {label : Label} {left from end : ℕ} → n₀ ≡ first → Going m n₀ (records_from count trace 0) slots broken trace out₀ at (at + count * line_room) out after label left from end → left ≤ 0 → Replays m first count trace out₀ out at (record { end = end; machine = after })
unfolding machine_after lines_from records_from
ended {left = left} f going h = let z : left ≡ 0 = omega arith in let done = rw (f, z) at going in record { machine = done.machine; end = let p = done.place in omega arith; bytes = done.bytes; within = let p = done.room in omega arith }
