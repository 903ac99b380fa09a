-- The contracts of what is lent as a record ensure what Lent has, and that is one outcome.
use Rattle.std.specs.Prelude.{Result, Ok, Err}
use Prim.Native.Nat.{ℕ}
use mathlib.Core.List.{List}
use mathlib.Core.Path.{◌≡◌, refl, sym, ap, subst, ◌∙◌}
use Rattle.std.specs.Borrow.{Bor, MutBor}
use Rattle.usage.specs.declared.ThreadUsage.{ThreadUsage}
use Rattle.usage.specs.Says.{InPlace, done, kept, outcome_of}
use Rattle.usage.proofs.Done.{number_done}
use Rattle.trace.specs.declared.reader.TraceReader.{TraceReader}
use Rattle.demands.specs.Outcome.{OneOutcome, OneOutcomeLent}
use Rattle.demands.specs.Lent.{OutcomeIs, LentForms, LentNow, ChangedNow, ByHand}
use Rattle.error.specs.declared.Refusal.{Refusal}
use Rattle.error.specs.Said.{number_in}

-- what is made of a leaf's answer
after : (u : ThreadUsage) (answer : Result ThreadUsage Refusal) → OutcomeIs u answer (outcome_of u answer)
unfolding number_in kept
after u (Ok v) = refl
after u (Err why) = refl

module _ (u : ThreadUsage) {leaf answer : Result ThreadUsage Refusal} where
  after_leaf : answer ≡ leaf → OutcomeIs u answer (outcome_of u leaf)
  after_leaf e = subst (λ (l : Result ThreadUsage Refusal). OutcomeIs u answer (outcome_of u l)) e (after u answer)

forms : LentForms
unfolding done kept
forms = record {
  accepted = λ before u. (refl, refl);
  refused = λ before why. (refl, refl);
  from_c = λ before answer. ap (λ code. record { code = code; usage = kept before answer }) (sym (number_done answer));
  enable = λ u answer given. after_leaf u given.2;
  disable = λ u answer given. after_leaf u given.2;
  accumulate = λ u cycles answer given. after_leaf u given.2;
}

pub by_hand : ByHand
by_hand = record {
  forms = forms;
  lent = λ 𝓛 mem run κ x y look cycles said code flag. record { enable = refl; disable = refl; accumulate = refl; is_tracked_lem = refl; c_enable = refl; c_disable = refl; c_accumulate = refl; c_is_tracked = refl };
  reader = λ 𝓛 mem run κ trace d r item n. record { new = refl; moved = refl; next = refl; records_left_lem = refl; bytes_left = refl; first_item_lem = refl };
}

-- one outcome: the code and the record at exit, the answer of a look, a reader, and what a reader answers
pub lent_once : {More : Type 0} (outcome : ThreadUsage → More → InPlace) → OneOutcomeLent (λ x. x.now) (λ (more : More) (x : MutBor ThreadUsage) code y. LentNow (outcome x.now more) code y)
lent_once outcome more x one other here there p q = (p.0 ∙ sym q.0, p.1 ∙ sym q.1)

pub changed_once : {More : Type 0} (answer : ThreadUsage → More → Result ThreadUsage Refusal) → OneOutcomeLent (λ x. x.now) (λ (more : More) (x : MutBor ThreadUsage) said y. ChangedNow x.now (answer x.now more) said y)
changed_once answer more x one other here there p q = (p.0 ∙ sym q.0, p.1 ∙ sym q.1)

pub answered_once : {Held Answer : Type 0} (answer : Held → Answer) → OneOutcome (λ (lives : Unit {0}) (held : Held) r (exit : Unit {0}). r ≡ answer held)
answered_once answer lives held one other here there p q = p ∙ sym (q)

pub reader_once : {Held : Type 0} (trace : Held → Bor (List ℕ)) (at : Held → ℕ) → OneOutcome (λ (lives : Unit {0}) (held : Held) (r : TraceReader) (exit : Unit {0}). (r.trace ≡ trace held) × (r.at ≡ at held))
reader_once trace at lives held one other here there p q = λ i. record { trace = (p.0 ∙ sym q.0) i; at = (p.1 ∙ sym q.1) i }
