-- A label stays its number's from line to line, and its text is that number's.
use Rattle.std.specs.Prelude.{Option, Some, None}
use Rattle.std.proofs.Common.{ℕ, zero, suc, ◌+◌, ◌*◌, ◌/◌, ◌%◌, ◌≤◌, ◌<◌, ◌≡◌, refl, sym, ap, ◌∙◌, Bool, true, false, cond, ◌||◌, List, [], ◌∷◌, ◌++◌, arith, length, take, drop, set, replicate, set-set, ltb, leb, eqb, le-leb, ltb-true, ltb-false, leb-false}
use Rattle.std.proofs.lemmas.List.Edits.{sets}
use lib.Seq.{sets-eq, length-sets, take-append_seam}
use borrow.Author.Tests.{eqb-false}
use Rattle.error.specs.Numbers.{max64}
use Rattle.lines.specs.declared.label.Label.{Label}
use Rattle.lines.specs.declared.label.Digits.{Digits}
use Rattle.lines.specs.Text.{decimal}
use Rattle.lines.specs.Naming.{spelt, digits_kept, of_parts, label_of, next_label, usable, joined, text_by, label_text, under_by, underneath, SpellsIf, Named}
use Rattle.lines.proofs.Decimal.{by_two, size_eight}
use Rattle.lines.proofs.Stores.{run_sooner}

-- a run whose first byte is put anew
first_anew : (l : List ℕ) (at x : ℕ) (w : List ℕ) (y : ℕ) → set (sets (set l at x) (suc at) w) at y ≡ sets (set l at y) (suc at) w
first_anew l at x w y =
    sym (run_sooner (set l at x) at (y ∷ []) (suc at) w (omega arith)) ∙
    ap (λ (m : List ℕ). sets m (suc at) w) (set-set l at x y)

-- what is put over covers what was put before
pub covered : (l : List ℕ) (at : ℕ) (w r : List ℕ) → length w ≤ length r → sets (sets l at w) at r ≡ sets l at r
covered l at [] r h = refl
covered l at (x ∷ w) [] h = absurd (omega arith)
covered l at (x ∷ w) (y ∷ r) h =
    ap (λ (m : List ℕ). sets m (suc at) r) (first_anew l at x w y) ∙
    covered (set l at y) (suc at) w r (omega arith)

-- the front of a text that stands there, put again
pub put_again : (l : List ℕ) (at : ℕ) (w : List ℕ) (k : ℕ) → sets (sets l at w) at (take k w) ≡ sets l at w
put_again l at w zero = refl
put_again l at [] (suc k) = refl
put_again l at (x ∷ w) (suc k) =
    ap (λ (m : List ℕ). sets m (suc at) (take k w)) (first_anew l at x w x) ∙
    put_again (set l at x) (suc at) w k

-- digits put into the empty text are its front
front : (d : List ℕ) → length d ≤ 8 → take (length d) (sets (replicate 8 0) 0 d) ≡ d
front d h =
    let put : sets (replicate 8 0) 0 d ≡ d ++ drop (0 + length d) (replicate 8 0) = sets-eq d (replicate 8 0) 0 (omega arith) in
    rw put (take-append_seam d (drop (0 + length d) (replicate 8 0)))

-- the digits that are kept of a head are its own
kept_spell : (head : ℕ) → SpellsIf (digits_kept head) head
unfolding digits_kept
kept_spell head = by_test (eqb head 0) (leb 100000000 head) refl refl
  where
    by_test : (s t : Bool) → eqb head 0 ≡ s → leb 100000000 head ≡ t → SpellsIf (cond (s || t) None (Some (spelt head))) head
    by_test true t d e = tt
    by_test false true d e = tt
    by_test false false d e =
        let some = eqb-false head 0 d in
        let few = size_eight head (leb-false 100000000 head e) in
        record {
          long = length-sets (replicate 8 0) 0 (decimal head);
          digits = front (decimal head) few;
          some = omega arith;
          few = few;
        }

-- the first label is its number's
pub of_named : (n : ℕ) → Named (label_of n) n
unfolding label_of of_parts
of_named n = record { head = refl; pair = refl; digits = kept_spell (n / 100) }

-- and each label after it is the next number's
pub next_named : (l : Label) (n : ℕ) → Named l n → n < max64 → Named (next_label l) (n + 1)
unfolding next_label of_parts
next_named l n named below =
    let kept = kept_spell (l.head + 1) in
    let h = named.head in
    let p = named.pair in
    let d = named.digits in
    record { head = grind arith; pair = grind arith; digits = grind arith }

-- what is put is the number and a space
pub named_text : (l : Label) (n : ℕ) → Named l n → n ≤ max64 → label_text l ≡ decimal n ++ 32 ∷ []
unfolding label_text text_by usable joined
named_text l n named most = ap (λ (t : List ℕ). t ++ 32 ∷ []) (by_digits l.digits named.digits)
  where
    by_digits : (d : Option Digits) → SpellsIf d l.head → text_by l.head l.pair d ≡ decimal n
    by_digits None s = let h = named.head in let p = named.pair in grind (arith, le-leb)
    by_digits (Some d) s = let h = named.head in let p = named.pair in grind (arith, by_two)

-- what is put before has no more than the text's eight bytes, which the rest of the line covers
pub underneath_short : (l : Label) (n : ℕ) → Named l n → length (underneath l) ≤ 8
unfolding underneath under_by usable
underneath_short l n named = by_digits l.digits named.digits
  where
    by_digits : (d : Option Digits) → SpellsIf d l.head → length (under_by l.pair d) ≤ 8
    by_digits None s = omega arith
    by_digits (Some d) s = grind arith

-- the label after a number's is the next number's
pub next_of : (n : ℕ) → n < 100 * max64 + 99 → next_label (label_of n) ≡ label_of (n + 1)
unfolding label_of of_parts next_label
next_of n below = grind arith

-- and the last of all stays
pub last_stays : next_label (label_of (100 * max64 + 99)) ≡ label_of (100 * max64 + 99)
unfolding label_of of_parts next_label
last_stays = refl

-- what a number's label puts before its text, and the text
pub underneath_of : (n : ℕ) → underneath (label_of n) ≡ cond (eqb (n / 100) 0 || leb 100000000 (n / 100)) [] (sets (replicate 8 0) 0 (decimal (n / 100)))
unfolding label_of of_parts underneath under_by digits_kept usable
underneath_of n = by_test (eqb (n / 100) 0 || leb 100000000 (n / 100)) (kept_spell (n / 100))
  where
    by_test : (b : Bool) → SpellsIf (cond b None (Some (spelt (n / 100)))) (n / 100) → under_by (n % 100) (cond b None (Some (spelt (n / 100)))) ≡ cond b [] (sets (replicate 8 0) 0 (decimal (n / 100)))
    by_test true s = refl
    by_test false s = grind arith

pub text_of : (n : ℕ) → label_text (label_of n) ≡ decimal (cond (ltb max64 n) 0 n) ++ 32 ∷ []
unfolding label_of of_parts label_text text_by digits_kept joined
text_of n = by_test (ltb max64 n) refl
  where
    by_test : (b : Bool) → ltb max64 n ≡ b → label_text (label_of n) ≡ decimal (cond b 0 n) ++ 32 ∷ []
    by_test false e = named_text (label_of n) n (of_named n) (ltb-false max64 n e)
    by_test true e = let above = ltb-true max64 n e in grind arith
