-- Runs of stores: one after the other, and one that comes out of turn.
use Rattle.std.proofs.Common.{◌-◌, ℕ, suc, ◌+◌, ◌≤◌, ◌≡◌, refl, sym, ap, ◌∙◌, List, [], ◌∷◌, ◌++◌, append_assoc, arith, add-suc, suc-add, add-zero, length, take, drop, set, length-set, length-append, length-take-le}
use Rattle.std.proofs.lemmas.List.Edits.{sets}
use lib.Seq.{set_comm, sets-eq, drop-drop, length-sets}
use Rattle.std.proofs.lemmas.List.{take-append-drop}
use borrow.Rule.Slice.PartMut.{put_mid}
use Rattle.lines.specs.Writing.{Put}

-- a run in two parts
pub in_parts : (l : List ℕ) (at : ℕ) (s t : List ℕ) → sets l at (s ++ t) ≡ sets (sets l at s) (at + length s) t
in_parts l at [] t = ap (λ (k : ℕ). sets l k t) (sym (add-zero at))
in_parts l at (x ∷ s) t =
    in_parts (set l at x) (suc at) s t ∙
    ap (λ (k : ℕ). sets (sets (set l at x) (suc at) s) k t) (suc-add at (length s) ∙ sym (add-suc at (length s)))

-- a store behind a run may come before it
sooner : (l : List ℕ) (at : ℕ) (s : List ℕ) (k b : ℕ) → at + length s ≤ k → set (sets l at s) k b ≡ sets (set l k b) at s
sooner l at [] k b h = refl
sooner l at (x ∷ s) k b h =
    sooner (set l at x) (suc at) s k b (omega arith) ∙
    ap (λ (m : List ℕ). sets m (suc at) s) (set_comm l at k x b (λ e. omega arith))

-- and so may a run
pub run_sooner : (l : List ℕ) (at : ℕ) (s : List ℕ) (k : ℕ) (t : List ℕ) → at + length s ≤ k → sets (sets l at s) k t ≡ sets (sets l k t) at s
run_sooner l at s k [] h = refl
run_sooner l at s k (b ∷ t) h =
    ap (λ (m : List ℕ). sets m (suc k) t) (sooner l at s k b h) ∙
    run_sooner (set l k b) at s (suc k) t (omega arith)

-- two texts, one after the other
pub then : {before between after : List ℕ} {at next end : ℕ} (s t : List ℕ) → Put before between at next s → Put between after next end t → Put before after at end (s ++ t)
then {before} {between} {after} {at} {next} {end} s t p q = record {
  next = let h = p.next in let k = q.next in omega (arith, length-append s t);
  bytes = q.bytes ∙ rw (p.bytes, p.next) (sym (in_parts before at s t));
}

-- a slice of the buffer that became the text
pub copied : {now : List ℕ} (l : List ℕ) (at : ℕ) (text : List ℕ) → at + length text ≤ length l → now ≡ text → put_mid at (at + length text - at) l now ≡ sets l at text
copied l at text room is =
    let size : at + length text - at ≡ length text = omega arith in
    rw (is, size, drop-drop, sets-eq text l at room, append_assoc)

-- a buffer whose front is as it was, and that has the text behind it
pub stood : {now : List ℕ} (l : List ℕ) (at : ℕ) (text : List ℕ) → at + length text ≤ length l → take at now ≡ take at l → drop at now ≡ text ++ drop (at + length text) l → now ≡ sets l at text
stood {now} l at text room front rest = sym (take-append-drop at now) ∙ rw (front, rest, sets-eq text l at room, append_assoc)

-- what a run of stores leaves, and that the buffer keeps its length
pub ruleset stores = (in_parts, length-set, length-sets, length-append, length-take-le)
