-- A whole text or nothing: what the room decides, for the answer and the buffer.
use Rattle.std.specs.Prelude.{Ok, Err}
use Rattle.std.proofs.Common.{ℕ, ◌+◌, ◌≤◌, ◌<◌, ◌≡◌, refl, Bool, true, false, cond, List, length, leb, le-leb, le-ltb}
use Rattle.std.proofs.lemmas.List.Edits.{sets}
use lib.Seq.{length-sets}
use borrow.Author.Tests.{lt-leb}
use Rattle.error.specs.declared.Refusal.TheVariants.{NoSpace}
use Rattle.lines.specs.Buffer.{fits, put_of, written_of, roomy_put, roomy_written}

module _ (buffer : List ℕ) (at : ℕ) (text : List ℕ) where
  pub accepted : at + length text ≤ length buffer → written_of buffer at text ≡ Ok (at + length text)
  unfolding written_of fits
  accepted h = simp (le-leb _ _ h)

  pub put : at + length text ≤ length buffer → put_of buffer at text ≡ sets buffer at text
  unfolding put_of fits
  put h = simp (le-leb _ _ h)

  pub refused : length buffer < at + length text → written_of buffer at text ≡ Err NoSpace
  unfolding written_of fits
  refused h = simp (lt-leb _ _ h)

  pub kept : length buffer < at + length text → put_of buffer at text ≡ buffer
  unfolding put_of fits
  kept h = simp (lt-leb _ _ h)

  pub roomy : (room : ℕ) → at + room ≤ length buffer → (roomy_written room buffer at text ≡ Ok (at + length text)) × (roomy_put room buffer at text ≡ sets buffer at text)
  unfolding roomy_written roomy_put
  roomy room h = rw (le-ltb (length buffer) (at + room) h) (refl, refl)

  -- a buffer keeps its length, whatever is put
  pub put_length : length (put_of buffer at text) ≡ length buffer
  unfolding put_of fits
  put_length = by_test (leb (at + length text) (length buffer))
    where
      by_test : (b : Bool) → length (cond b (sets buffer at text) buffer) ≡ length buffer
      by_test true = length-sets buffer at text
      by_test false = refl
