-- Inside: what the private parts of a line ask of their caller, and what they leave behind.
use Rattle.std.specs.Prelude.{ℕ, ◌+◌, ◌/◌, ◌%◌, ◌≤◌, ◌≡◌, List, [], ◌∷◌, length}
use Rattle.std.proofs.lemmas.List.Edits.{sets}

-- a number below 100 in two digits
abbrev pub two : ℕ → List ℕ
two n = (48 + n / 10) ∷ (48 + n % 10) ∷ []

-- a text and the byte after it have room
pub record Room (buffer : List ℕ) (at : ℕ) (text : List ℕ) : Type 0 where
  pub room : at + length text + 1 ≤ length buffer

-- the text stands in the buffer, and `end` is the place after it
pub record Put (before now : List ℕ) (at end : ℕ) (text : List ℕ) : Type 0 where
  pub next : end ≡ at + length text
  pub bytes : now ≡ sets before at text
