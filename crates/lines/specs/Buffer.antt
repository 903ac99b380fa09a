-- Inside: a text put into a buffer or no room, as the writers' contracts cite it. `Writers` (crates/demands/specs/Writers.antt) says it of all.
use Rattle.std.specs.Prelude.{ℕ, ◌+◌, Bool, cond, List, length, ltb, leb, Result, Ok, Err}
use Rattle.std.proofs.lemmas.List.Edits.{sets}
use Rattle.error.specs.declared.Refusal.TheVariants.{NoSpace}
use Rattle.error.specs.declared.Refusal.{Refusal}

-- no line of 64-bit numbers and a 32-bit code is longer, nor is the last one
abbrev pub line_room : ℕ
line_room = 75

-- and of it what follows the number
abbrev pub rest_room : ℕ
rest_room = 54

abbrev pub end_room : ℕ
end_room = 46

-- whether there is room for a text from a place on
unfoldable pub fits : List ℕ → ℕ → List ℕ → Bool
fits buffer at text = leb (at + length text) (length buffer)

-- the buffer with the text from that place on, or as it was
unfoldable pub put_of : List ℕ → ℕ → List ℕ → List ℕ
put_of buffer at text = cond (fits buffer at text) (sets buffer at text) buffer

-- the place after the text, or no room
unfoldable pub written_of : List ℕ → ℕ → List ℕ → Result ℕ Refusal
written_of buffer at text = cond (fits buffer at text) (Ok (at + length text)) (Err NoSpace)

-- the same where so much room is asked for, however short the text is
unfoldable pub roomy_put : ℕ → List ℕ → ℕ → List ℕ → List ℕ
roomy_put room buffer at text = cond (ltb (length buffer) (at + room)) buffer (sets buffer at text)

unfoldable pub roomy_written : ℕ → List ℕ → ℕ → List ℕ → Result ℕ Refusal
roomy_written room buffer at text = cond (ltb (length buffer) (at + room)) (Err NoSpace) (Ok (at + length text))
