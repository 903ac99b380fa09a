-- Inside: a record's number, kept as text from line to line: what is kept, what is put, and when a label is a number's. `Writers` (crates/demands/specs/Writers.antt) says what is put of a number's label, and that the next label is the next number's.
use Rattle.std.specs.Prelude.{ℕ, ◌+◌, ◌*◌, ◌/◌, ◌%◌, ◌≤◌, ◌<◌, ◌≡◌, Bool, cond, ◌||◌, ◌&&◌, Option, Some, None, List, [], ◌∷◌, ◌++◌, length, take, replicate, ltb, leb, eqb, Result}
use Rattle.std.proofs.lemmas.List.Edits.{sets}
use Rattle.error.specs.Numbers.{max64}
use Rattle.lines.specs.declared.label.Label.{Label}
use Rattle.lines.specs.declared.label.Digits.{Digits}
use Rattle.lines.specs.Text.{decimal}
use Rattle.lines.specs.Buffer.{line_room, roomy_written}
use Rattle.lines.specs.Writing.{two}
use Rattle.error.specs.declared.Refusal.{Refusal}

-- a head's digits, in a text of eight bytes
abbrev pub spelt : ℕ → Digits
spelt head = record { size = length (decimal head); text = sets (replicate 8 0) 0 (decimal head) }

-- a head of one digit to eight is kept as text
unfoldable pub digits_kept : ℕ → Option Digits
digits_kept head = cond (eqb head 0 || leb 100000000 head) None (Some (spelt head))

unfoldable pub of_parts : ℕ → ℕ → Label
of_parts head pair = record { head = head; pair = pair; digits = digits_kept head }

unfoldable pub label_of : ℕ → Label
label_of n = of_parts (n / 100) (n % 100)

-- one more; the last of all stays
unfoldable pub next_label : Label → Label
next_label l =
    cond (ltb l.pair 99)
    (record { head = l.head; pair = l.pair + 1; digits = l.digits })
    (cond (eqb l.head max64) l (of_parts (l.head + 1) 0))

-- the text can be used, before two digits
unfoldable pub usable : Digits → ℕ → Bool
usable d pair = leb d.size 8 && leb pair 99

-- the number that the two parts make; 0 where it has more than 64 bits
unfoldable pub joined : ℕ → ℕ → ℕ
joined head pair = cond (leb (100 * head + pair) max64) (100 * head + pair) 0

unfoldable pub text_by : ℕ → ℕ → Option Digits → List ℕ
text_by head pair None = decimal (joined head pair)
text_by head pair (Some d) = cond (usable d pair) (take d.size d.text ++ two pair) (decimal (joined head pair))

-- the number's digits, and a space
unfoldable pub label_text : Label → List ℕ
label_text l = text_by l.head l.pair l.digits ++ 32 ∷ []

unfoldable pub under_by : ℕ → Option Digits → List ℕ
under_by pair None = []
under_by pair (Some d) = cond (usable d pair) d.text []

-- what is put before, of which nothing is left once the line is whole
unfoldable pub underneath : Label → List ℕ
underneath l = under_by l.pair l.digits

unfoldable pub label_put : List ℕ → ℕ → Label → List ℕ
label_put buffer at l = cond (ltb (length buffer) (at + line_room)) buffer (sets (sets buffer at (underneath l)) at (label_text l))

abbrev pub label_written : List ℕ → ℕ → Label → Result ℕ Refusal
label_written buffer at l = roomy_written line_room buffer at (label_text l)

-- digits of the number n
pub record Spells (d : Digits) (n : ℕ) : Type 0 where
  pub long : length d.text ≡ 8
  pub digits : take d.size d.text ≡ decimal n
  pub some : 0 < n
  pub few : d.size ≤ 8

abbrev pub SpellsIf : Option Digits → ℕ → Type 0
SpellsIf None n = Unit {0}
SpellsIf (Some d) n = Spells d n

-- a label of the number n
pub record Named (l : Label) (n : ℕ) : Type 0 where
  pub head : l.head ≡ n / 100
  pub pair : l.pair ≡ n % 100
  pub digits : SpellsIf l.digits l.head
