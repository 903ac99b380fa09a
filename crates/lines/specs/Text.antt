-- Believed: the text of the output, byte by byte.
use Rattle.std.specs.Prelude.{ℕ, zero, suc, ◌+◌, ◌/◌, ◌%◌, cond, List, [], ◌∷◌, ◌++◌, ltb, ℤ, pos, negsuc}
use Rattle.error.specs.declared.Refusal.TheVariants.{Invalid, NoSpace}
use Rattle.error.specs.Numbers.{number_of}

-- n in at most most + 1 digits: the last is n % 10, and before it stands n / 10; 48 is the byte of 0
abbrev pub digits_of : ℕ → ℕ → List ℕ
digits_of zero n = (48 + n) ∷ []
digits_of (suc most) n = cond (ltb n 10) ((48 + n) ∷ []) (digits_of most (n / 10) ++ ((48 + n % 10) ∷ []))

-- n + 1 digits are enough for n
unfoldable pub decimal : ℕ → List ℕ
decimal n = digits_of n n

-- below 0 a minus sign, 45
unfoldable pub signed : ℤ → List ℕ
signed (pos n) = decimal n
signed (negsuc n) = 45 ∷ decimal (suc n)

-- a record's code and two values: a space, 32, between them and a line feed, 10, at the end
abbrev pub values_text : ℤ → ℕ → ℕ → List ℕ
values_text code x y = signed code ++ 32 ∷ decimal x ++ 32 ∷ decimal y ++ 10 ∷ []

-- its line: the number, a space and those
unfoldable pub line_text : ℕ → ℤ → ℕ → ℕ → List ℕ
line_text number code x y = decimal number ++ 32 ∷ values_text code x y

-- "end " and two numbers
unfoldable pub end_text : ℕ → ℕ → List ℕ
end_text cycles reading = 101 ∷ 110 ∷ 100 ∷ 32 ∷ decimal cycles ++ 32 ∷ decimal reading ++ 10 ∷ []

-- "tail " and the number of Invalid
unfoldable pub tail_text : List ℕ
tail_text = 116 ∷ 97 ∷ 105 ∷ 108 ∷ 32 ∷ signed (number_of Invalid) ++ 10 ∷ []

-- "input " and the number of NoSpace
unfoldable pub input_text : List ℕ
input_text = 105 ∷ 110 ∷ 112 ∷ 117 ∷ 116 ∷ 32 ∷ signed (number_of NoSpace) ++ 10 ∷ []
