-- Believed: 01's numbers, and the largest values of 32 and 64 bits.
use Rattle.std.specs.Prelude.{ℕ, ℤ, pos, neg_ℤ}
use Rattle.error.specs.declared.Refusal.{Refusal}
use Rattle.error.specs.declared.Refusal.TheVariants.{Missing, BadThread, Again, Invalid, NoSpace, Already, Overflow}

abbrev pub minus : ℕ → ℤ
minus n = neg_ℤ (pos n)

-- the number of an accepted answer
abbrev pub ok : ℤ
ok = pos 0

abbrev pub number_of : Refusal → ℤ
number_of Missing = minus 2
number_of BadThread = minus 9
number_of Again = minus 11
number_of Invalid = minus 22
number_of NoSpace = minus 28
number_of Already = minus 114
number_of Overflow = minus 139

-- 2^32 - 1
abbrev pub max32 : ℕ
max32 = 4294967295

-- 2^64 - 1
abbrev pub max64 : ℕ
max64 = 18446744073709551615
