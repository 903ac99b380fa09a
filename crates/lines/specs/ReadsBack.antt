-- Evidence: that the digits are right. They read back as the number, are digits, and begin with no zero.
use Rattle.std.specs.Prelude.{◌-◌, ℕ, suc, ◌+◌, ◌*◌, ◌≤◌, ◌<◌, ◌≡◌, List, [], ◌∷◌, length, get_or, pos, negsuc}
use Rattle.lines.specs.Text.{decimal, signed}

-- from left to right: ten times what is there, and the digit
abbrev pub value_after : ℕ → List ℕ → ℕ
value_after there [] = there
value_after there (byte ∷ rest) = value_after (there * 10 + (byte - 48)) rest

abbrev pub value : List ℕ → ℕ
value text = value_after 0 text

pub record ReadsBack : Type 0 where
  pub same : (n : ℕ) → value (decimal n) ≡ n
  pub zero : decimal 0 ≡ 48 ∷ []
  -- every byte is from '0' to '9'
  pub digits : (n i : ℕ) → i < length (decimal n) → (48 ≤ get_or (decimal n) i 0) × (get_or (decimal n) i 0 ≤ 57)
  -- the first is not '0', but for the number 0
  pub first : (n : ℕ) → 1 ≤ n → 48 < get_or (decimal n) 0 0
  -- one minus sign below 0, and none else
  pub below_zero : (n : ℕ) → signed (negsuc n) ≡ 45 ∷ decimal (suc n)
  pub no_sign : (n i : ℕ) → get_or (signed (pos n)) i 0 ≡ 45 → ⊥
