-- What is written in decimal reads back.
use Rattle.std.proofs.Common.{◌-◌, ℕ, zero, suc, ◌+◌, ◌*◌, ◌/◌, ◌%◌, ◌≤◌, ◌<◌, ◌≡◌, refl, ◌∙◌, Bool, true, false, List, [], ◌∷◌, ◌++◌, arith, length, get_or, pos, negsuc, ltb, ltb-true, ltb-false}
use Rattle.lines.specs.Text.{decimal, signed}
use Rattle.lines.specs.ReadsBack.{value_after, value, ReadsBack}
use Rattle.lines.proofs.Decimal.{one, more}

-- what holds of one digit, and of one digit more, holds of all
by_digits : (P : ℕ → List ℕ → Type 0) →
    ((n : ℕ) → n < 10 → P n ((48 + n) ∷ [])) →
    ((n : ℕ) (s : List ℕ) → 10 ≤ n → P (n / 10) s → P n (s ++ ((48 + n % 10) ∷ []))) →
    (most n : ℕ) → n ≤ most → P n (decimal n)
by_digits P base step zero n h = rw (one n (omega arith)) (base n (omega arith))
by_digits P base step (suc most) n h = by_test (by_digits P base step most (n / 10)) (ltb n 10) refl
  where
    by_test : (n / 10 ≤ most → P (n / 10) (decimal (n / 10))) → (b : Bool) → ltb n 10 ≡ b → P n (decimal n)
    by_test rest true e = let low = ltb-true n 10 e in rw (one n low) (base n low)
    by_test rest false e = let high = ltb-false n 10 e in rw (more n high) (step n (decimal (n / 10)) high (rest (omega arith)))

value_append : (there : ℕ) (s t : List ℕ) → value_after there (s ++ t) ≡ value_after (value_after there s) t
value_append there [] t = refl
value_append there (b ∷ s) t = value_append (there * 10 + (b - 48)) s t

same : (n : ℕ) → value (decimal n) ≡ n
same n = by_digits (λ (m : ℕ) (s : List ℕ). value s ≡ m) (λ m low. omega arith) longer n n (omega arith)
  where
    longer : (m : ℕ) (s : List ℕ) → 10 ≤ m → value s ≡ m / 10 → value (s ++ ((48 + m % 10) ∷ [])) ≡ m
    longer m s high e = value_append 0 s ((48 + m % 10) ∷ []) ∙ rw e (omega arith)

abbrev Digits : List ℕ → Type 0
Digits [] = Unit {0}
Digits (b ∷ s) = (48 ≤ b) × (b ≤ 57) × Digits s

digits_append : (s : List ℕ) (b : ℕ) → Digits s → 48 ≤ b → b ≤ 57 → Digits (s ++ (b ∷ []))
digits_append [] b d h k = (h, k, tt)
digits_append (c ∷ s) b d h k = (d.0, d.1, digits_append s b d.2 h k)

digits : (n : ℕ) → Digits (decimal n)
digits n = by_digits (λ (m : ℕ) (s : List ℕ). Digits s) (λ m low. (omega arith, omega arith, tt)) longer n n (omega arith)
  where
    longer : (m : ℕ) (s : List ℕ) → 10 ≤ m → Digits s → Digits (s ++ ((48 + m % 10) ∷ []))
    longer m s high d = digits_append s (48 + m % 10) d (omega arith) (omega arith)

digit_at : (s : List ℕ) (i : ℕ) → Digits s → i < length s → (48 ≤ get_or s i 0) × (get_or s i 0 ≤ 57)
digit_at [] i d h = absurd (omega arith)
digit_at (b ∷ s) zero d h = (d.0, d.1)
digit_at (b ∷ s) (suc i) d h = digit_at s i d.2 (omega arith)

-- 45 is no digit, and 0 stands behind the end
no_minus : (s : List ℕ) (i : ℕ) → Digits s → get_or s i 0 ≡ 45 → ⊥
no_minus [] i d e = omega arith
no_minus (b ∷ s) zero d e = let h = d.0 in omega arith
no_minus (b ∷ s) (suc i) d e = no_minus s i d.2 e

first : (n : ℕ) → 1 ≤ n → 48 < get_or (decimal n) 0 0
first n = by_digits (λ (m : ℕ) (s : List ℕ). 1 ≤ m → 48 < get_or s 0 0) (λ m low some. omega arith) longer n n (omega arith)
  where
    longer : (m : ℕ) (s : List ℕ) → 10 ≤ m → (1 ≤ m / 10 → 48 < get_or s 0 0) → 1 ≤ m → 48 < get_or (s ++ ((48 + m % 10) ∷ [])) 0 0
    longer m [] high f some = let h = f (omega arith) in absurd (omega arith)
    longer m (b ∷ s) high f some = f (omega arith)

no_sign : (n i : ℕ) → get_or (signed (pos n)) i 0 ≡ 45 → ⊥
unfolding signed
no_sign n i e = no_minus (decimal n) i (digits n) e

below_zero : (n : ℕ) → signed (negsuc n) ≡ 45 ∷ decimal (suc n)
unfolding signed
below_zero n = refl

one_zero : decimal 0 ≡ 48 ∷ []
unfolding decimal
one_zero = refl

pub reads_back : ReadsBack
reads_back = record {
  same = same;
  zero = one_zero;
  digits = λ n i h. digit_at (decimal n) i (digits n) h;
  first = first;
  below_zero = below_zero;
  no_sign = no_sign;
}
