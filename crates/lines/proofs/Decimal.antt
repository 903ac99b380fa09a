-- The digits of a number by its last one, two or four, and how many they are.
use Rattle.std.proofs.Common.{ℕ, zero, suc, ◌+◌, ◌/◌, ◌%◌, ◌^◌, ◌≤◌, ◌<◌, ◌≡◌, refl, sym, ap, ◌∙◌, Bool, true, false, cond, List, [], ◌∷◌, ◌++◌, append_assoc, arith, pow-suc, length, take, drop, length-append, ltb, lt-ltb, le-ltb, ltb-false}
use Rattle.std.specs.Fmt as std
use Rattle.std.proofs.lemmas.Fmt.{decimal_by_steps}
use Rattle.std.proofs.lemmas.List.Edits.{sets}
use Rattle.lines.specs.Text.{digits_of, decimal}
use Rattle.lines.proofs.Stores.{stood}
use Rattle.lines.specs.Writing.{two}

-- any limit that is not below the number gives all its digits
enough : (most more n : ℕ) → n ≤ most → n ≤ more → digits_of most n ≡ digits_of more n
enough zero zero n h k = refl
enough zero (suc more) n h k = sym (simp (lt-ltb n 10 (omega arith)))
enough (suc most) zero n h k = simp (lt-ltb n 10 (omega arith))
enough (suc most) (suc more) n h k = by_test (enough most more (n / 10)) (ltb n 10) refl
  where
    by_test : (n / 10 ≤ most → n / 10 ≤ more → digits_of most (n / 10) ≡ digits_of more (n / 10)) → (b : Bool) → ltb n 10 ≡ b →
        cond b ((48 + n) ∷ []) (digits_of most (n / 10) ++ ((48 + n % 10) ∷ [])) ≡ cond b ((48 + n) ∷ []) (digits_of more (n / 10) ++ ((48 + n % 10) ∷ []))
    by_test rest true e = refl
    by_test rest false e =
        let high = ltb-false n 10 e in
        ap (λ (t : List ℕ). t ++ ((48 + n % 10) ∷ [])) (rest (omega arith) (omega arith))

-- one digit
pub one : (n : ℕ) → n < 10 → decimal n ≡ (48 + n) ∷ []
unfolding decimal
one zero h = refl
one (suc m) h = simp (lt-ltb (suc m) 10 h)

-- the last digit apart
pub more : (n : ℕ) → 10 ≤ n → decimal n ≡ decimal (n / 10) ++ ((48 + n % 10) ∷ [])
unfolding decimal
more zero h = absurd (omega arith)
more (suc m) h =
    simp (le-ltb (suc m) 10 h)
    (ap (λ (t : List ℕ). t ++ ((48 + suc m % 10) ∷ [])) (enough m (suc m / 10) (suc m / 10) (omega arith) (omega arith)))

-- the last two digits apart
pub by_two : (n : ℕ) → 100 ≤ n → decimal n ≡ decimal (n / 100) ++ two (n % 100)
by_two n h =
    let high : n / 10 / 10 ≡ n / 100 = omega arith in
    let tens : n / 10 % 10 ≡ n % 100 / 10 = omega arith in
    let ones : n % 10 ≡ n % 100 % 10 = omega arith in
    more n (omega arith) ∙
    ap (λ (t : List ℕ). t ++ ((48 + n % 10) ∷ [])) (more (n / 10) (omega arith)) ∙
    append_assoc (decimal (n / 10 / 10)) ((48 + n / 10 % 10) ∷ []) ((48 + n % 10) ∷ []) ∙
    rw (high, tens, ones)

pub size_one : (n : ℕ) → n < 10 → length (decimal n) ≡ 1
size_one n h = ap length (one n h)

pub size_more : (n : ℕ) → 10 ≤ n → length (decimal n) ≡ length (decimal (n / 10)) + 1
size_more n h = ap length (more n h) ∙ length-append (decimal (n / 10)) ((48 + n % 10) ∷ [])

-- a number has a digit
pub some_digits : (n : ℕ) → 1 ≤ length (decimal n)
some_digits n = grind (arith, size_one, size_more)

pub size_by_four : (n : ℕ) → 10000 ≤ n → length (decimal n) ≡ length (decimal (n / 10000)) + 4
size_by_four n h =
    let high : n / 10 / 10 / 10 / 10 ≡ n / 10000 = omega arith in
    rw (← high) (grind (arith, size_more))

-- a number below 10 ^ k has at most k digits
pub size_most : (k n : ℕ) → n < 10 ^ suc k → length (decimal n) ≤ suc k
size_most zero n h = let e = size_one n h in omega arith
size_most (suc k) n h = let rest = size_most k (n / 10) (omega (arith, pow-suc 10 (suc k))) in grind (arith, size_one, size_more)

pub size_64 : (n : ℕ) → n < 2 ^ 64 → length (decimal n) ≤ 20
size_64 n h = size_most 19 n (omega arith)

-- a head that is kept as text
pub size_eight : (n : ℕ) → n < 100000000 → length (decimal n) ≤ 8
size_eight n h = size_most 7 n h

-- the library's text of a number is this one
pub library : (n : ℕ) → n < 2 ^ 64 → std.decimal n ≡ decimal n
library n h = decimal_by_steps (λ m s. s ≡ decimal m) (λ m low. sym (one m low)) (λ m s high e. rw e (sym (more m high))) n h

-- which puts it before the place that it is given
pub put_by_library : {now : List ℕ} (l : List ℕ) (at n from : ℕ) → n < 2 ^ 64 → at + length (decimal n) ≤ length l → from + length (std.decimal n) ≡ at + length (decimal n) → drop from now ≡ std.decimal n ++ drop (at + length (decimal n)) l → take from now ≡ take from l → now ≡ sets l at (decimal n)
put_by_library l at n from h room start written before =
    let same = library n h in
    let long = ap length same in
    let is : from ≡ at = omega arith in
    stood l at (decimal n) room (rw is at before) (rw (same, is) at written)
