-- Small laws of tests and cases, for every crate.
use Prim.Native.Nat.{ℕ, ◌+◌, ◌≤◌, ◌<◌}
use mathlib.Core.Path.{◌≡◌, refl, sym}
use mathlib.Core.Bool.{Bool, true, false, cond, ◌||◌}
use native.Mathlib.Omega.{arith}
use native.Mathlib.Nat.{add-zero}
use borrow.Author.Tests.{ltb-true, ltb-false, lt-ltb, le-ltb}
use lib.Dec.{ltb}

-- two cases that can't be equal: `clash (cc)`
pub clash : {P : Type 0} → ◌≡◌ {A = ℕ} 0 1 → P
clash e = absurd (omega arith)

pub or_none : (t : Bool) → t ≡ t || false
or_none true = refl
or_none false = refl

pub nothing_added : (n : ℕ) (t : Bool) → n ≡ n + cond t 0 0
nothing_added n true = sym (add-zero n)
nothing_added n false = sym (add-zero n)

-- two tests that hold of the same numbers are one
pub same_test : (a b c d : ℕ) → (a < b → c < d) → (b ≤ a → d ≤ c) → ltb a b ≡ ltb c d
same_test a b c d holds fails = by_test (ltb a b) refl
  where
    by_test : (t : Bool) → ltb a b ≡ t → ltb a b ≡ ltb c d
    by_test true e = rw (e) (sym (lt-ltb c d (holds (ltb-true a b e))))
    by_test false e = rw (e) (sym (le-ltb c d (fails (ltb-false a b e))))
