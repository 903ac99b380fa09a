-- Sums of stretches, once for any measure that is off by a part of each end: the 32-bit stamps are one, true lengths another.
use Prim.Native.Nat.{ℕ, ◌+◌, ◌-◌, ◌%◌, ◌^◌, ◌≤◌}
use mathlib.Core.Path.{◌≡◌, refl, ap}
use mathlib.Core.Bool.{Bool, true, false, cond, ◌&&◌, ◌||◌}
use mathlib.Core.List.{List, [], ◌∷◌}
use native.Mathlib.Omega.{arith}
use lib.Dec.{eqb}
use borrow.Author.Tests.{eqb-true, eqb-false}
use Rattle.error.specs.Numbers.{max64}
use Rattle.books.specs.Running.{stamp_of}
use Rattle.ledger.specs.Sums.{Stretch, sum_of, first_of, true_cycles, measured, edge, Short, AllShort, ChainShort, Within, StampsNear, TotalNear, ChainNear}
use Rattle.ledger.proofs.Holds.{chain_of}

-- the stamp of a multiple of 2^32 is one more than its low bits
abbrev multiple : ℕ → Bool
multiple time = eqb (time % 2 ^ 32) 0

-- what a stamp is more than the low bits of its time
unfoldable pub off : ℕ → ℕ
off time = cond (multiple time) 1 0

-- no time falls: every stretch ends when it began or later, and so do those of a chain
abbrev pub Ordered : List Stretch → Type 0
Ordered [] = Unit {0}
Ordered (s ∷ rest) = (s.from ≤ s.to) × Ordered rest

abbrev pub ChainOrdered : ℕ → List ℕ → Type 0
ChainOrdered time [] = Unit {0}
ChainOrdered time (t ∷ rest) = (t ≤ time) × ChainOrdered t rest

-- a stamp is 1 where the low bits are 0, and otherwise the low bits
data Low (time stamp less : ℕ) : Type 0 where
  bumped : time % 2 ^ 32 ≡ 0 → stamp ≡ 1 → less ≡ 1 → Low time stamp less
  plain : (time % 2 ^ 32 ≡ 0 → ⊥) → stamp ≡ time % 2 ^ 32 → less ≡ 0 → Low time stamp less

low : (time : ℕ) → Low time (stamp_of time) (off time)
unfolding stamp_of off
low time = by_test (eqb (time % 2 ^ 32) 0) refl
  where
    by_test : (b : Bool) → eqb (time % 2 ^ 32) 0 ≡ b → Low time (cond b 1 (time % 2 ^ 32)) (cond b 1 0)
    by_test true e = bumped (eqb-true _ _ e) refl refl
    by_test false e = plain (eqb-false _ _ e) refl refl

-- the measured true_cycles and the true one, with what each end is off by
exact_by : (from to s t x y : ℕ) → from ≤ to → Short from to → Low from s x → Low to t y → (t + 2 ^ 32 - s) % 2 ^ 32 + x ≡ to - from + y
exact_by from to s t x y o h (bumped a b c) (bumped d e f) = omega arith
exact_by from to s t x y o h (bumped a b c) (plain d e f) = omega arith
exact_by from to s t x y o h (plain a b c) (bumped d e f) = omega arith
exact_by from to s t x y o h (plain a b c) (plain d e f) = omega arith

pub stamps_off : (from to : ℕ) → from ≤ to → Short from to → measured from to + off from ≡ true_cycles from to + off to
stamps_off from to o h = exact_by from to _ _ _ _ o h (low from) (low to)

-- however long the stretch, no more is measured than the true cycles, with what each end is off by
most_by : (from to s t x y : ℕ) → from ≤ to → Low from s x → Low to t y → (t + 2 ^ 32 - s) % 2 ^ 32 + x ≤ to - from + y
most_by from to s t x y h (bumped a b c) (bumped d e f) = omega arith
most_by from to s t x y h (bumped a b c) (plain d e f) = omega arith
most_by from to s t x y h (plain a b c) (bumped d e f) = omega arith
most_by from to s t x y h (plain a b c) (plain d e f) = omega arith

pub stamps_most : (from to : ℕ) → from ≤ to → measured from to + off from ≤ true_cycles from to + off to
stamps_most from to h = most_by from to _ _ _ _ h (low from) (low to)

-- a later time, with what it is off by, is no less, and where the time fits 64 bits so does the sum
pub later_off : (from to : ℕ) → from ≤ to → from + off from ≤ to + off to
later_off from to h = by_low (low from) (low to)
  where
    by_low : {s t x y : ℕ} → Low from s x → Low to t y → from + x ≤ to + y
    by_low (bumped a b c) (bumped d e f) = omega arith
    by_low (bumped a b c) (plain d e f) = omega arith
    by_low (plain a b c) (bumped d e f) = omega arith
    by_low (plain a b c) (plain d e f) = omega arith

pub off_fits : (time : ℕ) → time ≤ max64 → time + off time ≤ max64
off_fits time h = by_low (low time)
  where
    by_low : {s x : ℕ} → Low time s x → time + x ≤ max64
    by_low (bumped a b c) = omega arith
    by_low (plain a b c) = omega arith

-- a measure that is off by `less` at each end of a stretch
module _ (measure : ℕ → ℕ → ℕ) (less : ℕ → ℕ) (law : (from to : ℕ) → from ≤ to → Short from to → measure from to + less from ≡ true_cycles from to + less to) where
  -- along a chain the parts in the middle cancel
  pub telescopes : (time : ℕ) (times : List ℕ) → ChainOrdered time times → ChainShort time times → (chain_of measure time times + less (first_of time times) ≡ true_cycles (first_of time times) time + less time) × (first_of time times ≤ time)
  unfolding chain_of
  telescopes time [] ordered short = (omega arith, omega arith)
  telescopes time (t ∷ rest) ordered short =
      let before = telescopes t rest ordered.1 short.1 in
      let last = law t time ordered.0 short.0 in
      let order = ordered.0 in
      (omega arith, omega arith)

  module _ (most : ℕ → ℕ → ℕ) (ends : (from to : ℕ) → (less from ≤ most from to) × (less to ≤ most from to)) where
    -- and so from one start to its stop only the first and the last end count
    pub chain_within : (time : ℕ) (times : List ℕ) → ChainOrdered time times → ChainShort time times → Within (chain_of measure time times) (true_cycles (first_of time times) time) (most (first_of time times) time)
    chain_within time times ordered short =
        let sum = (telescopes time times ordered short).0 in
        let e = ends (first_of time times) time in
        record { low = omega arith; high = omega arith }

    -- over any list of stretches the sums differ by at most the number of those with an end that is off
    pub sums_within : (i : ℕ) (closed : List Stretch) → Ordered closed → AllShort i closed → Within (sum_of measure i closed) (sum_of true_cycles i closed) (sum_of most i closed)
    unfolding sum_of
    sums_within i [] ordered short = record { low = omega arith; high = omega arith }
    sums_within i (s ∷ rest) ordered short = one_more _ _ _ _ _ _ (sums_within i rest ordered.1 short.1) (s.tracked && eqb s.thread i) (λ mine. within_one s ordered.0 (short.0 mine))
      where
        within_one : (s : Stretch) → s.from ≤ s.to → Short s.from s.to → Within (measure s.from s.to) (true_cycles s.from s.to) (most s.from s.to)
        within_one s o h =
            let e = ends s.from s.to in
            let exact = law s.from s.to o h in
            record { low = omega arith; high = omega arith }

        one_more : (a b c x y z : ℕ) → Within a b c → (mine : Bool) → (mine ≡ true → Within x y z) → Within (a + cond mine x 0) (b + cond mine y 0) (c + cond mine z 0)
        one_more a b c x y z h true k = let m = k refl in record { low = omega arith; high = omega arith }
        one_more a b c x y z h false k = record { low = omega arith; high = omega arith }

edge_ends : (from to : ℕ) → (off from ≤ edge from to) × (off to ≤ edge from to)
unfolding off
edge_ends from to = by_test (multiple from) (multiple to)
  where
    by_test : (a b : Bool) → (cond a 1 0 ≤ cond (a || b) 1 0) × (cond b 1 0 ≤ cond (a || b) 1 0)
    by_test true true = (omega arith, omega arith)
    by_test true false = (omega arith, omega arith)
    by_test false true = (omega arith, omega arith)
    by_test false false = (omega arith, omega arith)

-- the 32-bit stamps
pub stamp_sums : (i : ℕ) (closed : List Stretch) → Ordered closed → TotalNear i (sum_of measured i closed) closed
stamp_sums = sums_within measured off stamps_off edge edge_ends

pub stamp_chain : (time : ℕ) (times : List ℕ) → ChainOrdered time times → ChainNear (chain_of measured time times) time times
stamp_chain = chain_within measured off stamps_off edge edge_ends

-- a measure with no error at all: the sums are the true ones
pub exact_sums : (measure : ℕ → ℕ → ℕ) → ((from to : ℕ) → Short from to → measure from to ≡ true_cycles from to) → (i : ℕ) (closed : List Stretch) → Ordered closed → AllShort i closed → Within (sum_of measure i closed) (sum_of true_cycles i closed) (sum_of (λ from to. 0) i closed)
exact_sums measure exact = sums_within measure (λ time. 0) (λ from to order short. ap (λ (n : ℕ). n + 0) (exact from to short)) (λ from to. 0) (λ from to. (omega arith, omega arith))

pub stamps_near : StampsNear
stamps_near from to order short =
    let e = edge_ends from to in
    let exact = stamps_off from to order short in
    record { low = omega arith; high = omega arith }
