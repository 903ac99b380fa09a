-- Believed: closed stretches at true times, what is measured of them, and how far the sums may be off.
use Rattle.std.specs.Prelude.{ℕ, ◌+◌, ◌-◌, ◌%◌, ◌^◌, ◌≤◌, ◌≡◌, Bool, true, cond, ◌&&◌, ◌||◌, List, [], ◌∷◌, eqb}
use Rattle.usage.specs.Formulas.{elapsed_stamps}
use Rattle.books.specs.Running.{stamp_of}

-- a closed stretch: its thread, whether that was tracked, and the true times at which it began and ended
pub record Stretch : Type 0 where
  pub thread : ℕ
  pub tracked : Bool
  pub from : ℕ
  pub to : ℕ

-- the sum of some measure over a thread's tracked stretches
unfoldable pub sum_of : (ℕ → ℕ → ℕ) → ℕ → List Stretch → ℕ
sum_of measure i [] = 0
sum_of measure i (s ∷ rest) = sum_of measure i rest + cond (s.tracked && eqb s.thread i) (measure s.from s.to) 0

abbrev pub true_cycles : ℕ → ℕ → ℕ
true_cycles from to = to - from

abbrev pub measured : ℕ → ℕ → ℕ
measured from to = elapsed_stamps (stamp_of to) (stamp_of from)

-- a stretch that begins or ends on a multiple of 2^32, whose stamp is one more than its low bits
abbrev pub edge : ℕ → ℕ → ℕ
edge from to = cond (eqb (from % 2 ^ 32) 0 || eqb (to % 2 ^ 32) 0) 1 0

abbrev pub Short : ℕ → ℕ → Type 0
Short from to = to - from ≤ 2 ^ 32 - 2

-- a thread's tracked stretches; what others do is not asked
abbrev pub AllShort : ℕ → List Stretch → Type 0
AllShort i [] = Unit {0}
AllShort i (s ∷ rest) = (s.tracked && eqb s.thread i ≡ true → Short s.from s.to) × AllShort i rest

-- the stretches of one start to its stop, by their times, the last first
abbrev pub first_of : ℕ → List ℕ → ℕ
first_of time [] = time
first_of time (t ∷ rest) = first_of t rest

abbrev pub ChainShort : ℕ → List ℕ → Type 0
ChainShort time [] = Unit {0}
ChainShort time (t ∷ rest) = Short t time × ChainShort t rest

-- two numbers differ by at most a third
pub record Within (a b most : ℕ) : Type 0 where
  pub low : a ≤ b + most
  pub high : b ≤ a + most

-- one stretch: measured less true is -1, 0 or 1, and 0 unless it begins or ends on a multiple of 2^32
abbrev pub StampsNear : Type 0
StampsNear = (from to : ℕ) → from ≤ to → Short from to → Within (measured from to) (true_cycles from to) (edge from to)

-- a thread's total misses its true tracked cycles by at most one for each of its stretches on such an edge, where none is longer than 2^32 - 2 cycles
abbrev pub TotalNear : ℕ → ℕ → List Stretch → Type 0
TotalNear i total closed = AllShort i closed → Within total (sum_of true_cycles i closed) (sum_of edge i closed)

-- all stretches since one start, summed, miss by at most one, and by none unless their whole is on such an edge, where none is longer
abbrev pub ChainNear : ℕ → ℕ → List ℕ → Type 0
ChainNear sum last times = ChainShort last times → Within sum (true_cycles (first_of last times) last) (edge (first_of last times) last)
