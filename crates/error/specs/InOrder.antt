-- Believed: tests in order. The first that holds refuses with its reason; where none holds, the answer stands.
use Rattle.std.specs.Prelude.{Bool, true, false, cond, List, [], ◌∷◌, ◌≡◌, ◌⊎◌}

-- a test, and the reason to refuse where it holds
abbrev pub Row : Type 0 → Type 0
Row R = Bool × R

abbrev pub in_order : {R A : Type 0} → List (Row R) → (R → A) → A → A
in_order [] refuse answer = answer
in_order (row ∷ rows) refuse answer = cond row.0 (refuse row.1) (in_order rows refuse answer)

-- no test holds
abbrev pub NoneHolds : {R : Type 0} → List (Row R) → Type 0
NoneHolds [] = Unit {0}
NoneHolds (row ∷ rows) = (row.0 ≡ false) × NoneHolds rows

-- the first test that holds has this reason
abbrev pub FirstIs : {R : Type 0} → List (Row R) → R → Type 0
FirstIs [] why = ⊥
FirstIs (row ∷ rows) why = ((row.0 ≡ true) × (row.1 ≡ why)) ⊎ ((row.0 ≡ false) × FirstIs rows why)
