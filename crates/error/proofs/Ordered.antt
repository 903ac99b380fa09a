-- Tests in order, both ways: what is answered says which tests hold.
use mathlib.Core.Path.{◌≡◌, refl, sym, ap}
use mathlib.Core.Bool.{Bool, true, false, cond}
use mathlib.Core.List.{List, [], ◌∷◌, ◌++◌}
use mathlib.Core.Logic.{inl, inr}
use Rattle.error.specs.InOrder.{Row, in_order, NoneHolds, FirstIs}

module _ {R A : Type 0} (refuse : R → A) (answer : A) where
  -- no test holds: the answer
  pub accepts : (rows : List (Row R)) → NoneHolds rows → in_order rows refuse answer ≡ answer
  accepts [] none = refl
  accepts (row ∷ rows) none = rw none.0 (accepts rows none.1)

  -- the first test that holds: its reason
  pub refuses : (rows : List (Row R)) (why : R) → FirstIs rows why → in_order rows refuse answer ≡ refuse why
  refuses [] why first = absurd first
  refuses (row ∷ rows) why (inl here) = rw (here.0, here.1)
  refuses (row ∷ rows) why (inr later) = rw later.0 (refuses rows why later.1)

  -- what holds of every refusal, and of the answer where no test holds, holds of the outcome
  pub by_outcome : (P : A → Type 0) (rows : List (Row R)) → ((why : R) → P (refuse why)) → (NoneHolds rows → P answer) → P (in_order rows refuse answer)
  by_outcome P [] refused stands = stands tt
  by_outcome P (row ∷ rows) refused stands = by_test (by_outcome P rows refused) row.0 refl
    where
      by_test : ((NoneHolds rows → P answer) → P (in_order rows refuse answer)) → (b : Bool) → row.0 ≡ b → P (cond b (refuse row.1) (in_order rows refuse answer))
      by_test rest true t = refused _
      by_test rest false t = rest (λ none. stands (t, none))

  module _ (apart : (why : R) → refuse why ≡ answer → ⊥) where
    -- what is accepted failed every test
    pub accepted_only : (rows : List (Row R)) → in_order rows refuse answer ≡ answer → NoneHolds rows
    accepted_only [] e = tt
    accepted_only (row ∷ rows) e = by_test (accepted_only rows) row.0 refl e
      where
        by_test : (in_order rows refuse answer ≡ answer → NoneHolds rows) → (b : Bool) → row.0 ≡ b → cond b (refuse row.1) (in_order rows refuse answer) ≡ answer → NoneHolds (row ∷ rows)
        by_test rest true t q = absurd (apart _ q)
        by_test rest false t q = (t, rest q)

    -- what is refused has the reason of the first test that holds
    pub refused_only : (same : (r s : R) → refuse r ≡ refuse s → r ≡ s) (rows : List (Row R)) (why : R) → in_order rows refuse answer ≡ refuse why → FirstIs rows why
    refused_only same [] why e = absurd (apart why (sym e))
    refused_only same (row ∷ rows) why e = by_test (refused_only same rows why) row.0 refl e
      where
        by_test : (in_order rows refuse answer ≡ refuse why → FirstIs rows why) → (b : Bool) → row.0 ≡ b → cond b (refuse row.1) (in_order rows refuse answer) ≡ refuse why → FirstIs (row ∷ rows) why
        by_test rest true t q = inl (t, same _ _ q)
        by_test rest false t q = inr (t, rest q)

-- a function of the outcome is the outcome of its values
pub carried : {R A B : Type 0} (f : A → B) (refuse : R → A) (answer : A) (rows : List (Row R)) → f (in_order rows refuse answer) ≡ in_order rows (λ why. f (refuse why)) (f answer)
carried f refuse answer [] = refl
carried f refuse answer (row ∷ rows) = by_test row.0 (carried f refuse answer rows)
  where
    by_test : (b : Bool) → f (in_order rows refuse answer) ≡ in_order rows (λ why. f (refuse why)) (f answer) → f (cond b (refuse row.1) (in_order rows refuse answer)) ≡ cond b (f (refuse row.1)) (in_order rows (λ why. f (refuse why)) (f answer))
    by_test true rest = refl
    by_test false rest = rest

module _ {R A : Type 0} (refuse : R → A) where
  -- an answer that is the same where no test holds
  pub same_answer : (rows : List (Row R)) (one other : A) → (NoneHolds rows → one ≡ other) → in_order rows refuse one ≡ in_order rows refuse other
  same_answer [] one other same = same tt
  same_answer (row ∷ rows) one other same = by_test (λ t. same_answer rows one other (λ none. same (t, none))) row.0 refl
    where
      by_test : (row.0 ≡ false → in_order rows refuse one ≡ in_order rows refuse other) → (b : Bool) → row.0 ≡ b → cond b (refuse row.1) (in_order rows refuse one) ≡ cond b (refuse row.1) (in_order rows refuse other)
      by_test rest true t = refl
      by_test rest false t = rest t

  -- rows after rows
  pub in_turn : (rows more : List (Row R)) (answer : A) → in_order (rows ++ more) refuse answer ≡ in_order rows refuse (in_order more refuse answer)
  in_turn [] more answer = refl
  in_turn (row ∷ rows) more answer = ap (cond row.0 (refuse row.1)) (in_turn rows more answer)
