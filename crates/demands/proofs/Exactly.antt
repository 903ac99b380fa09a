-- Answering exactly: from the three outcomes of a leaf, which leave nothing out and differ; by the rows of an entry; and as it is read.
use Prim.Native.Nat.{ℕ, ◌≤◌, ◌<◌}
use mathlib.Core.Path.{◌≡◌, refl, sym, ap, ◌∙◌}
use mathlib.Core.Bool.{Bool, true, false}
use mathlib.Core.List.{List}
use mathlib.Core.Logic.{◌⊎◌, inl, inr, ⊎_elim}
use native.Mathlib.Omega.{arith}
use lib.Dec.{leb}
use lib.IntN.{ℤ}
use lib.Signed.{mag}
use borrow.Author.Tests.{leb-true, leb-false}
use Rattle.error.specs.declared.Refusal.{Refusal}
use Rattle.error.specs.declared.Refusal.TheVariants.{Invalid, Overflow}
use Rattle.error.specs.Numbers.{ok, minus}
use Rattle.error.specs.InOrder.{Row, in_order}
use Rattle.error.specs.Said.{Said, accepted, refused}
use Rattle.error.proofs.Ordered.{accepts, refuses, accepted_only, refused_only}
use Rattle.demands.specs.Exact.{Exact, ByRows}

-- one number is not above another, or it is
pub either : (a b : ℕ) → (a ≤ b) ⊎ (b < a)
either a b = by_test (leb a b) refl
  where
    by_test : (t : Bool) → leb a b ≡ t → (a ≤ b) ⊎ (b < a)
    by_test true e = inl (leb-true _ _ e)
    by_test false e = inr (leb-false _ _ e)

module _ {Answer Value : Type 0} (accept : Value → Answer) (refuse : Refusal → Answer) {outcome : Answer} {Fits Bad Over : Type 0} {value : Value} where
  pub exactly :
      ((why : Refusal) → accept value ≡ refuse why → ⊥) →
      (refuse Invalid ≡ refuse Overflow → ⊥) →
      Fits ⊎ (Bad ⊎ Over) →
      (Fits → outcome ≡ accept value) →
      (Bad → outcome ≡ refuse Invalid) →
      (Over → outcome ≡ refuse Overflow) →
      Exact accept refuse outcome Fits value Bad Over
  exactly apart differ cases fits bad over = record {
    accepted = (λ q. ⊎_elim (λ f. f) (⊎_elim (λ b. absurd (apart Invalid (sym q ∙ bad b))) (λ o. absurd (apart Overflow (sym q ∙ over o)))) cases, fits);
    invalid = (λ q. ⊎_elim (λ f. absurd (apart Invalid (sym (fits f) ∙ q))) (⊎_elim (λ b. b) (λ o. absurd (differ (sym q ∙ over o)))) cases, bad);
    overflow = (λ q. ⊎_elim (λ f. absurd (apart Overflow (sym (fits f) ∙ q))) (⊎_elim (λ b. absurd (differ (sym (bad b) ∙ q))) (λ o. o)) cases, over);
    nothing_else = cases;
  }

module _ {Reason Answer Value : Type 0} (accept : Value → Answer) (refuse : Reason → Answer) (rows : List (Row Reason)) (value : Value) where
  pub by_rows : ((why : Reason) → refuse why ≡ accept value → ⊥) → ((r s : Reason) → refuse r ≡ refuse s → r ≡ s) → ByRows accept refuse (in_order rows refuse (accept value)) rows value
  by_rows apart same = record {
    refused = λ why. (refused_only refuse (accept value) apart same rows why, refuses refuse (accept value) rows why);
    accepted = (accepted_only refuse (accept value) apart rows, accepts refuse (accept value) rows);
  }

-- what a definition says of an answer, case by case
pub record SaysOf {Answer Value : Type 0} (accept : Value → Answer) (refuse : Refusal → Answer) (says : Answer → Said Value) (zeros : Value) : Type 0 where
  pub of_accepted : (v : Value) → says (accept v) ≡ accepted v
  pub of_refused : (why : Refusal) → says (refuse why) ≡ refused why zeros

-- an exact answer as it is read: the numbers of the three differ
apart : {n a b : ℤ} → (mag a ≡ mag b → ⊥) → n ≡ a → n ≡ b → ⊥
apart differ p q = differ (ap mag (sym p ∙ q))

module _ {Answer Value : Type 0} {accept : Value → Answer} {refuse : Refusal → Answer} {says : Answer → Said Value} {zeros : Value} (reads : SaysOf accept refuse says zeros) {outcome : Answer} {Fits Bad Over : Type 0} {value : Value} (exact : Exact accept refuse outcome Fits value Bad Over) where
  pub said : Fits → says outcome ≡ accepted value
  said fits = ap says (exact.accepted.1 fits) ∙ reads.of_accepted value

  pub said_bad : Bad → says outcome ≡ refused Invalid zeros
  said_bad bad = ap says (exact.invalid.1 bad) ∙ reads.of_refused Invalid

  pub said_over : Over → says outcome ≡ refused Overflow zeros
  said_over over = ap says (exact.overflow.1 over) ∙ reads.of_refused Overflow

  pub fits : (says outcome).number ≡ ok → Fits
  fits n = ⊎_elim (λ f. f) (⊎_elim (λ b. absurd (apart {b = minus 22} (λ e. omega arith) n (ap (λ s. s.number) (said_bad b)))) (λ o. absurd (apart {b = minus 139} (λ e. omega arith) n (ap (λ s. s.number) (said_over o))))) exact.nothing_else

  -- an accepted answer fits, and is the value
  pub given : (v : Value) → outcome ≡ accept v → Fits × (v ≡ value)
  given v e =
      let read = ap says e ∙ reads.of_accepted v in
      let fit = fits (ap (λ s. s.number) read) in
      (fit, ap (λ s. s.value) (sym read ∙ said fit))
