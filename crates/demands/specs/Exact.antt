-- Believed: what it is to answer exactly. Each answer comes if and only if its own condition holds.
use Rattle.std.specs.Prelude.{◌≡◌, List, ◌↔◌, ◌⊎◌}
use Rattle.error.specs.declared.Refusal.{Refusal}
use Rattle.error.specs.declared.Refusal.TheVariants.{Invalid, Overflow}
use Rattle.error.specs.InOrder.{Row, NoneHolds, FirstIs}

-- accepted exactly where `Fits`, with `value`; -22 exactly where `Bad`; -139 exactly where `Over`; one of the three holds
pub record Exact {Answer Value : Type 0} (accept : Value → Answer) (refuse : Refusal → Answer) (outcome : Answer) (Fits : Type 0) (value : Value) (Bad Over : Type 0) : Type 0 where
  pub accepted : (outcome ≡ accept value) ↔ Fits
  pub invalid : (outcome ≡ refuse Invalid) ↔ Bad
  pub overflow : (outcome ≡ refuse Overflow) ↔ Over
  pub nothing_else : Fits ⊎ (Bad ⊎ Over)

-- refused with the reason of the first test that holds, and accepted with `value` where none does
pub record ByRows {Reason Answer Value : Type 0} (accept : Value → Answer) (refuse : Reason → Answer) (outcome : Answer) (rows : List (Row Reason)) (value : Value) : Type 0 where
  pub refused : (why : Reason) → (outcome ≡ refuse why) ↔ FirstIs rows why
  pub accepted : (outcome ≡ accept value) ↔ NoneHolds rows
