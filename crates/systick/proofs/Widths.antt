-- Ticks that an answer holds fit 32 bits, so that C may have them as such.
use Rattle.std.specs.Prelude.{Result, Ok, Err}
use Prim.Native.Nat.{ℕ, ◌-◌, ◌/◌, ◌^◌, ◌≤◌, ◌<◌}
use native.Mathlib.Omega.{arith}
use mathlib.Core.Bool.{Bool, true, false, cond}
use lib.Dec.{eqb}
use borrow.Author.Tests.{ltb-false}
use Rattle.error.specs.Numbers.{max32}
use Rattle.error.proofs.Ordered.{by_outcome}
use Rattle.systick.proofs.Bounds.{quotient_within}
use Rattle.units.specs.declared.Cycles.{Cycles}
use mathlib.Core.Path.{◌≡◌}
use Rattle.systick.specs.Leaves.{max_ticks, max_load, most_ticks, tick_tests, announce_decide}
use Rattle.systick.specs.Decisions.{announce_tests, announce_value}
use Rattle.error.specs.Said.{number_in}
use Rattle.systick.specs.Says.{max_ticks_says, announce_decide_says}
use Rattle.systick.specs.declared.AnnounceDecideResult.{AnnounceDecideResult}
use Rattle.error.specs.declared.Refusal.{Refusal}
use Rattle.units.specs.declared.Ticks.{Ticks}

below : {n : ℕ} → n ≤ max32 → n < 2 ^ 32
below h = omega arith

pub dticks_fit : (count announced : Cycles) (overflow tick : ℕ) → (announce_decide_says (announce_decide count announced overflow tick)).value.dticks.0 < 2 ^ 32
unfolding announce_decide number_in
dticks_fit count announced overflow tick =
    by_outcome Err (Ok (announce_value count announced overflow tick))
    (λ (answer : Result AnnounceDecideResult Refusal). (announce_decide_says answer).value.dticks.0 < 2 ^ 32)
    (announce_tests count announced overflow tick)
    (λ why. omega arith)
    (λ none. below (ltb-false _ _ none.1.1.1.0))

pub dticks_of_accepted : (count announced : Cycles) (overflow tick : ℕ) {d : AnnounceDecideResult} → announce_decide count announced overflow tick ≡ Ok d → d.dticks.0 < 2 ^ 32
unfolding number_in
dticks_of_accepted count announced overflow tick e = let fit = dticks_fit count announced overflow tick in rw e at fit

most_within : (tick : ℕ) (none : Bool) → cond none 0 (max_load / tick - 1) < 2 ^ 32
most_within tick true = omega arith
most_within tick false = omega (arith, quotient_within max_load tick max_load (omega arith))

pub max_ticks_below : (tick : ℕ) → (max_ticks_says (max_ticks tick)).value.0 < 2 ^ 32
unfolding max_ticks number_in
max_ticks_below tick =
    by_outcome Err (Ok (record { 0 = most_ticks tick }))
    (λ (answer : Result Ticks Refusal). (max_ticks_says answer).value.0 < 2 ^ 32)
    (tick_tests tick)
    (λ why. omega arith)
    (λ none. most_within tick (eqb (max_load / tick) 0))
