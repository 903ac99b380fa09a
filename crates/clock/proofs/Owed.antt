-- With no premises: whole periods may be owed to the clock, but it never counts one that did not run.
use Prim.Native.Nat.{ℕ, zero, suc, ◌+◌, ◌-◌, ◌*◌, ◌≤◌}
use mathlib.Core.Path.{◌≡◌, refl, sym, ◌∙◌}
use mathlib.Core.Bool.{Bool, true, false, ◌||◌, false≢true}
use native.Mathlib.Omega.{arith}
use native.Mathlib.Nat.{add-mul, zero-mul, suc-mul}
use borrow.Author.Tests.{ltb-true}
use lib.Dec.{ltb}
use Rattle.counter.specs.declared.Counter.{Counter}
use Rattle.counter.specs.Cycle.{run_n, wraps, cleared}
use Rattle.counter.specs.Valid.{Valid}
use Rattle.counter.proofs.Cycles.{after, valid_cleared}
use Rattle.clock.specs.declared.Timer.{Timer}
use Rattle.counter.specs.declared.Gaps.{Gaps}
use Rattle.clock.specs.Timer.{accounted_for}
use Rattle.clock.specs.Sample.{decision, reading_of, sample_value}
use Rattle.clock.proofs.Stretches.{at_b, at_c, Stretches, stretches}

-- owed: the periods of l cycles that ran and are not counted; one at least while the flag is set.
-- slack: what a state that was handed in lacks besides, 0 in a run from setup
pub record Owes (l slack owed : ℕ) (t : Timer) : Type 0 where
  pub valid : Valid l t.counter
  pub total : t.counter.cycles.0 + t.counter.value ≡ t.clock.count.0 + t.clock.overflow + l + owed * l + slack
  pub flag : t.counter.flag ≡ true → 1 ≤ owed

-- a period at least is owed
a_period : (owed l : ℕ) → 1 ≤ owed → l ≤ owed * l
a_period zero l h = omega arith
a_period (suc n) l h = omega (arith, suc-mul n l)

-- what is accounted for is not above T: a set flag stands for a period that is owed
pub accounted : {l slack owed : ℕ} (t : Timer) → Owes l slack owed t → accounted_for t ≤ t.counter.cycles.0
accounted {l} {slack} {owed} t k = by_flag t.counter.flag refl
  where
    by_flag : (flag : Bool) → t.counter.flag ≡ flag → accounted_for t ≤ t.counter.cycles.0
    by_flag true e = rw e (omega (arith, k.valid.period, k.total, a_period owed l (k.flag e)))
    by_flag false e = rw e (omega (arith, k.valid.period, k.total))

-- a flag that is set in some cycles, or was before
set_flag : (before now : Bool) (m x : ℕ) → (before ≡ true → 1 ≤ m) → now ≡ before || ltb 0 x → now ≡ true → 1 ≤ m + x
set_flag true now m x h e set = omega (arith, h refl)
set_flag false now m x h e set = omega (arith, ltb-true 0 x (sym e ∙ set))

-- a wrap that is seen is owed
seen_owed : (flag : Bool) (m y v v' n l : ℕ) → (flag ≡ true → 1 ≤ m) → v' + n ≤ v + (m + y) * l → flag || ltb v v' ≡ true → 1 ≤ m + y
seen_owed true m y v v' n l h e seen = omega (arith, h refl)
seen_owed false zero zero v v' n l h e seen = omega (arith, ltb-true v v' seen, zero-mul l)
seen_owed false zero (suc y) v v' n l h e seen = omega arith
seen_owed false (suc m) y v v' n l h e seen = omega arith

down : (n l : ℕ) → 1 ≤ n → n * l ≡ (n - 1) * l + l
down zero l h = omega arith
down (suc n) l h = let e : suc n - 1 ≡ n = omega arith in rw e (suc-mul n l)

-- cycles alone: what they wrap is owed
pub run_owes : (l slack m n : ℕ) (t : Timer) → Owes l slack m t → Owes l slack (m + wraps n t.counter) (record { counter = run_n n t.counter; clock = t.clock })
run_owes l slack m n t k =
    let a = after l n t.counter k.valid in
    record {
      valid = a.valid;
      total = omega (arith, add-mul m (wraps n t.counter) l);
      flag = set_flag t.counter.flag _ m _ k.flag a.flag;
    }

module _ (l slack m : ℕ) (t : Timer) (g : Gaps) (k : Owes l slack m t) where
  abbrev a : Counter
  a = t.counter

  -- the periods owed at C
  pub owed_c : ℕ
  owed_c = m + wraps g.p a + wraps g.q (cleared (at_b a g))

  parts : Stretches l a g
  parts = stretches l a g k.valid

  product : owed_c * l ≡ m * l + wraps g.p a * l + wraps g.q (cleared (at_b a g)) * l
  unfolding owed_c
  product = simp add-mul

  one : (decision t g).wrap_detected ≡ true → 1 ≤ owed_c
  unfolding owed_c
  one e =
      let s = parts in
      seen_owed (at_b a g).flag (m + wraps g.p a) _ a.value (at_c a g).value (g.p + g.q) l
      (set_flag a.flag _ m (wraps g.p a) k.flag s.b.flag)
      (omega (arith, product))
      e

  -- the reading falls short of T at C by whole periods, and by what the state lacked
  pub short : (wrap : Bool) → (decision t g).wrap_detected ≡ wrap → (d : ℕ) × (reading_of t g + d * l + slack ≡ (at_c a g).cycles.0)
  short true e = let s = parts in (owed_c - 1, rw e (omega (arith, k.valid.period, product, down owed_c l (one e))))
  short false e = let s = parts in (owed_c, rw e (omega (arith, k.valid.period, product)))

  flag_c : (at_c a g).flag ≡ true → 1 ≤ owed_c
  unfolding owed_c
  flag_c = set_flag false _ (m + wraps g.p a) _ (λ z. absurd (false≢true z)) parts.c.flag

  -- after a sample a period fewer is owed where a wrap was seen
  pub sample_owes : (wrap : Bool) → (decision t g).wrap_detected ≡ wrap → (owed : ℕ) × Owes l slack owed (sample_value t g).timer
  sample_owes true e =
      let s = parts in (
        owed_c - 1 + wraps g.r (at_c a g),
        record {
          valid = rw e (valid_cleared s.d.valid);
          total = rw e (omega (arith, k.valid.period, product, down owed_c l (one e), add-mul (owed_c - 1) (wraps g.r (at_c a g)) l));
          flag = rw e (λ z. absurd (false≢true z));
        },
      )
  sample_owes false e =
      let s = parts in (
        owed_c + wraps g.r (at_c a g),
        record {
          valid = rw e s.d.valid;
          total = rw e (omega (arith, k.valid.period, product, add-mul owed_c (wraps g.r (at_c a g)) l));
          flag = rw e (set_flag (at_c a g).flag _ owed_c (wraps g.r (at_c a g)) flag_c s.d.flag);
        },
      )
