-- Under demand 3's premises: every period but those of the wraps since the last C is counted, so a reading is T at its C.
use Prim.Native.Nat.{ℕ, zero, suc, ◌+◌, ◌*◌, ◌≤◌, ◌<◌}
use mathlib.Core.Path.{◌≡◌, refl, sym, ap, ◌∙◌}
use mathlib.Core.Bool.{Bool, true, false, cond, ◌||◌}
use native.Mathlib.Omega.{arith}
use native.Mathlib.Nat.{add-mul, one-mul, zero-mul, suc-mul, zero-add}
use borrow.Author.Tests.{lt-ltb, le-ltb}
use lib.Dec.{ltb}
use Rattle.counter.specs.declared.Counter.{Counter}
use Rattle.counter.specs.Cycle.{run_n, wraps, cleared}
use Rattle.counter.specs.Valid.{Valid}
use Rattle.counter.proofs.Cycles.{after, valid_cleared}
use Rattle.clock.specs.declared.Timer.{Timer}
use Rattle.counter.specs.declared.Gaps.{Gaps}
use Rattle.clock.specs.Timer.{setup}
use Rattle.clock.specs.Sample.{decision, reading_of, sample_value}
use Rattle.clock.specs.Announce.{announcement}
use Rattle.clock.proofs.Run.{wraps_ac, FairHere}
use Rattle.clock.proofs.Stretches.{at_b, at_c, Stretches, stretches}

-- before, since: the real wraps up to the last C, and after it
pub record Faithful (l before since : ℕ) (t : Timer) : Type 0 where
  pub valid : Valid l t.counter
  pub total : t.counter.cycles.0 + t.counter.value ≡ t.clock.count.0 + t.clock.overflow + l + since * l
  pub flag : t.counter.flag ≡ ltb 0 since
  pub counted : t.clock.count.0 + t.clock.overflow ≡ before * l

pub at_setup : (l tick : ℕ) → 2 ≤ l → l ≤ 16777215 → Faithful l 0 0 (setup l tick)
at_setup l tick a b = record {
  valid = record { period = refl; least = a; most = b; low = omega arith; high = omega arith };
  total = omega (arith, zero-mul l);
  flag = refl;
  counted = omega (arith, zero-mul l);
}

-- the flag, or a value that rose: seen exactly where there was a wrap since the last C
seen_right : (s x y v v' n l : ℕ) → s + (x + y) ≤ 1 → v' + n ≡ v + x * l + y * l → n < l → (ltb 0 s || ltb 0 x) || ltb v v' ≡ ltb 0 (s + (x + y))
seen_right zero zero zero v v' n l h e k = le-ltb v v' (omega (arith, zero-mul l))
seen_right zero zero (suc y) v v' n l h e k =
    lt-ltb v v' (omega (arith, zero-mul l, suc-mul y l)) ∙ sym (lt-ltb 0 (0 + (0 + suc y)) (omega arith))
seen_right zero (suc x) y v v' n l h e k = simp (lt-ltb 0 (suc x) (omega arith), lt-ltb 0 (0 + (suc x + y)) (omega arith))
seen_right (suc s) x y v v' n l h e k = simp (lt-ltb 0 (suc s) (omega arith), lt-ltb 0 (suc s + (x + y)) (omega arith))

either_set : (a b : ℕ) → ltb 0 a || ltb 0 b ≡ ltb 0 (a + b)
either_set zero b = ap (ltb 0) (sym (zero-add b))
either_set (suc a) b = simp (lt-ltb 0 (suc a) (omega arith), lt-ltb 0 (suc a + b) (omega arith))

-- three numbers of periods add up to one or none
sums : (s x y l : ℕ) (b : Bool) → s + (x + y) ≡ cond b 1 0 → s * l + x * l + y * l ≡ cond b l 0
sums s x y l true n = omega (arith, add-mul s (x + y) l, add-mul x y l, ap (λ (k : ℕ). k * l) n, one-mul l)
sums s x y l false n = omega (arith, add-mul s (x + y) l, add-mul x y l, ap (λ (k : ℕ). k * l) n, zero-mul l)

-- one wrap more, or none, is one period more or none
more : (before since w l : ℕ) (b : Bool) → since + w ≡ cond b 1 0 → (before + since + w) * l ≡ before * l + cond b l 0
more before since w l true n =
    let e : before + since + w ≡ before + 1 = omega arith in
    rw e (omega (arith, add-mul before 1 l, one-mul l))
more before since w l false n =
    let e : before + since + w ≡ before = omega arith in
    rw e (omega arith)

none_or_one : (n : ℕ) → n ≤ 1 → n ≡ cond (ltb 0 n) 1 0
none_or_one zero h = refl
none_or_one (suc n) h = rw (lt-ltb 0 (suc n) (omega arith)) (omega arith)

module _ (l before since : ℕ) (t : Timer) (k : Faithful l before since t) where
  pub run_keeps : (n : ℕ) → Faithful l before (since + wraps n t.counter) (record { counter = run_n n t.counter; clock = t.clock })
  run_keeps n =
      let a = after l n t.counter k.valid in
      record {
        valid = a.valid;
        total = omega (arith, add-mul since (wraps n t.counter) l);
        flag = simp (a.flag, k.flag) (either_set since _);
        counted = k.counted;
      }

  pub announce_keeps : Faithful l before since (announcement t).timer
  announce_keeps = record { valid = k.valid; total = omega arith; flag = k.flag; counted = omega arith }

  module _ (g : Gaps) (fair : FairHere since t g) where
    abbrev a : Counter
    a = t.counter

    parts : Stretches l a g
    parts = stretches l a g k.valid

    -- a wrap is seen exactly where there was one
    found : since + wraps_ac a g ≡ cond (decision t g).wrap_detected 1 0
    found =
        let s = parts in
        let seen : (decision t g).wrap_detected ≡ ltb 0 (since + wraps_ac a g) =
        simp (s.b.flag, k.flag) (seen_right since _ _ a.value (at_c a g).value (g.p + g.q) l fair.one_wrap (omega arith) (omega (arith, fair.quick, k.valid.period))) in
        rw seen (none_or_one _ fair.one_wrap)

    pub exact : reading_of t g ≡ (at_c a g).cycles.0
    exact = by_wrap (decision t g).wrap_detected refl found
      where
        by_wrap : (wrap : Bool) → (decision t g).wrap_detected ≡ wrap → since + wraps_ac a g ≡ cond wrap 1 0 → reading_of t g ≡ (at_c a g).cycles.0
        by_wrap true e n = let s = parts in rw e (omega (arith, k.valid.period, sums _ _ _ l true n))
        by_wrap false e n = let s = parts in rw e (omega (arith, k.valid.period, sums _ _ _ l false n))

    pub sample_keeps : Faithful l (before + since + wraps_ac a g) (wraps g.r (at_c a g)) (sample_value t g).timer
    sample_keeps = by_wrap (decision t g).wrap_detected refl found
      where
        by_wrap : (wrap : Bool) → (decision t g).wrap_detected ≡ wrap → since + wraps_ac a g ≡ cond wrap 1 0 → Faithful l (before + since + wraps_ac a g) (wraps g.r (at_c a g)) (sample_value t g).timer
        by_wrap true e n =
            let s = parts in
            record {
              valid = rw e (valid_cleared s.d.valid);
              total = rw e (omega (arith, k.valid.period, sums _ _ _ l true n));
              flag = rw (e, fair.none_to_d (omega arith));
              counted = rw e (omega (arith, k.valid.period, k.counted, more before since (wraps_ac a g) l true n));
            }
        by_wrap false e n =
            let s = parts in
            record {
              valid = rw e s.d.valid;
              total = rw e (omega (arith, k.valid.period, sums _ _ _ l false n));
              flag = simp (e, s.d.flag, s.c.flag, le-ltb 0 (wraps g.q (cleared (at_b a g))) (omega arith));
              counted = rw e (omega (arith, k.counted, more before since (wraps_ac a g) l false n));
            }
