-- What the tests before a sample make sure of: nothing is refused after B, and the reading fits.
use Rattle.std.specs.Prelude.{Result, Ok}
use Prim.Native.Nat.{ℕ, ◌+◌, ◌-◌, ◌*◌, ◌≤◌}
use mathlib.Core.Path.{◌≡◌, refl, sym, ◌∙◌}
use mathlib.Core.Bool.{Bool, true, false, cond, false≢true}
use native.Mathlib.Omega.{arith}
use borrow.Author.Tests.{ltb-false}
use native.Mathlib.Nat.{one-mul, zero-mul}
use Rattle.error.specs.declared.Refusal.{Refusal}
use Rattle.error.specs.Numbers.{max32, max64}
use Rattle.systick.specs.Leaves.{elapsed_decide}
use Rattle.systick.specs.declared.ElapsedDecideResult.{ElapsedDecideResult}
use Rattle.systick.proofs.Outcomes.{decided}
use Rattle.counter.specs.declared.Counter.{Counter}
use Rattle.counter.specs.declared.SampleReadings.{SampleReadings}
use Rattle.counter.specs.Cycle.{cleared}
use Rattle.counter.specs.Entries.{readings_of}
use Rattle.counter.specs.Readings.{readings_from, cycles_of}
use Rattle.counter.specs.Valid.{Valid}
use Rattle.counter.proofs.Outcomes.{read_on, in_range_of}
use Rattle.clock.specs.declared.Timer.{Timer}
use Rattle.counter.specs.declared.Gaps.{Gaps}
use Rattle.clock.specs.declared.SampleTaken.{SampleTaken}
use Rattle.clock.specs.Timer.{accounted_for}
use Rattle.clock.specs.Sample.{decision, reading_of, taken_from, sample_value}
use Rattle.clock.specs.Entries.{Ready}
use Rattle.clock.proofs.Stretches.{at_b, at_c, Stretches, stretches}
use Rattle.clock.proofs.Owed.{Owes, short}

pub read_is : {answer : Result SampleReadings Refusal} {one other : SampleReadings} → answer ≡ Ok one → answer ≡ Ok other → one ≡ other
read_is p q = cc

-- a state that the tests let through owes a whole period while the flag is set, and otherwise anything
pub owes : (t : Timer) → Valid t.counter.period t.counter → accounted_for t ≤ t.counter.cycles.0 → (flag : Bool) → t.counter.flag ≡ flag → (slack : ℕ) × (owed : ℕ) × Owes t.counter.period slack owed t
owes t h behind true e =
    let k = rw e at behind in (
      t.counter.cycles.0 - (t.clock.count.0 + (t.clock.overflow + (t.counter.period - t.counter.value) + t.counter.period)),
      1,
      record { valid = h; total = omega (arith, k, one-mul t.counter.period); flag = λ z. omega arith },
    )
owes t h behind false e =
    let k = rw e at behind in (
      t.counter.cycles.0 - (t.clock.count.0 + (t.clock.overflow + (t.counter.period - t.counter.value))),
      0,
      record { valid = h; total = omega (arith, k, zero-mul t.counter.period); flag = λ z. absurd (false≢true (sym e ∙ z)) },
    )

module _ (t : Timer) (g : Gaps) (ready : Ready t g) where
  abbrev a : Counter
  a = t.counter

  parts : Stretches a.period a g
  parts = stretches a.period a g ready.valid

  -- the counter gives the readings: it is in range, and T stays within its limit to the end
  pub reads : readings_of a g.p g.q g.r ≡ Ok (readings_from a g.p g.q g.r)
  reads = read_on a g.p g.q g.r (in_range_of a ready.valid) ready.fits

  -- the leaf decides: v at C is within the period, and there is room for a wrap
  pub decides : elapsed_decide a.value (at_c a g).value (at_b a g).flag a.period t.clock.overflow ≡ Ok (decision t g)
  decides =
      let s = parts in
      let room : t.clock.overflow + 2 * a.period - 1 ≤ max32 = ltb-false _ _ ready.room in
      decided _ _ _ _ _ (omega arith) (omega arith)

  -- count + elapsed fits, since it is not above T
  pub reading_fits : reading_of t g ≤ max64
  reading_fits =
      let o = owes t ready.valid ready.behind _ refl in
      let below = short a.period o.0 o.1 t g o.2 _ refl in
      let s = parts in
      let fits : a.cycles.0 + cycles_of g ≤ max64 = ltb-false _ _ ready.fits in
      omega arith

  -- what the code's steps come to, one after the other, and that none of them is refused
  pub readings_are : {x : Result SampleReadings Refusal} {read : SampleReadings} → x ≡ readings_of a g.p g.q g.r → x ≡ Ok read → read ≡ readings_from a g.p g.q g.r
  readings_are p q = read_is q (p ∙ reads)

  module _ {read : SampleReadings} (er : read ≡ readings_from a g.p g.q g.r) where
    pub from_read : elapsed_decide a.value read.value read.flag a.period t.clock.overflow ≡ Ok (decision t g)
    from_read = rw er decides

    pub taken_is :
        {d : ElapsedDecideResult} {f : Counter} {s : SampleTaken} →
        d ≡ decision t g →
        f ≡ cond d.wrap_detected (cleared read.after) read.after →
        s ≡ taken_from t.clock d (t.clock.count.0 + d.elapsed) f →
        s ≡ sample_value t g
    taken_is ed ef es = rw (es, ef, er, ed)

  -- the sum of the code's last step
  pub sum_fits : {d : ElapsedDecideResult} → d ≡ decision t g → t.clock.count.0 + d.elapsed ≤ max64
  sum_fits ed = rw ed reading_fits
