-- With no premises: what a run from setup keeps between its events, and what it shows at each.
use Rattle.std.specs.Prelude.{Ok}
use Prim.Native.Nat.{ℕ, ◌+◌, ◌-◌, ◌*◌, ◌/◌, ◌%◌, ◌≤◌, ◌<◌}
use mathlib.Core.Path.{◌≡◌, refl, sym, ap, ◌∙◌}
use mathlib.Core.Bool.{Bool, true, false, cond, false≢true}
use native.Mathlib.Omega.{arith}
use native.Mathlib.Nat.{add-mul, one-mul, zero-mul, div-add-mod', mod-lt, add-mul-mod_self_right, zero-mod, mul-mod_left, div-lt_iff_lt-mul, div-eq_of_lt-le}
use borrow.Author.Tests.{le-leb}
use Rattle.error.specs.Numbers.{max32, max64}
use Rattle.counter.specs.Cycle.{run_n}
use Rattle.counter.proofs.Cycles.{after}
use Rattle.counter.proofs.Outcomes.{in_range_of}
use Rattle.systick.proofs.Outcomes.{announced_now}
use Rattle.clock.specs.declared.Timer.{Timer}
use Rattle.counter.specs.declared.Gaps.{Gaps}
use Rattle.clock.specs.Timer.{well_formed, setup}
use Rattle.clock.specs.Sample.{decision, reading_of, sample_value}
use Rattle.clock.specs.Announce.{announce_of, announcement}
use Rattle.clock.proofs.Holds.{NeverAhead, Tells}
use Rattle.clock.proofs.Outcomes.{announced_by, announce_decided}
use Rattle.clock.proofs.Stretches.{at_c, Stretches, stretches}
use Rattle.clock.proofs.Owed.{Owes, accounted, run_owes, short, sample_owes}
use Rattle.clock.proofs.Steps.{SampleLet}

-- seen: the samples so far that answered a wrap
pub record Accounts (l seen : ℕ) (t : Timer) : Type 0 where
  pub owed : ℕ
  pub owes : Owes l 0 owed t
  pub fits : t.counter.cycles.0 ≤ max64
  pub room : t.clock.overflow ≤ max32
  pub ticks : 1 ≤ t.clock.tick
  pub periods : t.clock.count.0 + t.clock.overflow ≡ seen * l
  pub multiple : t.clock.announced.0 % t.clock.tick ≡ 0
  pub within : t.clock.announced.0 ≤ t.clock.count.0
  pub near : t.clock.count.0 < t.clock.announced.0 + t.clock.tick
  pub low : t.clock.count.0 + t.clock.overflow ≤ t.clock.last.0
  pub high : t.clock.last.0 < t.clock.count.0 + t.clock.overflow + l

pub at_setup : (l tick : ℕ) → 2 ≤ l → l ≤ 16777215 → 1 ≤ tick → Accounts l 0 (setup l tick)
at_setup l tick a b p = record {
  owed = 0;
  owes = record {
    valid = record { period = refl; least = a; most = b; low = omega arith; high = omega arith };
    total = omega (arith, zero-mul l);
    flag = λ set. absurd (false≢true set);
  };
  fits = omega arith;
  room = omega arith;
  ticks = p;
  periods = omega (arith, zero-mul l);
  multiple = zero-mod tick;
  within = omega arith;
  near = omega arith;
  low = omega arith;
  high = omega arith;
}

module _ (l seen : ℕ) (t : Timer) (k : Accounts l seen t) where
  pub run_keeps : (n : ℕ) → t.counter.cycles.0 + n ≤ max64 → Accounts l seen (record { counter = run_n n t.counter; clock = t.clock })
  run_keeps n h =
      let a = after l n t.counter k.owes.valid in
      record {
        owed = _;
        owes = run_owes l 0 k.owed n t k.owes;
        fits = omega arith;
        room = k.room;
        ticks = k.ticks;
        periods = k.periods;
        multiple = k.multiple;
        within = k.within;
        near = k.near;
        low = k.low;
        high = k.high;
      }

  -- the state is never taken for malformed
  pub formed : well_formed t ≡ true
  unfolding well_formed
  formed = simp (in_range_of t.counter k.owes.valid, le-leb 1 t.clock.tick k.ticks) (le-leb _ _ (accounted t k.owes))

  module _ (g : Gaps) where
    parts : Stretches l t.counter g
    parts = stretches l t.counter g k.owes.valid

    pub never_ahead : NeverAhead l (reading_of t g) (at_c t.counter g).cycles.0
    never_ahead =
        let behind = short l 0 k.owed t g k.owes _ refl in
        let difference : (at_c t.counter g).cycles.0 - reading_of t g ≡ behind.0 * l = omega arith in
        record { below = omega arith; whole = rw difference (mul-mod_left behind.0 l) }

    pub sample_keeps : SampleLet t g → (wrap : Bool) → (decision t g).wrap_detected ≡ wrap → Accounts l (seen + cond wrap 1 0) (sample_value t g).timer
    sample_keeps h true e =
        let s = parts in
        let next = sample_owes l 0 k.owed t g k.owes true e in
        record {
          owed = next.0;
          owes = next.1;
          fits = rw e (omega (arith, h.fits));
          room = rw e (omega (arith, h.room, k.owes.valid.period, k.owes.valid.least));
          ticks = k.ticks;
          periods = rw e (omega (arith, k.owes.valid.period, add-mul seen 1 l, one-mul l));
          multiple = k.multiple;
          within = k.within;
          near = k.near;
          low = rw e (omega arith);
          high = rw e (omega (arith, k.owes.valid.period, s.c.valid.low, s.c.valid.high));
        }
    sample_keeps h false e =
        let s = parts in
        let next = sample_owes l 0 k.owed t g k.owes false e in
        record {
          owed = next.0;
          owes = next.1;
          fits = rw e (omega (arith, h.fits));
          room = rw e k.room;
          ticks = k.ticks;
          periods = rw e (omega (arith, add-mul seen 0 l, zero-mul l));
          multiple = k.multiple;
          within = k.within;
          near = k.near;
          low = rw e (omega arith);
          high = rw e (omega (arith, k.owes.valid.period, s.c.valid.low, s.c.valid.high));
        }

  abbrev new : ℕ
  new = t.clock.count.0 + t.clock.overflow

  -- the ticks due are few, since at the last announcement less than a tick was left over
  due_fit : (new - t.clock.announced.0) / t.clock.tick ≤ max32
  due_fit =
      let below : (new - t.clock.announced.0) / t.clock.tick < 4294967296 = (div-lt_iff_lt-mul {k = t.clock.tick} k.ticks).1 (omega arith) in
      omega arith

  pub accepts : announce_of t ≡ Ok (announcement t)
  unfolding announced_by
  accepts =
      announce_decided t formed ∙
      ap (announced_by t) (announced_now t.clock.count t.clock.announced t.clock.overflow t.clock.tick k.ticks (omega (arith, k.owes.total, k.owes.valid.high)) (omega arith) due_fit)

  -- what is then announced, and that it is the largest multiple within the new count
  abbrev told : ℕ
  told = t.clock.announced.0 + (new - t.clock.announced.0) / t.clock.tick * t.clock.tick

  due : (told ≤ new) × (new < told + t.clock.tick)
  due =
      let whole = div-add-mod' (new - t.clock.announced.0) t.clock.tick in
      let rest = mod-lt (new - t.clock.announced.0) k.ticks in
      (omega arith, omega arith)

  multiple_told : told % t.clock.tick ≡ 0
  multiple_told = rw add-mul-mod_self_right k.multiple

  -- the new count is every whole period within the last reading
  whole_periods : new ≡ t.clock.last.0 / l * l
  whole_periods = k.periods ∙ ap (λ (n : ℕ). n * l) (sym (div-eq_of_lt-le l (let e = k.periods in let h = k.low in omega arith) (let e = k.periods in let h = k.high in omega (arith, add-mul seen 1 l, one-mul l))))

  pub tells : Tells l t.clock.tick told new t.clock.last.0 seen
  tells =
      let near = due in
      let e = whole_periods in
      record {
        largest = record { multiple = multiple_told; within = omega arith; largest = omega arith; lag = omega (arith, k.owes.valid.least) };
        periods = k.periods;
        whole = e;
      }

  pub announce_keeps : Accounts l seen (announcement t).timer
  announce_keeps =
      let near = due in
      record {
        owed = k.owed;
        owes = record { valid = k.owes.valid; total = omega (arith, k.owes.total); flag = k.owes.flag };
        fits = k.fits;
        room = omega arith;
        ticks = k.ticks;
        periods = omega (arith, k.periods);
        multiple = multiple_told;
        within = near.0;
        near = near.1;
        low = omega arith;
        high = omega arith;
      }
