-- The clock's onlooker counts as 01's counter does, run from setup and never looked at.
use Rattle.std.specs.Prelude.{Result, Ok}
use Prim.Native.Nat.{ℕ, ◌+◌, ◌/◌, ◌<◌}
use mathlib.Core.Path.{◌≡◌, refl, sym, ap, ◌∙◌, subst}
use mathlib.Core.Bool.{Bool, true, false, cond}
use native.Mathlib.Omega.{arith}
use Rattle.counter.specs.declared.Counter.{Counter}
use Rattle.counter.specs.Cycle.{fresh_counter, run_n, wraps, cleared}
use Rattle.counter.specs.Entries.{ran_of}
use Rattle.counter.proofs.Cycles.{wraps_div}
use Rattle.counter.proofs.Running.{Alike, clearing, alike_run, alike_wraps, run_on, wraps_on, cycles_run, period_run}
use Rattle.counter.specs.declared.Gaps.{Gaps}
use Rattle.clock.specs.Timer.{GoodSetup}
use Rattle.counter.specs.Readings.{cycles_of}
use Rattle.clock.specs.Sample.{decision, sample_value}
use Rattle.clock.specs.Entries.{sample_of}
use Rattle.clock.proofs.Outcomes.{setup_facts}
use Rattle.clock.proofs.Stretches.{at_b, at_c}
use Rattle.clock.proofs.Run as clock
use Rattle.clock.proofs.Steps.{announced_by}
use Rattle.demands.specs.Trace.{time_c, wraps_by, FairSample}
use Rattle.clock.specs.declared.Announcement.{Announcement}
use Rattle.error.specs.declared.Refusal.{Refusal}

pub record Tracks (period ran at_c : ℕ) (x : clock.World) : Type 0 where
  pub alike : Alike x.timer.counter (run_n ran (fresh_counter period))
  pub at_c_is : x.cycles_c ≡ at_c
  pub before : x.before ≡ wraps_by period at_c
  pub wraps_all : x.before + x.since ≡ wraps_by period ran

module _ (period : ℕ) where
  -- n cycles more
  moves : (ran n : ℕ) {c : Counter} → Alike c (run_n ran (fresh_counter period)) → Alike (run_n n c) (run_n (ran + n) (fresh_counter period))
  moves ran n h = subst (Alike (run_n n _)) (sym (run_on ran n (fresh_counter period))) (alike_run n h)

  wraps_more : (ran n : ℕ) {c : Counter} → Alike c (run_n ran (fresh_counter period)) → wraps_by period (ran + n) ≡ wraps_by period ran + wraps n c
  wraps_more ran n h = wraps_on ran n (fresh_counter period) ∙ ap (λ (k : ℕ). wraps_by period ran + k) (sym (alike_wraps n h))

  module _ (ran last : ℕ) (x : clock.World) (k : Tracks period ran last x) where
    abbrev a : Counter
    a = x.timer.counter

    pub cycles_are : a.cycles.0 ≡ ran
    cycles_are = let c = k.alike.cycles in let n = cycles_run ran (fresh_counter period) in omega arith

    pub period_is : a.period ≡ period
    period_is = k.alike.period ∙ period_run ran (fresh_counter period)

    pub tracks_run : (n : ℕ) → ran_of a n ≡ Ok (run_n n a) → Tracks period (ran + n) last (clock.step (clock.run n) x)
    unfolding clock.step
    tracks_run n accepted =
        let all = k.wraps_all in
        let more = wraps_more ran n k.alike in
        rw accepted (record { alike = moves ran n k.alike; at_c_is = k.at_c_is; before = k.before; wraps_all = omega arith })

    pub tracks_announce : Tracks period ran last (clock.step clock.announce x)
    unfolding clock.step
    tracks_announce =
        announced_by x.timer (λ (o : Result Announcement Refusal). Tracks period ran last (clock.after_announce x o)) (λ why. k)
        (λ let_through. record { alike = k.alike; at_c_is = k.at_c_is; before = k.before; wraps_all = k.wraps_all })

    module _ (g : Gaps) where
      to_b : Alike (at_b a g) (run_n (ran + g.p) (fresh_counter period))
      to_b = moves ran g.p k.alike

      pub to_c : Alike (at_c a g) (run_n (time_c ran g) (fresh_counter period))
      to_c =
          let e : ran + g.p + g.q ≡ time_c ran g = omega arith in
          subst (λ (n : ℕ). Alike (at_c a g) (run_n n (fresh_counter period))) e (moves (ran + g.p) g.q (clearing to_b))

      to_d : Alike (run_n g.r (at_c a g)) (run_n (ran + cycles_of g) (fresh_counter period))
      to_d =
          let e : time_c ran g + g.r ≡ ran + cycles_of g = omega arith in
          subst (λ (n : ℕ). Alike (run_n g.r (at_c a g)) (run_n n (fresh_counter period))) e (moves (time_c ran g) g.r to_c)

      pub time_is : (at_c a g).cycles.0 ≡ time_c ran g
      time_is = let c = to_c.cycles in let n = cycles_run (time_c ran g) (fresh_counter period) in omega arith

      -- the real wraps by C, and by D
      by_c : wraps_by period (time_c ran g) ≡ wraps_by period ran + clock.wraps_ac a g
      by_c =
          let e : ran + g.p + g.q ≡ time_c ran g = omega arith in
          let b = wraps_more ran g.p k.alike in
          let c = subst (λ (n : ℕ). wraps_by period n ≡ wraps_by period (ran + g.p) + wraps g.q (cleared (at_b a g))) e (wraps_more (ran + g.p) g.q (clearing to_b)) in
          omega arith

      by_d : wraps_by period (ran + cycles_of g) ≡ wraps_by period (time_c ran g) + wraps g.r (at_c a g)
      by_d =
          let e : time_c ran g + g.r ≡ ran + cycles_of g = omega arith in
          subst (λ (n : ℕ). wraps_by period n ≡ wraps_by period (time_c ran g) + wraps g.r (at_c a g)) e (wraps_more (time_c ran g) g.r to_c)

      left : (wrap : Bool) → Alike (cond wrap (cleared (run_n g.r (at_c a g))) (run_n g.r (at_c a g))) (run_n (ran + cycles_of g) (fresh_counter period))
      left true = clearing to_d
      left false = to_d

      pub tracks_sample : sample_of x.timer g ≡ Ok (sample_value x.timer g) → Tracks period (ran + cycles_of g) (time_c ran g) (clock.step (clock.sample g) x)
      unfolding clock.step
      tracks_sample accepted =
          let all = k.wraps_all in
          let c = by_c in
          let d = by_d in
          rw accepted (record { alike = left (decision x.timer g).wrap_detected; at_c_is = time_is; before = omega arith; wraps_all = omega arith })

      pub fair_sample : FairSample period ran last g → clock.FairHere x.since x.timer g
      fair_sample fair =
          let all = k.wraps_all in
          let b = k.before in
          let c = by_c in
          let d = by_d in
          let p = period_is in
          record {
            quick = let q = fair.quick in omega arith;
            one_wrap = let o = fair.one_wrap in omega arith;
            none_to_d = λ some. let none = fair.none_to_d (omega arith) in omega arith;
          }

-- a counter from setup wraps once a period
module _ (period tick : ℕ) (good : GoodSetup period tick) where
  pub above : 0 < period
  above = let facts = setup_facts period tick good in omega (arith, facts.least)

  pub wraps_are : (n : ℕ) → wraps_by period n ≡ n / period
  wraps_are n =
      let facts = setup_facts period tick good in
      let least = facts.least in
      wraps_div period n (fresh_counter period) (record { period = refl; least = least; most = facts.most; low = omega (arith, least); high = omega arith }) ∙ ap (λ (k : ℕ). k / period) (omega arith)
