-- A well_formed_lem counter and clock stay so over cycles, a sample and an announcement, and setup makes one.
use Prim.Native.Nat.{ℕ, ◌≤◌}
use mathlib.Core.Path.{◌≡◌, refl}
use mathlib.Core.Bool.{true, ◌&&◌}
use native.Mathlib.Omega.{arith}
use borrow.Author.Tests.{le-leb, leb-true}
use lib.Dec.{leb}
use Rattle.counter.specs.Cycle.{run_n}
use Rattle.counter.specs.Readings.{in_range}
use Rattle.counter.proofs.Outcomes.{both, in_range_of}
use Rattle.counter.specs.declared.Gaps.{Gaps}
use Rattle.clock.specs.declared.Timer.{Timer}
use Rattle.clock.specs.Timer.{well_formed, setup, GoodSetup}
use Rattle.clock.specs.Sample.{sample_value}
use Rattle.clock.specs.Announce.{announcement}
use Rattle.clock.proofs.Outcomes.{setup_facts, formed_valid, formed_behind}
use Rattle.clock.proofs.Owed.{Owes, accounted, run_owes, sample_owes}
use Rattle.clock.proofs.Sampling.{owes}
use Rattle.clock.proofs.Accounts as accounts

-- What the tests of a state come to: whole periods are owed, one at least while the flag is set, and something may lack besides.
record Formed (t : Timer) : Type 0 where
  period : ℕ
  slack : ℕ
  owed : ℕ
  owes : Owes period slack owed t
  ticks : 1 ≤ t.clock.tick

module _ (t : Timer) where
  ticks_of : well_formed t ≡ true → 1 ≤ t.clock.tick
  unfolding well_formed
  ticks_of e = leb-true 1 t.clock.tick (both (in_range t.counter) _ (both (in_range t.counter && leb 1 t.clock.tick) _ e).0).1

  -- what T has above what is accounted for is the slack
  facts : well_formed t ≡ true → Formed t
  facts e = let o = owes t (formed_valid t e) (formed_behind t e) _ refl in record { period = _; slack = o.0; owed = o.1; owes = o.2; ticks = ticks_of e }

  formed : Formed t → well_formed t ≡ true
  unfolding well_formed
  formed f = simp (in_range_of t.counter f.owes.valid, le-leb 1 t.clock.tick f.ticks) (le-leb _ _ (accounted t f.owes))

module _ (t : Timer) (e : well_formed t ≡ true) where
  abbrev before : Formed t
  before = facts t e

  -- what cycles wrap is owed
  pub run_formed : (n : ℕ) → well_formed (record { counter = run_n n t.counter; clock = t.clock }) ≡ true
  run_formed n = formed _ (record { period = _; slack = _; owed = _; owes = run_owes _ _ _ n t before.owes; ticks = before.ticks })

  -- a wrap that a sample found was owed
  pub sample_formed : (g : Gaps) → well_formed (sample_value t g).timer ≡ true
  sample_formed g =
      let next = sample_owes _ _ _ t g before.owes _ refl in
      formed _ (record { period = _; slack = _; owed = next.0; owes = next.1; ticks = before.ticks })

  -- an announcement moves the overflow into the count
  pub announcement_formed : well_formed (announcement t).timer ≡ true
  announcement_formed =
      let f = before in
      formed _ (record {
        period = f.period;
        slack = f.slack;
        owed = f.owed;
        owes = record { valid = f.owes.valid; total = omega (arith, f.owes.total); flag = f.owes.flag };
        ticks = f.ticks;
      })

pub setup_formed : (period tick : ℕ) → GoodSetup period tick → well_formed (setup period tick) ≡ true
setup_formed period tick good =
    let facts = setup_facts period tick good in
    accounts.formed period 0 (setup period tick) (accounts.at_setup period tick facts.least facts.most facts.ticks)
