-- Each outcome of each entry of the clock, from the facts that bring it about.
use Rattle.std.specs.Prelude.{Result, Ok, Err}
use Prim.Native.Nat.{ℕ, ◌+◌, ◌-◌, ◌≤◌, ◌<◌}
use mathlib.Core.Path.{◌≡◌, refl, sym, ap, ◌∙◌}
use mathlib.Core.Bool.{Bool, true, false, not, ◌&&◌}
use native.Mathlib.Omega.{arith}
use borrow.Author.Tests.{lt-leb, le-leb, leb-true, leb-false, eqb-false}
use lib.Dec.{leb, eqb}
use Rattle.error.proofs.Tests.{clash}
use Rattle.error.specs.declared.Refusal.{Refusal}
use Rattle.error.specs.declared.Refusal.TheVariants.{Invalid, Again, Overflow}
use Rattle.error.proofs.Ordered.{carried}
use Rattle.systick.specs.Leaves.{announce_decide}
use Rattle.systick.specs.Decisions.{announce_tests, announce_value}
use Rattle.systick.specs.declared.AnnounceDecideResult.{AnnounceDecideResult}
use Rattle.counter.specs.declared.Counter.{Counter}
use Rattle.counter.specs.Cycle.{fresh_counter}
use Rattle.counter.specs.Entries.{started_of}
use Rattle.counter.specs.Readings.{good_period, in_range, cycles_above, cycles_of}
use Rattle.counter.specs.Valid.{Valid}
use Rattle.counter.proofs.Outcomes.{both, period_bounds, good_of_bounds, valid_of, started_good}
use Rattle.clock.specs.declared.Timer.{Timer}
use Rattle.counter.specs.declared.Gaps.{Gaps}
use Rattle.clock.specs.declared.Announcement.{Announcement}
use Rattle.clock.specs.Timer.{setup, GoodSetup, accounted_for, well_formed}
use Rattle.clock.specs.Entries.{set_up, sample_of, Ready}
use Rattle.clock.specs.Sample.{crowded, sample_value}
use Rattle.clock.specs.Announce.{announce_of, announcement_from}

-- a test of a sum against a limit, when one part is taken off the limit first
pub shifted : (a b limit : ℕ) → b ≤ limit → leb a (limit - b) ≡ leb (a + b) limit
shifted a b limit h = by_test (leb (a + b) limit) refl
  where
    by_test : (t : Bool) → leb (a + b) limit ≡ t → leb a (limit - b) ≡ leb (a + b) limit
    by_test true e = let k : a + b ≤ limit = leb-true _ _ e in le-leb a (limit - b) (omega arith) ∙ sym e
    by_test false e = let k : limit < a + b = leb-false _ _ e in lt-leb a (limit - b) (omega arith) ∙ sym e

pub past : (a b limit : ℕ) → limit < b → false ≡ leb (a + b) limit
past a b limit h = sym (lt-leb (a + b) limit (omega arith))

-- what the test of a setup makes sure of
pub record SetupFacts (period tick : ℕ) : Type 0 where
  pub least : 2 ≤ period
  pub most : period ≤ 16777215
  pub ticks : 1 ≤ tick

module _ (period tick : ℕ) where
  pub set_up_lem : GoodSetup period tick → set_up period tick ≡ Ok (setup period tick)
  unfolding set_up
  set_up_lem e = rw e refl

  pub setup_facts : GoodSetup period tick → SetupFacts period tick
  setup_facts = by_tests (good_period period) refl (eqb tick 0) refl
    where
      by_tests : (good : Bool) → good_period period ≡ good → (none : Bool) → eqb tick 0 ≡ none → not (good && not none) ≡ false → SetupFacts period tick
      by_tests true g false z e = let bounds = period_bounds period g in let some = eqb-false tick 0 z in record { least = bounds.0; most = bounds.1; ticks = omega arith }
      by_tests true g true z e = clash (cc)
      by_tests false g none z e = clash (cc)

module _ (t : Timer) where
  -- the tests of a state, as the code makes them
  pub formed : (not-ahead : Bool) → in_range t.counter ≡ true → not-ahead ≡ leb (accounted_for t) t.counter.cycles.0 → leb 1 t.clock.tick && not-ahead ≡ well_formed t
  unfolding well_formed
  formed not-ahead e l = simp (e, l)

  -- and what they tell
  pub formed_valid : well_formed t ≡ true → Valid t.counter.period t.counter
  unfolding well_formed
  formed_valid e = valid_of t.counter (both _ _ (both (in_range t.counter && leb 1 t.clock.tick) _ e).0).0

  pub formed_behind : well_formed t ≡ true → accounted_for t ≤ t.counter.cycles.0
  unfolding well_formed
  formed_behind e = leb-true _ _ (both (in_range t.counter && leb 1 t.clock.tick) (leb (accounted_for t) t.counter.cycles.0) e).1

module _ (t : Timer) (g : Gaps) where
  pub malformed : well_formed t ≡ false → sample_of t g ≡ Err Invalid
  unfolding sample_of
  malformed e = simp e

  pub announce_first : well_formed t ≡ true → crowded t ≡ true → sample_of t g ≡ Err Again
  unfolding sample_of
  announce_first e h = simp (e, h)

  pub cycles_above_lem : well_formed t ≡ true → crowded t ≡ false → cycles_above t.counter (cycles_of g) ≡ true → sample_of t g ≡ Err Overflow
  unfolding sample_of
  cycles_above_lem e a h = simp (e, a, h)

  pub sampled : well_formed t ≡ true → crowded t ≡ false → cycles_above t.counter (cycles_of g) ≡ false → sample_of t g ≡ Ok (sample_value t g)
  unfolding sample_of
  sampled e a b = simp (e, a, b)

  pub ready : well_formed t ≡ true → crowded t ≡ false → cycles_above t.counter (cycles_of g) ≡ false → Ready t g
  ready e a b = record { valid = formed_valid t e; behind = formed_behind t e; room = a; fits = b }

-- what the leaf decides, and what an announcement makes of it
abbrev decided : Timer → Result AnnounceDecideResult Refusal
decided t = announce_decide t.clock.count t.clock.announced t.clock.overflow t.clock.tick

unfoldable pub announced_by : Timer → Result AnnounceDecideResult Refusal → Result Announcement Refusal
announced_by t (Ok d) = Ok (announcement_from t d)
announced_by t (Err why) = Err why

module _ (t : Timer) where
  pub announce_malformed : well_formed t ≡ false → announce_of t ≡ Err Invalid
  unfolding announce_of
  announce_malformed e = simp e

  pub announce_decided : well_formed t ≡ true → announce_of t ≡ announced_by t (decided t)
  unfolding announce_of announced_by announce_decide
  announce_decided e =
      rw e
      (sym (carried (announced_by t) Err (Ok (announce_value t.clock.count t.clock.announced t.clock.overflow t.clock.tick))
      (announce_tests t.clock.count t.clock.announced t.clock.overflow t.clock.tick)))

-- a setup that is not bad, from what the counter answered
module _ (period tick : ℕ) (good : GoodSetup period tick) {answer : Result Counter Refusal} (p : answer ≡ started_of period) where
  started : answer ≡ Ok (fresh_counter period)
  started = let facts = setup_facts period tick good in p ∙ started_good period (good_of_bounds period facts.least facts.most)

  pub never_refused : {why : Refusal} → answer ≡ Err why → ⊥
  never_refused q = clash (cc (started))

-- an announcement, from what the leaf answered
module _ (t : Timer) (formed : well_formed t ≡ true) {answer : Result AnnounceDecideResult Refusal} (p : answer ≡ decided t) where
  by_answer : announce_of t ≡ announced_by t answer
  by_answer = announce_decided t formed ∙ ap (announced_by t) (sym p)

  pub announce_accepted : {d : AnnounceDecideResult} {made : Announcement} → answer ≡ Ok d → made ≡ announcement_from t d → Ok made ≡ announce_of t
  unfolding announced_by
  announce_accepted q m = ap Ok m ∙ sym (by_answer ∙ ap (announced_by t) q)
