-- Every run from setup: what its events keep, carried along the list, gives what Holds states.
use Rattle.std.specs.Prelude.{Result}
use Prim.Native.Nat.{ℕ, ◌+◌, ◌-◌, ◌*◌, ◌/◌, ◌≤◌}
use native.Mathlib.Omega.{arith}
use native.Mathlib.Nat.{add-mul, zero-mul, zero-mod, mul-div_cancel}
use mathlib.Core.Path.{◌≡◌, refl, sym, ap, ◌∙◌}
use mathlib.Core.List.{List, [], ◌∷◌}
use Rattle.clock.specs.declared.Announcement.{Announcement}
use Rattle.clock.proofs.Run.{World, Event, run, sample, announce, start, step, after, after_run, after_sample, after_announce, FairRun, FairEvent, FairIf}
use Rattle.clock.specs.Timer.{GoodSetup}
use Rattle.clock.proofs.Holds.{NeverAhead, AnnouncedIn, EveryRun}
use Rattle.clock.proofs.Outcomes.{SetupFacts, setup_facts, set_up_lem, sampled}
use Rattle.clock.proofs.Steps.{ran_by, sampled_by, announced_by}
use Rattle.clock.proofs.Accounts as accounts
use Rattle.clock.proofs.Accounts.{Accounts}
use Rattle.clock.proofs.Faithful as faithful
use Rattle.clock.proofs.Faithful.{Faithful}
use Rattle.counter.specs.declared.Counter.{Counter}
use Rattle.error.specs.declared.Refusal.{Refusal}
use Rattle.clock.specs.declared.SampleTaken.{SampleTaken}

-- what a run keeps with no premises, for the tick it was set up with
pub record Kept (l tick : ℕ) (w : World) : Type 0 where
  pub accounts : Accounts l w.seen w.timer
  pub same_tick : w.timer.clock.tick ≡ tick
  pub last : w.timer.clock.last.0 ≡ w.read
  pub told : w.timer.clock.announced.0 ≡ w.told * tick
  pub never_ahead : NeverAhead l w.read w.cycles_c

step_keeps : (l tick : ℕ) (e : Event) (w : World) → Kept l tick w → Kept l tick (step e w)
unfolding step
step_keeps l tick (run n) w k =
    ran_by w.timer.counter n (λ (o : Result Counter Refusal). Kept l tick (after_run w n o))
    (λ why. k)
    (λ ranged fits. record { accounts = accounts.run_keeps l w.seen w.timer k.accounts n fits; same_tick = k.same_tick; last = k.last; told = k.told; never_ahead = k.never_ahead })
step_keeps l tick (sample g) w k =
    sampled_by w.timer g (λ (o : Result SampleTaken Refusal). Kept l tick (after_sample w g o))
    (λ why. k)
    (λ let_through. record { accounts = accounts.sample_keeps l w.seen w.timer k.accounts g let_through _ refl; same_tick = k.same_tick; last = refl; told = k.told; never_ahead = accounts.never_ahead l w.seen w.timer k.accounts g })
step_keeps l tick announce w k =
    announced_by w.timer (λ (o : Result Announcement Refusal). Kept l tick (after_announce w o))
    (λ why. k)
    (λ let_through. record { accounts = accounts.announce_keeps l w.seen w.timer k.accounts; same_tick = k.same_tick; last = k.last; told = rw k.same_tick (omega (arith, k.told, add-mul w.told ((w.timer.clock.count.0 + w.timer.clock.overflow - w.timer.clock.announced.0) / tick) tick)); never_ahead = k.never_ahead })

keeps : (l tick : ℕ) (es : List Event) (w : World) → Kept l tick w → Kept l tick (after es w)
unfolding after
keeps l tick [] w k = k
keeps l tick (e ∷ es) w k = keeps l tick es (step e w) (step_keeps l tick e w k)

FaithfulWorld : ℕ → World → Type 0
FaithfulWorld l w = Faithful l w.before w.since w.timer × (w.read ≡ w.cycles_c)

fair_step : (l : ℕ) (e : Event) (w : World) → FaithfulWorld l w → FairEvent e w → FaithfulWorld l (step e w)
unfolding step FaithfulWorld
fair_step l (run n) w k fair =
    ran_by w.timer.counter n (λ (o : Result Counter Refusal). FaithfulWorld l (after_run w n o))
    (λ why. k)
    (λ ranged fits. (faithful.run_keeps l w.before w.since w.timer k.0 n, k.1))
fair_step l (sample g) w k fair =
    sampled_by w.timer g (λ (o : Result SampleTaken Refusal). FairIf w g o → FaithfulWorld l (after_sample w g o))
    (λ why nothing. k)
    (λ let_through premises. (faithful.sample_keeps l w.before w.since w.timer k.0 g premises, faithful.exact l w.before w.since w.timer k.0 g premises))
    fair
fair_step l announce w k fair =
    announced_by w.timer (λ (o : Result Announcement Refusal). FaithfulWorld l (after_announce w o))
    (λ why. k)
    (λ let_through. (faithful.announce_keeps l w.before w.since w.timer k.0, k.1))

fair_keeps : (l : ℕ) (es : List Event) (w : World) → FaithfulWorld l w → FairRun es w → FaithfulWorld l (after es w)
unfolding after
fair_keeps l [] w k fair = k
fair_keeps l (e ∷ es) w k fair = fair_keeps l es (step e w) (fair_step l e w k fair.0) fair.1

-- an announcement is accepted, and leaves what it tells
announcing : (l tick : ℕ) (w : World) → Kept l tick w → AnnouncedIn l tick (step announce w)
unfolding step
announcing l tick w k =
    rw (accounts.accepts l w.seen w.timer k.accounts, ← k.same_tick, ← k.last)
    (accounts.tells l w.seen w.timer k.accounts)

module _ (period tick : ℕ) (good : GoodSetup period tick) (es : List Event) where
  abbrev facts : SetupFacts period tick
  facts = setup_facts period tick good

  kept : Kept period tick (after es (start period tick))
  kept =
      keeps period tick es (start period tick)
      (record { accounts = accounts.at_setup period tick facts.least facts.most facts.ticks; same_tick = refl; last = refl; told = sym (zero-mul tick); never_ahead = record { below = omega arith; whole = zero-mod period } })

  told : FairRun es (start period tick) → FaithfulWorld period (after es (start period tick))
  unfolding FaithfulWorld
  told fair = fair_keeps period es (start period tick) (faithful.at_setup period tick facts.least facts.most, refl) fair

-- the same count in periods of l, l not 0
same_periods : (l m n : ℕ) → 2 ≤ l → m * l ≡ n * l → m ≡ n
same_periods l m n h e =
    sym (mul-div_cancel m {n = l} (omega arith)) ∙ ap (λ (k : ℕ). k / l) e ∙ mul-div_cancel n {n = l} (omega arith)

pub every_run : EveryRun
unfolding FaithfulWorld
every_run period tick good es =
    let w = after es (start period tick) in
    let k = kept period tick good es in
    record {
      set_up_lem = set_up_lem period tick good;
      always = record {
        formed = accounts.formed period w.seen w.timer k.accounts;
        fits = k.accounts.fits;
        never_ahead = k.never_ahead;
        announce_accepted = (_, accounts.accepts period w.seen w.timer k.accounts);
        sample_accepted = λ g room fits. (_, sampled w.timer g (accounts.formed period w.seen w.timer k.accounts) room fits);
        same_tick = k.same_tick;
        last = k.last;
        announced = k.told;
      };
      announcements = announcing period tick w k;
      faithful = λ fair.
          let f = told period tick good es fair in
          record { reads = f.1; sees = same_periods period _ _ (facts period tick good es).least (sym k.accounts.periods ∙ f.0.counted) };
    }
