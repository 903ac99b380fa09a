-- What holds of every run of counter and clock from setup, after any list of events.
use Rattle.std.specs.Prelude.{Ok}
use Prim.Native.Nat.{ℕ, ◌-◌, ◌*◌, ◌/◌, ◌%◌, ◌≤◌}
use mathlib.Core.Path.{◌≡◌}
use mathlib.Core.List.{List}
use mathlib.Core.Bool.{true, false}
use Rattle.error.specs.Numbers.{max64}
use Rattle.counter.specs.Readings.{cycles_above, cycles_of}
use Rattle.counter.specs.declared.Gaps.{Gaps}
use Rattle.clock.specs.declared.SampleTaken.{SampleTaken}
use Rattle.clock.specs.declared.Announcement.{Announcement}
use Rattle.clock.specs.Timer.{well_formed, GoodSetup}
use Rattle.clock.specs.Entries.{set_up, sample_of}
use Rattle.clock.specs.Sample.{crowded}
use Rattle.clock.specs.Announce.{announce_of}
use Rattle.clock.specs.Multiple.{LargestMultiple}
use Rattle.clock.proofs.Run.{World, Event, announce, start, step, after, FairRun}

-- a reading is never above T, and short of it by whole periods
pub record NeverAhead (period read cycles : ℕ) : Type 0 where
  pub below : read ≤ cycles
  pub whole : (cycles - read) % period ≡ 0

-- with no premises, after any run
pub record HoldsAlways (period tick : ℕ) (w : World) : Type 0 where
  -- no run from setup is taken for malformed
  pub formed : well_formed w.timer ≡ true
  pub fits : w.timer.counter.cycles.0 ≤ max64
  pub never_ahead : NeverAhead period w.read w.cycles_c
  pub announce_accepted : (a : Announcement) × (announce_of w.timer ≡ Ok a)
  -- a sample is accepted unless the overflow has no room for it or T would pass 2^64 - 1
  pub sample_accepted :
      (g : Gaps) →
      crowded w.timer ≡ false →
      cycles_above w.timer.counter (cycles_of g) ≡ false →
      (taken : SampleTaken) × (sample_of w.timer g ≡ Ok taken)
  pub same_tick : w.timer.clock.tick ≡ tick
  -- what is stored is what was answered
  pub last : w.timer.clock.last.0 ≡ w.read
  pub announced : w.timer.clock.announced.0 ≡ w.told * tick

-- with no premises, after an announcement: of the announced cycles, count, the last reading, the samples that answered a wrap
pub record Tells (period tick announced count read seen : ℕ) : Type 0 where
  pub largest : LargestMultiple period tick announced read
  -- count is the period times the samples so far that answered a wrap
  pub periods : count ≡ seen * period
  -- which is every whole period within the last reading
  pub whole : count ≡ read / period * period

abbrev pub AnnouncedIn : ℕ → ℕ → World → Type 0
AnnouncedIn period tick w = Tells period tick w.timer.clock.announced.0 w.timer.clock.count.0 w.read w.seen

-- under demand 3's premises
pub record True (w : World) : Type 0 where
  -- the last reading equals the cycles run by then
  pub reads : w.read ≡ w.cycles_c
  -- each real wrap up to the last C was answered by one sample
  pub sees : w.seen ≡ w.before

pub record Holds (period tick : ℕ) (es : List Event) (w : World) : Type 0 where
  -- runs start from what setup answers
  pub set_up_lem : set_up period tick ≡ Ok (start period tick).timer
  pub always : HoldsAlways period tick w
  pub announcements : AnnouncedIn period tick (step announce w)
  pub faithful : FairRun es (start period tick) → True w

abbrev pub EveryRun : Type 0
EveryRun = (period tick : ℕ) → GoodSetup period tick → (es : List Event) → Holds period tick es (after es (start period tick))
