-- Runs of counter and clock from setup: cycles, samples and announcements, refused ones included. Demand 3's own onlooker,
use Rattle.std.specs.Prelude.{Result, Ok, Err}
-- who sees whole traces, is demands/specs/Trace.antt; this one carries its proof.
use Prim.Native.Nat.{ℕ, ◌+◌, ◌≤◌, ◌<◌}
use mathlib.Core.Path.{◌≡◌}
use mathlib.Core.List.{List, [], ◌∷◌}
use mathlib.Core.Bool.{cond}
use Rattle.counter.specs.declared.Counter.{Counter}
use Rattle.counter.specs.Cycle.{wraps, cleared}
use Rattle.counter.specs.Entries.{ran_of}
use Rattle.clock.specs.declared.Timer.{Timer}
use Rattle.counter.specs.declared.Gaps.{Gaps}
use Rattle.clock.specs.Timer.{setup}
use Rattle.clock.specs.Entries.{sample_of}
use Rattle.clock.specs.Announce.{announce_of}
use Rattle.clock.proofs.Stretches.{at_b, at_c}
use Rattle.clock.specs.declared.Announcement.{Announcement}
use Rattle.error.specs.declared.Refusal.{Refusal}
use Rattle.clock.specs.declared.SampleTaken.{SampleTaken}

pub data Event : Type 0 where
  run : ℕ → Event
  sample : Gaps → Event
  announce : Event

-- A run's state, and beside it what an onlooker keeps.
pub record World : Type 0 where
  pub timer : Timer
  -- of the stepping counter alone: the real wraps up to the last C (setup counts as one) and after it, and T at that C
  pub before : ℕ
  pub since : ℕ
  pub cycles_c : ℕ
  -- of the answers: how many samples said a wrap, the last reading, and the ticks announced so far
  pub seen : ℕ
  pub read : ℕ
  pub told : ℕ

abbrev pub start : ℕ → ℕ → World
start period tick = record { timer = setup period tick; before = 0; since = 0; cycles_c = 0; seen = 0; read = 0; told = 0 }

-- the real wraps from A to C
abbrev pub wraps_ac : Counter → Gaps → ℕ
wraps_ac a g = wraps g.p a + wraps g.q (cleared (at_b a g))

-- what the entries answer is what happens next; a refusal changes nothing
abbrev pub after_run : World → ℕ → Result Counter Refusal → World
after_run w n (Ok counter) = record {
  timer = record { counter = counter; clock = w.timer.clock };
  before = w.before;
  since = w.since + wraps n w.timer.counter;
  cycles_c = w.cycles_c;
  seen = w.seen;
  read = w.read;
  told = w.told;
}
after_run w n (Err why) = w

abbrev pub after_sample : World → Gaps → Result SampleTaken Refusal → World
after_sample w g (Ok taken) = record {
  timer = taken.timer;
  before = w.before + w.since + wraps_ac w.timer.counter g;
  since = wraps g.r (at_c w.timer.counter g);
  cycles_c = (at_c w.timer.counter g).cycles.0;
  seen = w.seen + cond taken.wrap 1 0;
  read = taken.reading.0;
  told = w.told;
}
after_sample w g (Err why) = w

abbrev pub after_announce : World → Result Announcement Refusal → World
after_announce w (Ok announcement) = record { timer = announcement.timer; before = w.before; since = w.since; cycles_c = w.cycles_c; seen = w.seen; read = w.read; told = w.told + announcement.dticks.0 }
after_announce w (Err why) = w

unfoldable pub step : Event → World → World
step (run n) w = after_run w n (ran_of w.timer.counter n)
step (sample g) w = after_sample w g (sample_of w.timer g)
step announce w = after_announce w (announce_of w.timer)

unfoldable pub after : List Event → World → World
after [] w = w
after (e ∷ es) w = after es (step e w)

-- Demand 3's premises on a sample of this state: it takes less than a period; at most one wrap since the last C; where there was one, none from C to D.
pub record FairHere (since : ℕ) (t : Timer) (g : Gaps) : Type 0 where
  pub quick : g.p + g.q < t.counter.period
  pub one_wrap : since + wraps_ac t.counter g ≤ 1
  pub none_to_d : 1 ≤ since + wraps_ac t.counter g → wraps g.r (at_c t.counter g) ≡ 0

-- an event is fair unless it is a sample that breaks a premise; a refused sample touches nothing, so nothing is asked of it
abbrev pub FairIf : World → Gaps → Result SampleTaken Refusal → Type 0
FairIf w g (Ok taken) = FairHere w.since w.timer g
FairIf w g (Err why) = Unit {0}

abbrev pub FairEvent : Event → World → Type 0
FairEvent (run n) w = Unit {0}
FairEvent (sample g) w = FairIf w g (sample_of w.timer g)
FairEvent announce w = Unit {0}

abbrev pub FairRun : List Event → World → Type 0
FairRun [] w = Unit {0}
FairRun (e ∷ es) w = FairEvent e w × FairRun es (step e w)
