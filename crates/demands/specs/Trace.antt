-- Believed: a trace's run from setup. A machine by its step, and beside it an onlooker, who has the records, their answers and 01's counter, and never looks at what the machine keeps.
use Rattle.std.specs.Prelude.{ℕ, ◌+◌, ◌<◌, ◌≤◌, ◌≡◌, cond, List, [], ◌∷◌, Ok, Err}
use Rattle.counter.specs.Cycle.{fresh_counter, wraps}
use Rattle.counter.specs.declared.Gaps.{Gaps}
use Rattle.counter.specs.Readings.{cycles_of}
use Rattle.books.specs.declared.Operation.{Operation}
use Rattle.books.specs.declared.Operation.TheVariants as O
use Rattle.ledger.specs.Threads.{Threads, none_ran, begins, operated}
use Rattle.trace.specs.declared.Record.{Record}
use Rattle.trace.specs.declared.Record.TheVariants as K
use Rattle.trace.specs.Decode.{Decoded}
use Rattle.table.specs.Says.{Outcome}
use Rattle.table.specs.Table.{after_touch}
use Rattle.machine.specs.declared.Machine.{Machine}
use Rattle.machine.specs.declared.Stepped.{Stepped}
use Rattle.machine.specs.Step.{fresh_machine}

-- what a record lets happen: cycles run, so many ticks announced, a sample, or a sample with an operation that answered so many cycles
pub data Does : Type 0 where
  nothing : Does
  runs : ℕ → Does
  tell : ℕ → Does
  samples : Gaps → Does
  operates : Operation → Gaps → ℕ → Does

-- read off the record itself, not off what the machine takes it for
abbrev pub does_of : Record → ℕ → Does
does_of (K.Run p) x = runs p
does_of (K.Sample g) x = samples g
does_of K.Announce x = tell x
does_of (K.Start i g) x = operates (O.Start i) g x
does_of (K.Switch i g) x = operates (O.Switch i) g x
does_of (K.Stop g) x = operates O.Stop g x
does_of (K.Enable i g) x = operates (O.Enable i) g x
does_of (K.Disable i g) x = operates (O.Disable i) g x
does_of (K.Report i) x = nothing
does_of (K.Setup s) x = nothing

-- a sample whose operation was refused is still one
abbrev pub sample_only : Does → Does
sample_only nothing = nothing
sample_only (runs n) = runs n
sample_only (tell n) = tell n
sample_only (samples g) = samples g
sample_only (operates op g x) = samples g

unfoldable pub happened : Decoded → Outcome → Does
happened (Ok r) (Ok values) = does_of r values.x
happened (Ok r) (Err why) = cond (after_touch why) (sample_only (does_of r 0)) nothing
happened (Err why) o = nothing

pub record Watched : Type 0 where
  pub machine : Machine
  -- the cycles run so far, and by the last C (setup counts as one)
  pub ran : ℕ
  pub at_c : ℕ
  -- the ticks answered by announcements so far
  pub ticks : ℕ
  -- who ran between which true times
  pub threads : Threads
  -- the cycles answered before the last start, and since it, summed
  pub before : ℕ
  pub since : ℕ

-- nothing has been seen of a machine yet
abbrev pub watching : Machine → Watched
watching m = record { machine = m; ran = 0; at_c = 0; ticks = 0; threads = none_ran; before = 0; since = 0 }

-- the cycles run by a sample's C
abbrev pub time_c : ℕ → Gaps → ℕ
time_c ran g = ran + (g.p + g.q)

unfoldable pub seen : Does → Machine → Watched → Watched
seen nothing m w = record { machine = m; ran = w.ran; at_c = w.at_c; ticks = w.ticks; threads = w.threads; before = w.before; since = w.since }
seen (runs n) m w = record { machine = m; ran = w.ran + n; at_c = w.at_c; ticks = w.ticks; threads = w.threads; before = w.before; since = w.since }
seen (tell n) m w = record { machine = m; ran = w.ran; at_c = w.at_c; ticks = w.ticks + n; threads = w.threads; before = w.before; since = w.since }
seen (samples g) m w = record { machine = m; ran = w.ran + cycles_of g; at_c = time_c w.ran g; ticks = w.ticks; threads = w.threads; before = w.before; since = w.since }
seen (operates op g x) m w = record {
  machine = m;
  ran = w.ran + cycles_of g;
  at_c = time_c w.ran g;
  ticks = w.ticks;
  threads = operated w.threads op (time_c w.ran g);
  before = cond (begins w.threads op) (w.before + w.since) w.before;
  since = cond (begins w.threads op) x (w.since + x);
}

-- demand 3's premises, of 01's counter from setup: its real wraps in so many cycles
abbrev pub wraps_by : ℕ → ℕ → ℕ
wraps_by period cycles = wraps cycles (fresh_counter period)

-- where a sample is fair, so many cycles after setup and after the last C
pub record FairSample (period ran at_c : ℕ) (g : Gaps) : Type 0 where
  -- it takes less than a period;
  pub quick : g.p + g.q < period
  -- at most one wrap came since the last C;
  pub one_wrap : wraps_by period (time_c ran g) ≤ wraps_by period at_c + 1
  -- and where one came, none comes from C to D
  pub none_to_d : wraps_by period at_c < wraps_by period (time_c ran g) → wraps_by period (ran + cycles_of g) ≡ wraps_by period (time_c ran g)

abbrev pub Fair : ℕ → ℕ → ℕ → Does → Type 0
Fair period ran at_c nothing = Unit {0}
Fair period ran at_c (runs n) = Unit {0}
Fair period ran at_c (tell n) = Unit {0}
Fair period ran at_c (samples g) = FairSample period ran at_c g
Fair period ran at_c (operates op g x) = FairSample period ran at_c g

module _ (step : Machine → Decoded → Stepped) where
  abbrev pub watch : Decoded → Watched → Watched
  watch d w = seen (happened d (step w.machine d).outcome) (step w.machine d).machine w

  unfoldable pub watch_all : List Decoded → Watched → Watched
  watch_all [] w = w
  watch_all (d ∷ ds) w = watch_all ds (watch d w)

  -- a fresh machine, set up
  abbrev pub at_setup : ℕ → ℕ → ℕ → Watched
  at_setup slots period tick = watching (step (fresh_machine slots) (Ok (K.Setup (record { period = period; tick = tick })))).machine

  -- each sample is fair that was not refused before the touch
  unfoldable pub FairTrace : ℕ → List Decoded → Watched → Type 0
  FairTrace period [] w = Unit {0}
  FairTrace period (d ∷ ds) w = Fair period w.ran w.at_c (happened d (step w.machine d).outcome) × FairTrace period ds (watch d w)
