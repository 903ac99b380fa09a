-- Believed: a sample. It reads v (A), runs p, reads and clears the flag (B), runs q, reads v (C), decides, runs r; on a wrap it clears again (D).
use Rattle.std.specs.Prelude.{ℕ, ◌+◌, ◌-◌, ◌*◌, Bool, cond, ltb}
use Rattle.error.specs.Numbers.{max32}
use Rattle.systick.specs.declared.ElapsedDecideResult.{ElapsedDecideResult}
use Rattle.systick.specs.Decisions.{elapsed_value}
use Rattle.counter.specs.declared.Counter.{Counter}
use Rattle.counter.specs.declared.SampleReadings.{SampleReadings}
use Rattle.counter.specs.Cycle.{cleared}
use Rattle.counter.specs.Readings.{readings_from}
use Rattle.clock.specs.declared.Clock.{Clock}
use Rattle.clock.specs.declared.Timer.{Timer}
use Rattle.counter.specs.declared.Gaps.{Gaps}
use Rattle.clock.specs.declared.SampleTaken.{SampleTaken}

-- the flag at B, v at C, and the counter r cycles after it
abbrev pub readings : Timer → Gaps → SampleReadings
readings t g = readings_from t.counter g.p g.q g.r

-- what the leaf decides from v at A, v at C and the flag at B
abbrev pub decision : Timer → Gaps → ElapsedDecideResult
decision t g = elapsed_value t.counter.value (readings t g).value (readings t g).flag t.counter.period t.clock.overflow

-- Reading = count + elapsed at C.
abbrev pub reading_of : Timer → Gaps → ℕ
reading_of t g = t.clock.count.0 + (decision t g).elapsed

-- the counter after r cycles more, its flag cleared once more on a wrap (D)
abbrev pub counter_after : Timer → Gaps → Counter
counter_after t g = cond (decision t g).wrap_detected (cleared (readings t g).after) (readings t g).after

-- what a sample answers, and the state that it leaves, from the decision, the reading and the counter after D
abbrev pub taken_from : Clock → ElapsedDecideResult → ℕ → Counter → SampleTaken
taken_from k d reading counter = record {
  elapsed = d.elapsed;
  wrap = d.wrap_detected;
  reading = record { 0 = reading };
  timer = record {
    counter = counter;
    clock = record { tick = k.tick; count = k.count; announced = k.announced; overflow = d.new_overflow_cyc; last = record { 0 = reading } };
  };
}

abbrev pub sample_value : Timer → Gaps → SampleTaken
sample_value t g = taken_from t.clock (decision t g) (reading_of t g) (counter_after t g)

-- overflow + 2L - 1 above 2^32 - 1
abbrev pub crowded : Timer → Bool
crowded t = ltb max32 (t.clock.overflow + 2 * t.counter.period - 1)
