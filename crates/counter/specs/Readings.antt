-- Believed: when a counter is in range and when it would run too far, and what a sample reads of it.
use Rattle.std.specs.Prelude.{ℕ, ◌+◌, Bool, ◌&&◌, ltb, leb}
use Rattle.error.specs.Numbers.{max64}
use Rattle.counter.specs.declared.Counter.{Counter}
use Rattle.counter.specs.declared.Gaps.{Gaps}
use Rattle.counter.specs.declared.SampleReadings.{SampleReadings}
use Rattle.counter.specs.Cycle.{run_n, cleared}

-- Period L is 2 to 16777215.
unfoldable pub good_period : ℕ → Bool
good_period period = leb 2 period && leb period 16777215

-- Value v runs L..1.
unfoldable pub in_range : Counter → Bool
in_range c = good_period c.period && leb 1 c.value && leb c.value c.period

-- T past 2^64 - 1 in n cycles more
abbrev pub cycles_above : Counter → ℕ → Bool
cycles_above c n = ltb max64 (c.cycles.0 + n)

-- all the cycles of a sample, r too where no D follows
abbrev pub cycles_of : Gaps → ℕ
cycles_of g = g.p + g.q + g.r

-- A sample runs p, reads and clears the flag (B), runs q, reads v (C), runs r.
abbrev pub readings_from : Counter → ℕ → ℕ → ℕ → SampleReadings
readings_from a p q r = record {
  flag = (run_n p a).flag;
  value = (run_n q (cleared (run_n p a))).value;
  after = run_n r (run_n q (cleared (run_n p a)));
}
