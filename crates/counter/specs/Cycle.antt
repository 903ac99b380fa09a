-- Believed: 01's counter, one cycle at a time.
use Rattle.std.specs.Prelude.{ℕ, zero, suc, ◌+◌, ◌-◌, false, cond, ◌||◌, eqb}
use Rattle.counter.specs.declared.Counter.{Counter}

-- Setup gives v = L, flag clear, T = 0.
abbrev pub fresh_counter : ℕ → Counter
fresh_counter period = record { period = period; value = period; flag = false; cycles = record { 0 = 0 } }

-- One cycle: v = 1 becomes L and sets the flag; otherwise v falls by one. T counts cycles run.
unfoldable pub cycle : Counter → Counter
cycle c = record {
  period = c.period;
  value = cond (eqb c.value 1) c.period (c.value - 1);
  flag = c.flag || eqb c.value 1;
  cycles = record { 0 = c.cycles.0 + 1 };
}

-- n cycles
unfoldable pub run_n : ℕ → Counter → Counter
run_n zero c = c
run_n (suc n) c = cycle (run_n n c)

-- the flag is read, which clears it
abbrev pub cleared : Counter → Counter
cleared c = record { period = c.period; value = c.value; flag = false; cycles = c.cycles }

-- the real wraps of n cycles: how often v goes from 1 to L
unfoldable pub wraps : ℕ → Counter → ℕ
wraps zero c = 0
wraps (suc n) c = wraps n c + cond (eqb (run_n n c).value 1) 1 0
