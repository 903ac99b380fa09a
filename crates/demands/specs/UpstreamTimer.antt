-- Evidence: upstream's clauses and lemmas of systick.rs, each over our definition, under upstream's own requires. They follow from the laws that `LeavesExact` rests on and from what the answers' definitions say.
use Rattle.std.specs.Prelude.{ℕ, ◌+◌, ◌-◌, ◌*◌, ◌/◌, ◌≤◌, ◌<◌, ◌≡◌, Bool, true, false, ◌||◌, ltb, Ok}
use Rattle.error.specs.Numbers.{ok, minus, max32, max64}
use Rattle.error.specs.Said.{Said}
use Rattle.units.specs.declared.Cycles.{Cycles}
use Rattle.units.specs.declared.Ticks.{Ticks}
use Rattle.systick.specs.declared.ElapsedDecideResult.{ElapsedDecideResult}
use Rattle.systick.specs.declared.AnnounceDecideResult.{AnnounceDecideResult}
use Rattle.systick.specs.Leaves.{elapsed_cycles, cycles_to_ticks, ticks_to_cycles, max_ticks, max_load, elapsed_decide, announce_decide}
use Rattle.systick.specs.Says.{elapsed_cycles_says, cycles_to_ticks_says, ticks_to_cycles_says, max_ticks_says, elapsed_decide_says, announce_decide_says}

-- what elapsed_cycles ensures
pub record ElapsedCyclesEnsures (last current load : ℕ) (said : Said ℕ) : Type 0 where
  pub accepted : said.number ≡ ok
  pub counted_down : current ≤ last → said.value ≡ last - current
  pub wrapped : last < current → said.value ≡ last + (load - current)
  pub bounded : said.value ≤ load

-- what cycles_to_ticks ensures, with a refusal for None
pub record CyclesToTicksEnsures (cycles : Cycles) (tick : ℕ) (said : Said Ticks) : Type 0 where
  pub none : tick ≡ 0 → said.number ≡ minus 22
  pub some : 0 < tick → (said.number ≡ ok) × (said.value.0 ≡ cycles.0 / tick)

-- what ticks_to_cycles ensures, with a refusal for None
pub record TicksToCyclesEnsures (ticks : Ticks) (tick : ℕ) (said : Said Cycles) : Type 0 where
  pub no_tick : tick ≡ 0 → (said.number ≡ ok) × (said.value.0 ≡ 0)
  pub none : 0 < tick → max64 / tick < ticks.0 → said.number ≡ minus 139
  pub some : 0 < tick → ticks.0 ≤ max64 / tick → (said.number ≡ ok) × (said.value.0 ≡ ticks.0 * tick)

-- what max_ticks ensures, with a refusal for None
pub record MaxTicksEnsures (tick : ℕ) (said : Said Ticks) : Type 0 where
  pub none : tick ≡ 0 → said.number ≡ minus 22
  pub some : 0 < tick → said.number ≡ ok

-- what elapsed_decide ensures
pub record ElapsedDecideEnsures (val1 val2 : ℕ) (flag : Bool) (load overflow : ℕ) (said : Said ElapsedDecideResult) : Type 0 where
  pub accepted : said.number ≡ ok
  pub wrap : said.value.wrap_detected ≡ flag || ltb val1 val2
  pub kept : said.value.wrap_detected ≡ false → said.value.new_overflow_cyc ≡ overflow
  pub added : said.value.wrap_detected ≡ true → said.value.new_overflow_cyc ≡ overflow + load

-- what announce_decide ensures of Some
pub record AnnounceDecideEnsures (count announced : Cycles) (overflow tick : ℕ) (said : Said AnnounceDecideResult) : Type 0 where
  pub counted : said.number ≡ ok → said.value.new_cycle_count.0 ≡ count.0 + overflow
  pub ticks : said.number ≡ ok → said.value.dticks.0 ≡ (said.value.new_cycle_count.0 - announced.0) / tick

pub record TimerClauses : Type 0 where
  pub elapsed_cycles_lem : (last current load : ℕ) → last ≤ load → current ≤ load → ElapsedCyclesEnsures last current load (elapsed_cycles_says (elapsed_cycles last current load))
  pub cycles_to_ticks_lem : (cycles : Cycles) (tick : ℕ) → CyclesToTicksEnsures cycles tick (cycles_to_ticks_says (cycles_to_ticks cycles tick))
  pub ticks_to_cycles_lem : (ticks : Ticks) (tick : ℕ) → TicksToCyclesEnsures ticks tick (ticks_to_cycles_says (ticks_to_cycles ticks tick))
  pub max_ticks_lem : (tick : ℕ) → MaxTicksEnsures tick (max_ticks_says (max_ticks tick))
  pub elapsed_decide_lem : (val1 val2 : ℕ) (flag : Bool) (load overflow : ℕ) → val2 ≤ load → overflow + load ≤ max32 → load - val2 + overflow + load ≤ max32 → ElapsedDecideEnsures val1 val2 flag load overflow (elapsed_decide_says (elapsed_decide val1 val2 flag load overflow))
  pub announce_decide_lem : (count announced : Cycles) (overflow tick : ℕ) → 0 < tick → count.0 + overflow ≤ max64 → announced.0 ≤ count.0 + overflow → AnnounceDecideEnsures count announced overflow tick (announce_decide_says (announce_decide count announced overflow tick))

-- upstream's lemmas by name, over the functions; where upstream states nothing, the law that the name suggests
pub record TimerLemmas : Type 0 where
  -- ST1, ST2
  pub lemma_elapsed_bounded : (last current load elapsed : ℕ) → elapsed_cycles last current load ≡ Ok elapsed → elapsed ≤ load
  -- ST5
  pub lemma_roundtrip : (ticks : Ticks) (tick : ℕ) → 0 < tick → ticks.0 ≤ max64 / tick → cycles_to_ticks (ticks_to_cycles_says (ticks_to_cycles ticks tick)).value tick ≡ Ok ticks
  -- ST6
  pub lemma_monotonicity : (c1 c2 : Cycles) (tick : ℕ) (t1 t2 : Ticks) → c1.0 ≤ c2.0 → cycles_to_ticks c1 tick ≡ Ok t1 → cycles_to_ticks c2 tick ≡ Ok t2 → t1.0 ≤ t2.0
  -- ST7: a difference of values of the register, and the ticks that it may be given, stay within the register
  pub lemma_counter_bounded : (last current load elapsed : ℕ) → load ≤ max_load → elapsed_cycles last current load ≡ Ok elapsed → elapsed ≤ max_load
  pub max_ticks_fit : (tick : ℕ) (ticks : Ticks) → max_ticks tick ≡ Ok ticks → ticks.0 * tick ≤ max_load
  -- ST2
  pub lemma_wrap_symmetry : (last current load : ℕ) → last < current → current ≤ load → elapsed_cycles last current load ≡ Ok (load - (current - last))
  pub lemma_zero_elapsed : (count load : ℕ) → count ≤ load → elapsed_cycles count count load ≡ Ok 0
  -- there and back loses less than a tick, and going back is never refused
  pub lemma_conversion_truncation : (cycles : Cycles) (tick : ℕ) (ticks : Ticks) → cycles.0 ≤ max64 → cycles_to_ticks cycles tick ≡ Ok ticks → (ticks_to_cycles ticks tick ≡ Ok (record { 0 = ticks.0 * tick })) × (ticks.0 * tick ≤ cycles.0) × (cycles.0 < ticks.0 * tick + tick)
  -- ST3: ticks never pass the cycles that they are made of, so nothing overflows
  pub ticks_within : (cycles : Cycles) (tick : ℕ) (ticks : Ticks) → cycles_to_ticks cycles tick ≡ Ok ticks → ticks.0 ≤ cycles.0
  -- ST4: what is accepted fits 64 bits
  pub cycles_fit : (ticks : Ticks) (tick : ℕ) (cycles : Cycles) → ticks_to_cycles ticks tick ≡ Ok cycles → cycles.0 ≤ max64
