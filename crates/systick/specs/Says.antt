-- Inside: what each answer of a timer leaf says: `says` of crate error, with zeros of the value's shape. `Readers` (crates/demands/specs/Readers.antt) says it of all.
use Rattle.std.specs.Prelude.{ℕ, Result, false}
use Rattle.error.specs.declared.Refusal.{Refusal}
use Rattle.error.specs.Said.{Said, says}
use Rattle.units.specs.declared.Cycles.{Cycles}
use Rattle.units.specs.declared.Ticks.{Ticks}
use Rattle.systick.specs.declared.ElapsedDecideResult.{ElapsedDecideResult}
use Rattle.systick.specs.declared.AnnounceDecideResult.{AnnounceDecideResult}

abbrev pub elapsed_cycles_says : Result ℕ Refusal → Said ℕ
elapsed_cycles_says answer = says 0 answer

abbrev pub cycles_to_ticks_says : Result Ticks Refusal → Said Ticks
cycles_to_ticks_says answer = says (record { 0 = 0 }) answer

abbrev pub ticks_to_cycles_says : Result Cycles Refusal → Said Cycles
ticks_to_cycles_says answer = says (record { 0 = 0 }) answer

abbrev pub max_ticks_says : Result Ticks Refusal → Said Ticks
max_ticks_says answer = says (record { 0 = 0 }) answer

abbrev pub elapsed_decide_says : Result ElapsedDecideResult Refusal → Said ElapsedDecideResult
elapsed_decide_says answer = says (record { wrap_detected = false; new_overflow_cyc = 0; elapsed = 0 }) answer

abbrev pub announce_decide_says : Result AnnounceDecideResult Refusal → Said AnnounceDecideResult
announce_decide_says answer =
    says (record {
      dticks = record { 0 = 0 };
      new_cycle_count = record { 0 = 0 };
      new_announced_cycles = record { 0 = 0 };
    }) answer
