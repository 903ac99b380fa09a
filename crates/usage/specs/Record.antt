-- Inside: a thread's record with one part changed, which is how a leaf changes it. `LeavesExact` (crates/demands/specs/Leaves.antt) writes the changes out.
use Rattle.std.specs.Prelude.{ℕ, Bool}
use Rattle.units.specs.declared.Cycles.{Cycles}
use Rattle.usage.specs.declared.ThreadUsage.{ThreadUsage}

abbrev pub with_flag : Bool → ThreadUsage → ThreadUsage
with_flag flag u = record { track_usage = flag; total_cycles = u.total_cycles; num_windows = u.num_windows }

abbrev pub with_total : Cycles → ThreadUsage → ThreadUsage
with_total total u = record { track_usage = u.track_usage; total_cycles = total; num_windows = u.num_windows }

abbrev pub with_windows : ℕ → ThreadUsage → ThreadUsage
with_windows windows u = record { track_usage = u.track_usage; total_cycles = u.total_cycles; num_windows = windows }
