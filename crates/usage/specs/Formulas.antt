-- Believed: a fresh thread record, its average over windows, and the cycles between two stamps.
use Rattle.std.specs.Prelude.{ℕ, ◌+◌, ◌-◌, ◌/◌, ◌%◌, ◌^◌, false, cond, ◌==◌}
use Rattle.units.specs.declared.Cycles.{Cycles}
use Rattle.usage.specs.declared.ThreadUsage.{ThreadUsage}

-- untracked with zeros
abbrev pub new_idle : ThreadUsage
new_idle = record { track_usage = false; total_cycles = record { 0 = 0 }; num_windows = 0 }

-- Total / windows rounded down, 0 for no windows.
unfoldable pub average_cycles : Cycles → ℕ → Cycles
average_cycles total windows = record { 0 = cond (windows == 0) 0 (total.0 / windows) }

-- Timestamp difference: now - then, wrapping at 2^32.
abbrev pub elapsed_stamps : ℕ → ℕ → ℕ
elapsed_stamps now then = (now + 2 ^ 32 - then) % 2 ^ 32
