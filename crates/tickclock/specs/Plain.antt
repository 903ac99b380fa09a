-- Believed: flags and thread records as C hands them over, plain numbers.
use Rattle.std.specs.Prelude.{ℕ, Bool, cond, not, eqb}
use Rattle.usage.specs.declared.ThreadUsage.{ThreadUsage}

-- a flag as an argument: 0 is clear, anything else set
unfoldable pub is_set : ℕ → Bool
is_set flag = not (eqb flag 0)

-- a flag as a result: 0 or 1
unfoldable pub flag_of : Bool → ℕ
flag_of on = cond on 1 0

unfoldable pub usage_of : ℕ → ℕ → ℕ → ThreadUsage
usage_of flag total windows = record { track_usage = is_set flag; total_cycles = record { 0 = total }; num_windows = windows }
