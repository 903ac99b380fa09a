-- Evidence: 01's "Numbers to check", as one table.
use Rattle.std.specs.Prelude.{ℕ, ◌≡◌, Bool, true, false, Result, Ok, Err}
use Rattle.error.specs.declared.Refusal.TheVariants.{Overflow}
use Rattle.systick.specs.Leaves.{elapsed_cycles, ticks_to_cycles, max_ticks, elapsed_decide, announce_decide}
use Rattle.usage.specs.Formulas.{elapsed_stamps}
use Rattle.usage.specs.Leaves.{accumulated}
use Rattle.ledger.specs.Sums.{measured}
use Rattle.systick.specs.declared.AnnounceDecideResult.{AnnounceDecideResult}
use Rattle.systick.specs.declared.ElapsedDecideResult.{ElapsedDecideResult}
use Rattle.error.specs.declared.Refusal.{Refusal}
use Rattle.usage.specs.declared.ThreadUsage.{ThreadUsage}

-- a decision's wrap, new overflow and elapsed
abbrev decided : Bool → ℕ → ℕ → Result ElapsedDecideResult Refusal
decided wrap overflow elapsed = Ok (record { wrap_detected = wrap; new_overflow_cyc = overflow; elapsed = elapsed })

-- announce from 0 with tick 1
abbrev announcing : ℕ → Result AnnounceDecideResult Refusal
announcing count = announce_decide (record { 0 = count }) (record { 0 = 0 }) 0 1

-- a full total, and so many cycles more
abbrev full_plus : ℕ → Result ThreadUsage Refusal
full_plus cycles = accumulated (record { track_usage = true; total_cycles = record { 0 = 18446744073709551615 }; num_windows = 1 }) cycles

pub record Numbers : Type 0 where
  pub case1 : elapsed_cycles 7 3 10 ≡ Ok 4
  pub case2 : elapsed_cycles 3 7 10 ≡ Ok 6
  pub case3 : (elapsed_cycles 0 10 10 ≡ Ok 0) × (elapsed_cycles 10 0 10 ≡ Ok 10)
  pub case4 : elapsed_decide 1 9 false 10 0 ≡ decided true 10 11
  pub case5 : elapsed_decide 9 9 false 10 10 ≡ decided false 10 11
  pub case6 : (elapsed_decide 10 10 false 10 4294967285 ≡ decided false 4294967285 4294967285) × (elapsed_decide 10 10 false 10 4294967286 ≡ Err Overflow)
  pub case7 : (max_ticks 12000 ≡ Ok (record { 0 = 1397 })) × (max_ticks 16777215 ≡ Ok (record { 0 = 0 })) × (max_ticks 16777216 ≡ Ok (record { 0 = 0 }))
  pub case8 : (ticks_to_cycles (record { 0 = 4294967297 }) 4294967295 ≡ Ok (record { 0 = 18446744073709551615 })) × (ticks_to_cycles (record { 0 = 4294967298 }) 4294967295 ≡ Err Overflow)
  pub case9 : (announcing 4294967295 ≡ Ok (record { dticks = record { 0 = 4294967295 }; new_cycle_count = record { 0 = 4294967295 }; new_announced_cycles = record { 0 = 4294967295 } })) × (announcing 4294967296 ≡ Err Overflow)
  pub case10 : elapsed_stamps 1 4294967295 ≡ 2
  -- the stamps of true times
  pub case11 : (measured 1 4294967296 ≡ 0) × (measured 2 4294967296 ≡ 4294967295)
  pub case12 : (full_plus 0 ≡ Ok (record { track_usage = true; total_cycles = record { 0 = 18446744073709551615 }; num_windows = 1 })) × (full_plus 1 ≡ Err Overflow)
