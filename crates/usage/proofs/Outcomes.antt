-- Each outcome of each leaf of a thread record, from the facts that bring it about.
use Rattle.std.specs.Prelude.{Ok, Err}
use Rattle.std.proofs.Common.{◌≡◌, ℕ, ◌+◌, ◌/◌, ◌<◌, ◌≤◌, true, false, ◌⊎◌, ◌∙◌, inl, inr, le-ltb, lt-ltb, eq-eqb, ne_eqb}
use Rattle.error.specs.declared.Refusal.TheVariants.{Overflow}
use Rattle.error.specs.Numbers.{max32, max64}
use Rattle.units.specs.declared.Cycles.{Cycles}
use Rattle.usage.specs.Record.{with_flag, with_total, with_windows}
use Rattle.usage.specs.Leaves.{enabled, enabled_record, accumulated, stop_decide}
use Rattle.usage.specs.Formulas.{average_cycles}
use Rattle.usage.specs.declared.ThreadUsage.{ThreadUsage}
use Rattle.usage.specs.declared.StopDecision.TheVariants.{Accumulate, Skip}

module _ (u : ThreadUsage) where
  pub already_tracked : u.track_usage ≡ true → enabled u ≡ Ok u
  unfolding enabled
  already_tracked on = simp on

  pub windows_full : u.track_usage ≡ false → u.num_windows ≡ max32 → enabled u ≡ Err Overflow
  unfolding enabled
  windows_full off h = simp (off, eq-eqb _ _ h)

  pub window_opened : u.track_usage ≡ false → (u.num_windows ≡ max32 → ⊥) → enabled u ≡ Ok (with_windows (u.num_windows + 1) (with_flag true u))
  unfolding enabled
  window_opened off h = simp (off, ne_eqb _ _ h)

  -- either way there is a record, by one formula
  pub enabled_given : (u.track_usage ≡ true) ⊎ ((u.track_usage ≡ false) × (u.num_windows ≡ max32 → ⊥)) → enabled u ≡ Ok (enabled_record u)
  enabled_given (inl on) = already_tracked on ∙ simp on
  enabled_given (inr (off, h)) = window_opened off h ∙ simp off

  pub sum_above : (cycles : ℕ) → max64 < u.total_cycles.0 + cycles → accumulated u cycles ≡ Err Overflow
  unfolding accumulated
  sum_above cycles h = simp (lt-ltb _ _ h)

  pub sum_kept : (cycles : ℕ) → u.total_cycles.0 + cycles ≤ max64 → accumulated u cycles ≡ Ok (with_total (record { 0 = u.total_cycles.0 + cycles }) u)
  unfolding accumulated
  sum_kept cycles h = simp (le-ltb _ _ h)

module _ (total : Cycles) (windows : ℕ) where
  pub no_windows : windows ≡ 0 → average_cycles total windows ≡ record { 0 = 0 }
  unfolding average_cycles
  no_windows h = simp (eq-eqb _ _ h)

  pub averaged : (windows ≡ 0 → ⊥) → average_cycles total windows ≡ record { 0 = total.0 / windows }
  unfolding average_cycles
  averaged h = simp (ne_eqb _ _ h)

pub skipped : (usage0 : ℕ) → usage0 ≡ 0 → stop_decide usage0 ≡ Skip
skipped usage0 h = simp (eq-eqb _ _ h)

pub to_accumulate : (usage0 : ℕ) → (usage0 ≡ 0 → ⊥) → stop_decide usage0 ≡ Accumulate
to_accumulate usage0 h = simp (ne_eqb _ _ h)
