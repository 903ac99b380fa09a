-- Believed: what a run from setup has announced, against the last reading before it.
use Rattle.std.specs.Prelude.{ℕ, ◌+◌, ◌-◌, ◌*◌, ◌/◌, ◌%◌, ◌≤◌, ◌<◌, ◌≡◌}

pub record LargestMultiple (period tick announced last : ℕ) : Type 0 where
  -- the largest multiple of the tick within the whole periods counted
  pub multiple : announced % tick ≡ 0
  pub within : announced ≤ last / period * period
  pub largest : last / period * period < announced + tick
  -- it lags the last reading by at most period plus tick less 2
  pub lag : last ≤ announced + (period + tick - 2)
