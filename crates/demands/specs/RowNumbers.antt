-- Evidence: each row's number, and 0 0, as the machine's answers say them.
use Rattle.std.specs.Prelude.{◌≡◌, ℤ, Ok, Err}
use Rattle.error.specs.declared.Refusal.{Refusal}
use Rattle.error.specs.Numbers.{minus, number_of}
use Rattle.error.specs.Said.{accepted}
use Rattle.table.specs.declared.Reason.{Reason}
use Rattle.table.specs.declared.Reason.TheVariants as Why
use Rattle.table.specs.declared.Values.{Values}
use Rattle.table.specs.Says.{outcome_says, values}

-- a refused record says its row's number, and 0 0
pub record RowSays (why : Reason) (number : ℤ) : Type 0 where
  pub number_is : (outcome_says (Err why)).number ≡ number
  pub zeros : (outcome_says (Err why)).value ≡ values 0 0

-- 01's numbers, row by row
pub record RowNumbers : Type 0 where
  pub malformed_state : RowSays Why.Malformed (minus 22)
  pub bad_record : RowSays Why.BadRecord (minus 22)
  pub not_set_up : RowSays Why.NotSetUp (minus 2)
  pub second_setup : RowSays Why.SecondSetup (minus 114)
  pub no_thread_lem : RowSays Why.NoThread (minus 9)
  pub running : RowSays Why.Running (minus 114)
  pub announce_first : RowSays Why.AnnounceFirst (minus 11)
  pub cycles_above_lem : RowSays Why.CyclesAbove (minus 139)
  pub not_announced : (leafs : Refusal) → RowSays (Why.NotAnnounced leafs) (number_of leafs)
  pub wont_fit : RowSays Why.WontFit (minus 139)
  -- an accepted record says 0, and its values
  pub accepted_ok : (v : Values) → outcome_says (Ok v) ≡ accepted v
