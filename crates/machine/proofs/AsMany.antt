-- A change leaves as many thread records as there were.
use Rattle.std.specs.Prelude.{Result, Ok, Err}
use Prim.Native.Nat.{ℕ}
use mathlib.Core.Path.{◌≡◌, refl}
use lib.ListN.{length, length-set, length-replicate}
use Rattle.error.specs.declared.Refusal.{Refusal}
use Rattle.error.proofs.Ordered.{by_outcome}
use Rattle.units.specs.declared.Cycles.{Cycles}
use Rattle.usage.specs.Formulas.{new_idle}
use Rattle.books.specs.declared.Entry.{Entry}
use Rattle.books.specs.declared.Operation.{Operation}
use Rattle.ledger.specs.declared.Ledger.{Ledger}
use Rattle.ledger.specs.declared.Ledgered.{Ledgered}
use Rattle.ledger.specs.declared.ThreadReport.{ThreadReport}
use Rattle.ledger.specs.Operate.{refused_with, stored_in, operate_tests, operate_of, report_of}
use Rattle.table.specs.declared.Reason.{Reason}
use Rattle.table.specs.declared.changes.Change.{Change}
use Rattle.table.specs.declared.changes.Change.TheVariants as X
use Rattle.machine.specs.declared.Machine.{Machine}
use Rattle.machine.specs.Step.{slots_of}
use Rattle.machine.specs.Making.{reported_by, made_of}

stored : (l : Ledger) (k : ℕ) (x : Result Entry Refusal) → length (stored_in l k x).ledger.threads ≡ length l.threads
unfolding stored_in
stored l k (Ok e) = length-set l.threads k e.usage
stored l k (Err why) = refl

operated : (l : Ledger) (reading : Cycles) (op : Operation) → length (operate_of l reading op).ledger.threads ≡ length l.threads
unfolding operate_of
operated l reading op = by_outcome (refused_with l) _ (λ (after : Ledgered). length after.ledger.threads ≡ length l.threads) (operate_tests l op) (λ why. refl) (λ none. stored l _ _)

reported : (m : Machine) (x : Result ThreadReport Refusal) → slots_of (reported_by m x).machine ≡ slots_of m
unfolding reported_by
reported m (Ok report) = refl
reported m (Err why) = refl

pub as_many : (m : Machine) (change : Result Change Reason) → slots_of (made_of m change).machine ≡ slots_of m
unfolding made_of
as_many m (Err why) = refl
as_many m (Ok (X.Ran counter)) = refl
as_many m (Ok (X.Told timer values)) = refl
as_many m (Ok (X.Enter timer op reading)) = operated m.ledger reading op
as_many m (Ok (X.Report i)) = reported m (report_of m.ledger i)
as_many m (Ok (X.Fresh timer)) = length-replicate (slots_of m) new_idle
