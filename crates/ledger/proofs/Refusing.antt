-- Each refusal of the ledger, exactly, and that none is -22 where a running thread has a record.
use Rattle.std.specs.Prelude.{Result, Ok, Err}
use Prim.Native.Nat.{ℕ}
use mathlib.Core.Path.{◌≡◌, refl, ap, ◌∙◌}
use mathlib.Core.Bool.{Bool, true, false, cond}
use lib.ListN.{length}
use Rattle.error.proofs.Tests.{clash}
use Rattle.error.specs.declared.Refusal.TheVariants.{Invalid, BadThread, Already, Overflow}
use Rattle.error.specs.Numbers.{ok, number_of}
use Rattle.error.specs.InOrder.{in_order}
use Rattle.error.proofs.Ordered.{carried}
use Rattle.units.specs.declared.Cycles.{Cycles}
use Rattle.books.specs.declared.Operation.{Operation}
use Rattle.books.specs.Running.{stamp_of, no_thread, unrecorded, past, busy}
use Rattle.books.proofs.Refusing.{EntryBy, entry_by}
use Rattle.ledger.specs.declared.Ledger.{Ledger}
use Rattle.ledger.specs.declared.Ledgered.{Ledgered}
use Rattle.ledger.specs.declared.ThreadReport.{ThreadReport}
use Rattle.ledger.specs.Operate.{refused_with, stored_in, operate_tests, operate_of, report_of}
use Rattle.ledger.specs.Records.{concerned_record, answer_says}
use Rattle.ledger.specs.Laws.{OperationNumbers}
use Rattle.ledger.proofs.Holds.{NeverInvalid}
use Rattle.books.specs.declared.Entry.{Entry}
use Rattle.error.specs.declared.Refusal.{Refusal}
use Rattle.error.specs.Said.{number_in}

stored_number : (l : Ledger) (k : ℕ) (t : Bool) (x : Result Entry Refusal) → EntryBy t x → (answer_says (stored_in l k x).answer).number ≡ cond t (number_of Overflow) ok
unfolding stored_in EntryBy number_in
stored_number l k t (Ok e) h = rw h refl
stored_number l k t (Err why) h = rw (h.0, h.1) refl

pub every_refusal : OperationNumbers
unfolding operate_of number_in
every_refusal l reading op =
    carried (λ (o : Ledgered). (answer_says o.answer).number) (refused_with l) _ (operate_tests l op) ∙
    ap (in_order (operate_tests l op) number_of)
    (stored_number l _ _ _ (entry_by l.books (concerned_record l op) (stamp_of reading.0) op))

module _ (l : Ledger) (recorded : unrecorded l.books (length l.threads) ≡ false) where
  stored_fits : (k : ℕ) (t : Bool) (x : Result Entry Refusal) → EntryBy t x → (stored_in l k x).answer ≡ Err Invalid → ⊥
  unfolding stored_in EntryBy
  stored_fits k t (Ok e) fits q = clash (cc)
  stored_fits k t (Err why) fits q = let w = fits.0 in clash (cc)

  operations : (reading : Cycles) (op : Operation) → (operate_of l reading op).answer ≡ Err Invalid → ⊥
  unfolding operate_of
  operations reading op = rw recorded (by_test (past op (length l.threads)) (busy l.books op) _ (stored_fits _ _ _ (entry_by l.books _ _ op)))
    where
      by_test : (t s : Bool) (o : Ledgered) → (o.answer ≡ Err Invalid → ⊥) → (cond t (refused_with l BadThread) (cond s (refused_with l Already) o)).answer ≡ Err Invalid → ⊥
      by_test true s o other q = clash (cc)
      by_test false true o other q = clash (cc)
      by_test false false o other q = other q

  reports : (i : ℕ) → report_of l i ≡ Err Invalid → ⊥
  unfolding report_of
  reports i = rw recorded (by_test (no_thread (length l.threads) i) _)
    where
      by_test : (t : Bool) (r : ThreadReport) → cond t (Err BadThread) (Ok r) ≡ Err Invalid → ⊥
      by_test true r q = clash (cc)
      by_test false r q = clash (cc)

  pub never_invalid : NeverInvalid l
  never_invalid = record { operations = operations; reports = reports }
