-- Each outcome of an operation on the whole ledger, over a table of any number of slots.
use Rattle.std.specs.Prelude.{Result, Ok, Err}
use Prim.Native.Nat.{ℕ, ◌<◌}
use mathlib.Core.Path.{◌≡◌, sym, ap, ◌∙◌}
use mathlib.Core.Bool.{Bool, true, false, cond, not, ◌&&◌}
use lib.ListN.{length}
use lib.Dec.{eqb}
use borrow.Author.Tests.{leb-false}
use Rattle.error.specs.declared.Refusal.{Refusal}
use Rattle.error.specs.declared.Refusal.TheVariants.{Invalid, BadThread}
use Rattle.units.specs.declared.Cycles.{Cycles}
use Rattle.books.specs.declared.Books.{Books}
use Rattle.books.specs.declared.Entry.{Entry}
use Rattle.books.specs.declared.Operation.{Operation}
use Rattle.books.specs.declared.Operation.TheVariants as O
use Rattle.books.specs.Enter.{entry_of}
use Rattle.books.specs.Running.{no_thread, unrecorded, past, busy, concerned}
use Rattle.books.proofs.Outcomes.{entry_free}
use Rattle.ledger.specs.declared.Ledger.{Ledger}
use Rattle.ledger.specs.declared.Ledgered.{Ledgered}
use Rattle.ledger.specs.declared.ThreadReport.{ThreadReport}
use Rattle.ledger.specs.Operate.{refused_with, stored_in, operate_of, report_of}
use Rattle.ledger.specs.Records.{thread_record, report_value}

-- the thread that goes is in the table where it has a record
going_within : (b : Books) (slots i : ℕ) → unrecorded b slots ≡ false → i < slots → cond (eqb b.stamp 0) i b.running < slots
unfolding unrecorded
going_within b slots i e h = by_test (eqb b.stamp 0) e
  where
    by_test : (stopped : Bool) → not stopped && no_thread slots b.running ≡ false → cond stopped i b.running < slots
    by_test true q = h
    by_test false q = leb-false _ _ q

-- the record concerned is in the table where the tests let the operation through
pub within : (b : Books) (op : Operation) (slots : ℕ) → 0 < slots → unrecorded b slots ≡ false → past op slots ≡ false → concerned b op < slots
unfolding concerned past
within b (O.Start i) slots p e q = leb-false _ _ q
within b (O.Switch i) slots p e q = going_within b slots i e (leb-false _ _ q)
within b O.Stop slots p e q = going_within b slots 0 e p
within b (O.Enable i) slots p e q = leb-false _ _ q
within b (O.Disable i) slots p e q = leb-false _ _ q

module _ (l : Ledger) (reading : Cycles) (op : Operation) {slots : ℕ} (n : length l.threads ≡ slots) where
  pub no_record : unrecorded l.books slots ≡ true → refused_with l Invalid ≡ operate_of l reading op
  unfolding operate_of
  no_record e = simp (n, e)

  module _ (recorded : unrecorded l.books slots ≡ false) where
    pub no_thread_lem : past op slots ≡ true → refused_with l BadThread ≡ operate_of l reading op
    unfolding operate_of
    no_thread_lem e = simp (n, recorded, e)

    module _ (named : past op slots ≡ false) where
      module _ (free : busy l.books op ≡ false) {k : ℕ} {x : Result Entry Refusal} (ek : k ≡ concerned l.books op) (ex : x ≡ entry_of l.books (thread_record l k) reading op) where
        pub storing : operate_of l reading op ≡ stored_in l k x
        unfolding operate_of
        storing = simp (n, recorded, named, free, ex ∙ entry_free l.books (thread_record l k) reading op free, ek)

        pub entry_refused : {why : Refusal} {answer : Ledgered} → x ≡ Err why → answer ≡ refused_with l why → answer ≡ operate_of l reading op
        unfolding stored_in
        entry_refused q a = a ∙ sym (storing ∙ ap (stored_in l k) q)

        pub entry_stored : {e : Entry} → x ≡ Ok e → stored_in l k (Ok e) ≡ operate_of l reading op
        entry_stored q = sym (storing ∙ ap (stored_in l k) q)

module _ (l : Ledger) (i : ℕ) {slots : ℕ} (n : length l.threads ≡ slots) where
  pub report_past : unrecorded l.books slots ≡ false → no_thread slots i ≡ true → Err BadThread ≡ report_of l i
  unfolding report_of
  report_past e past = simp (n, e, past)

  pub reported : {report : ThreadReport} → unrecorded l.books slots ≡ false → no_thread slots i ≡ false → report ≡ report_value (thread_record l i) → Ok report ≡ report_of l i
  unfolding report_of
  reported e named is = simp (n, e, named, is)
