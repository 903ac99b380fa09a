-- What an operation does to the whole ledger, for every thread.
use Rattle.std.specs.Prelude.{Result, Ok, Err}
use Prim.Native.Nat.{ℕ}
use mathlib.Core.Path.{◌≡◌, refl, sym}
use lib.ListN.{length, set, length-set}
use lib.Seq.{get_or-set_same, get_or-set_other}
use Rattle.error.specs.declared.Refusal.{Refusal}
use Rattle.error.proofs.Ordered.{by_outcome}
use Rattle.usage.specs.Formulas.{new_idle}
use Rattle.books.specs.declared.Entry.{Entry}
use Rattle.books.specs.Running.{stamp_of, concerned}
use Rattle.books.specs.Entries.{enter_of}
use Rattle.books.proofs.Entering.{entry_is}
use Rattle.ledger.specs.declared.Ledger.{Ledger}
use Rattle.ledger.specs.declared.Ledgered.{Ledgered}
use Rattle.ledger.specs.Operate.{refused_with, stored_in, operate_tests, operate_of}
use Rattle.ledger.specs.Records.{thread_record}
use Rattle.ledger.specs.Laws.{AnswerIs, EveryOperation}
use Rattle.ledger.proofs.Operating.{within}

-- what holds of every refusal and of what an accepted entry leaves holds of the outcome
pub stored_by : (l : Ledger) (at : ℕ) (P : Ledgered → Type 0) (x : Result Entry Refusal) → ((why : Refusal) → P (refused_with l why)) → ((e : Entry) → x ≡ Ok e → P (record { answer = Ok e.cycles; ledger = record { books = e.books; threads = set l.threads at e.usage } })) → P (stored_in l at x)
unfolding stored_in
stored_by l at P (Ok e) refused f = f e refl
stored_by l at P (Err why) refused f = refused why

pub every_operation : EveryOperation
unfolding operate_of
every_operation l reading op some =
    by_outcome (refused_with l) _ P (operate_tests l op) (λ why. refl)
    (λ tests.
    stored_by l k P (enter_of l.books (thread_record l k) (stamp_of reading.0) op) (λ why. refl)
    (λ e p.
    let inside = within l.books op (length l.threads) some tests.0 tests.1.0 in
    record {
      entry = rw (get_or-set_same l.threads k e.usage new_idle inside) (entry_is _ _ _ _ e p);
      others = λ i other. get_or-set_other l.threads k i e.usage new_idle (λ q. other (sym q));
      slots = length-set l.threads k e.usage;
    }))
  where
    k : ℕ
    k = concerned l.books op

    P : Ledgered → Type 0
    P o = AnswerIs l reading op o.ledger o.answer
