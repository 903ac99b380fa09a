-- Inside: an operation and a report as their contracts cite them, tests in 01's order and then the entry or what the record tells. `EveryOperation` and `OperationNumbers` (Laws.antt) and `EntriesExact` (crates/demands/specs/Entries.antt) say what they do.
use Rattle.std.specs.Prelude.{ℕ, Bool, List, [], ◌∷◌, ◌++◌, length, set, Result, Ok, Err}
use Rattle.error.specs.declared.Refusal.{Refusal}
use Rattle.error.specs.declared.Refusal.TheVariants.{Invalid, BadThread}
use Rattle.error.specs.InOrder.{Row, in_order}
use Rattle.units.specs.declared.Cycles.{Cycles}
use Rattle.books.specs.declared.Operation.{Operation}
use Rattle.books.specs.Running.{stamp_of, no_thread, unrecorded, past, concerned}
use Rattle.books.specs.Entries.{enter_of}
use Rattle.books.specs.Enter.{entry_tests}
use Rattle.ledger.specs.declared.Ledger.{Ledger}
use Rattle.ledger.specs.declared.Ledgered.{Ledgered}
use Rattle.ledger.specs.Records.{thread_record, report_value, concerned_record}
use Rattle.books.specs.declared.Books.{Books}
use Rattle.books.specs.declared.Entry.{Entry}
use Rattle.usage.specs.declared.ThreadUsage.{ThreadUsage}
use Rattle.ledger.specs.declared.ThreadReport.{ThreadReport}

-- a ledger of these parts
abbrev pub ledger_of : Books → List ThreadUsage → Ledger
ledger_of books threads = record { books = books; threads = threads }

abbrev pub refused_with : Ledger → Refusal → Ledgered
refused_with l why = record { answer = Err why; ledger = l }

-- an accepted entry is stored; a refused one leaves the whole ledger as it was
unfoldable pub stored_in : Ledger → ℕ → Result Entry Refusal → Ledgered
stored_in l k (Ok e) = record {
  answer = Ok e.cycles;
  ledger = record { books = e.books; threads = set l.threads k e.usage };
}
stored_in l k (Err why) = refused_with l why

-- the state's test comes first, whatever is asked; then whether the table has the thread
abbrev pub table_tests : Ledger → Bool → List (Row Refusal)
table_tests l missing = (unrecorded l.books (length l.threads), Invalid) ∷ (missing, BadThread) ∷ []

-- and an operation's own
abbrev pub operate_tests : Ledger → Operation → List (Row Refusal)
operate_tests l op = table_tests l (past op (length l.threads)) ++ entry_tests l.books op

unfoldable pub operate_of : Ledger → Cycles → Operation → Ledgered
operate_of l reading op =
    in_order (operate_tests l op) (refused_with l)
    (stored_in l (concerned l.books op) (enter_of l.books (concerned_record l op) (stamp_of reading.0) op))

abbrev pub report_tests : Ledger → ℕ → List (Row Refusal)
report_tests l i = table_tests l (no_thread (length l.threads) i)

unfoldable pub report_of : Ledger → ℕ → Result ThreadReport Refusal
report_of l i = in_order (report_tests l i) Err (Ok (report_value (thread_record l i)))
