-- Inside: an entry with 01's test before it, as its contract cites it. `EveryEntry` (Laws.antt) says what it does.
use Rattle.std.specs.Prelude.{List, [], ◌∷◌, Result, Err}
use Rattle.error.specs.declared.Refusal.{Refusal}
use Rattle.error.specs.declared.Refusal.TheVariants.{Already}
use Rattle.error.specs.InOrder.{Row, in_order}
use Rattle.units.specs.declared.Cycles.{Cycles}
use Rattle.usage.specs.declared.ThreadUsage.{ThreadUsage}
use Rattle.books.specs.declared.Books.{Books}
use Rattle.books.specs.declared.Operation.{Operation}
use Rattle.books.specs.Entries.{enter_of}
use Rattle.books.specs.Running.{stamp_of, busy}
use Rattle.books.specs.declared.Entry.{Entry}

-- what is tested over the books and one record: a start while one runs is refused
abbrev pub entry_tests : Books → Operation → List (Row Refusal)
entry_tests b op = (busy b op, Already) ∷ []

unfoldable pub entry_of : Books → ThreadUsage → Cycles → Operation → Result Entry Refusal
entry_of b u reading op = in_order (entry_tests b op) Err (enter_of b u (stamp_of reading.0) op)
