-- An entry where no start comes while one runs.
use mathlib.Core.Path.{◌≡◌, refl}
use mathlib.Core.Bool.{false}
use Rattle.units.specs.declared.Cycles.{Cycles}
use Rattle.usage.specs.declared.ThreadUsage.{ThreadUsage}
use Rattle.books.specs.declared.Books.{Books}
use Rattle.books.specs.declared.Operation.{Operation}
use Rattle.books.specs.Entries.{enter_of}
use Rattle.books.specs.Running.{stamp_of, busy}
use Rattle.books.specs.Enter.{entry_of}

-- no start while one runs: the entry is made
pub entry_free : (b : Books) (u : ThreadUsage) (reading : Cycles) (op : Operation) → busy b op ≡ false → entry_of b u reading op ≡ enter_of b u (stamp_of reading.0) op
unfolding entry_of
entry_free b u reading op free = rw free refl
