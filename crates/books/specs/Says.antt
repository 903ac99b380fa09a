-- Inside: what an entry's answer says: `says` of crate error, with zeros of the value's shape. `Readers` (crates/demands/specs/Readers.antt) says it.
use Rattle.std.specs.Prelude.{Result}
use Rattle.error.specs.declared.Refusal.{Refusal}
use Rattle.error.specs.Said.{Said, says}
use Rattle.usage.specs.Formulas.{new_idle}
use Rattle.books.specs.declared.Entry.{Entry}
use Rattle.books.specs.Running.{nothing_booked}

abbrev pub entered_says : Result Entry Refusal → Said Entry
entered_says answer = says (record { cycles = 0; books = nothing_booked; usage = new_idle }) answer
