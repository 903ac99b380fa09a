-- Inside: what the answer of a writer says: `says` of crate error, 0 where it is refused. `Readers` (crates/demands/specs/Readers.antt) says it.
use Rattle.std.specs.Prelude.{ℕ, Result}
use Rattle.error.specs.declared.Refusal.{Refusal}
use Rattle.error.specs.Said.{Said, says}

abbrev pub written_says : Result ℕ Refusal → Said ℕ
written_says answer = says 0 answer
