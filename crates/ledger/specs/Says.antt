-- Inside: what a report's answer says: `says` of crate error, with zeros of the value's shape. `Readers` (crates/demands/specs/Readers.antt) says it.
use Rattle.std.specs.Prelude.{Result}
use Rattle.error.specs.declared.Refusal.{Refusal}
use Rattle.error.specs.Said.{Said, says}
use Rattle.ledger.specs.declared.ThreadReport.{ThreadReport}

abbrev pub reported_says : Result ThreadReport Refusal → Said ThreadReport
reported_says answer = says (record { total = record { 0 = 0 }; average = record { 0 = 0 } }) answer
