-- Inside: what each answer of a thread record's leaf says, and what a change leaves of a lent record. `Readers` and `LentForms` (crates/demands/specs, Readers.antt and Lent.antt) say it of all.
use Rattle.std.specs.Prelude.{ℕ, ℤ, Bool, true, false, Result, Ok, Err}
use Rattle.error.specs.declared.Refusal.{Refusal}
use Rattle.error.specs.Said.{Said, accepted, says, number_in}
use Rattle.usage.specs.declared.ThreadUsage.{ThreadUsage}
use Rattle.usage.specs.declared.SysTrackDecision.{SysTrackDecision}
use Rattle.usage.specs.declared.SysTrackDecision.TheVariants.{NoOp, Apply}
use Rattle.usage.specs.declared.StartDecision.{StartDecision}
use Rattle.usage.specs.declared.StartDecision.TheVariants.{RecordStart, RecordOnly}
use Rattle.usage.specs.declared.StopDecision.{StopDecision}
use Rattle.usage.specs.declared.StopDecision.TheVariants.{Accumulate, Skip}
use Rattle.usage.specs.Formulas.{new_idle}
use Rattle.usage.specs.Leaves.{enabled, disabled, accumulated}

-- of a refused one the fresh record
abbrev pub changed_says : Result ThreadUsage Refusal → Said ThreadUsage
changed_says answer = says new_idle answer

-- the record afterwards: the new one, or the old one where the change was refused
unfoldable pub kept : ThreadUsage → Result ThreadUsage Refusal → ThreadUsage
kept before (Ok u) = u
kept before (Err why) = before

-- the answer of a change in place, whose record is elsewhere
unfoldable pub done : Result ThreadUsage Refusal → Result (Unit {0}) Refusal
done (Ok u) = Ok tt
done (Err why) = Err why

-- code and record together, as C has them
pub record InPlace : Type 0 where
  pub code : ℤ
  pub usage : ThreadUsage

abbrev pub outcome_of : ThreadUsage → Result ThreadUsage Refusal → InPlace
outcome_of before answer = record { code = number_in answer; usage = kept before answer }

-- of each change, for whoever keeps the record in place
abbrev pub enable_outcome : ThreadUsage → InPlace
enable_outcome u = outcome_of u (enabled u)

abbrev pub disable_outcome : ThreadUsage → InPlace
disable_outcome u = outcome_of u (disabled u)

abbrev pub accumulate_outcome : ThreadUsage → ℕ → InPlace
accumulate_outcome u cycles = outcome_of u (accumulated u cycles)

-- a decision is never refused, and says yes or no
unfoldable pub sys_track_says : SysTrackDecision → Said Bool
sys_track_says NoOp = accepted false
sys_track_says Apply = accepted true

unfoldable pub start_says : StartDecision → Said Bool
start_says RecordStart = accepted true
start_says RecordOnly = accepted false

unfoldable pub stop_says : StopDecision → Said Bool
stop_says Accumulate = accepted true
stop_says Skip = accepted false
