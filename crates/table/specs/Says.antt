-- Believed: what a step's outcome says. 01's number, and the two values of the record's line.
use Rattle.std.specs.Prelude.{ℕ, cond, Result, Ok, Err}
use Rattle.error.specs.Said.{Said, accepted, refused}
use Rattle.clock.specs.declared.SampleTaken.{SampleTaken}
use Rattle.clock.specs.declared.Announcement.{Announcement}
use Rattle.table.specs.declared.Values.{Values}
use Rattle.table.specs.declared.Reason.{Reason}
use Rattle.table.specs.Table.{refusal_of}

abbrev pub values : ℕ → ℕ → Values
values x y = record { x = x; y = y }

-- Sample: elapsed, wrap. Announce: dticks, announced.
abbrev pub sample_tells : SampleTaken → Values
sample_tells taken = values taken.elapsed (cond taken.wrap 1 0)

abbrev pub announcement_tells : Announcement → Values
announcement_tells a = values a.dticks.0 a.timer.clock.announced.0

-- accepted with what its line tells, or turned away by a row
abbrev pub Outcome : Type 0
Outcome = Result Values Reason

-- refused: 0 0
unfoldable pub outcome_says : Outcome → Said Values
outcome_says (Ok told) = accepted told
outcome_says (Err why) = refused (refusal_of why) (values 0 0)
