-- Inside: what the loop's private workers answer and ask of their caller, and what the records' lines leave.
use Rattle.std.specs.Prelude.{ℕ, ◌+◌, ◌*◌, ◌/◌, ◌≤◌, ◌≡◌, List, length}
use Rattle.std.proofs.lemmas.List.Edits.{sets}
use Rattle.error.specs.Numbers.{max64}
use Rattle.table.specs.Says.{Outcome}
use Rattle.table.specs.Says.{outcome_says}
use Rattle.machine.specs.declared.Machine.{Machine}
use Rattle.lines.specs.declared.label.Label.{Label}
use Rattle.lines.specs.Buffer.{line_room}
use Rattle.lines.specs.Naming.{label_text, underneath}
use Rattle.lines.specs.Writing.{Put}
use Rattle.lines.specs.Text.{values_text}
use Rattle.transcript.specs.declared.Replayed.{Replayed}
use Rattle.transcript.specs.Replay.{records_from, machine_after, lines_from}
use Rattle.transcript.specs.Buffer.{last_room, most_bytes}

-- the label stands in the buffer over what was put underneath it, and `end` is the place after it
pub record Labelled (before now : List ℕ) (at end : ℕ) (l : Label) : Type 0 where
  pub put : Put (sets before at (underneath l)) now at end (label_text l)

-- the numbers fit, and so do the longest lines
pub record HasRoom (first count : ℕ) (out : List ℕ) (at : ℕ) : Type 0 where
  pub numbers : first + count ≤ max64
  pub places : count * 16 ≤ max64
  pub room : at + count * line_room ≤ length out

pub record Fits (trace out : List ℕ) : Type 0 where
  pub few : length trace ≤ most_bytes
  pub room : length trace / 16 * line_room + last_room ≤ length out

-- the lines of so many records
pub record Replays (m : Machine) (first count : ℕ) (trace before now : List ℕ) (at : ℕ) (r : Replayed) : Type 0 where
  pub machine : r.machine ≡ machine_after m (records_from count trace 0)
  pub end : r.end ≡ at + length (lines_from m first (records_from count trace 0))
  pub bytes : now ≡ sets before at (lines_from m first (records_from count trace 0))
  pub within : r.end ≤ at + count * line_room

unfoldable pub rest_of : Outcome → List ℕ
rest_of o = values_text (outcome_says o).number (outcome_says o).value.x (outcome_says o).value.y
