-- Inside: a trace's text put into a buffer, whole or part by part, as the contracts cite it. `Writers` (crates/demands/specs/Writers.antt) says it of both.
use Rattle.std.specs.Prelude.{ℕ, ◌+◌, ◌*◌, ◌/◌, cond, List, [], ◌∷◌, length, ltb, Result, Ok, Err}
use Rattle.std.proofs.lemmas.List.Edits.{sets}
use Rattle.error.specs.declared.Refusal.{Refusal}
use Rattle.error.specs.declared.Refusal.TheVariants.{NoSpace, Overflow}
use Rattle.error.specs.InOrder.{Row, in_order}
use Rattle.error.specs.Numbers.{max64}
use Rattle.machine.specs.declared.Machine.{Machine}
use Rattle.lines.specs.Text.{tail_text, input_text}
use Rattle.lines.specs.Buffer.{line_room, end_room}
use Rattle.transcript.specs.declared.Part.{Part}
use Rattle.transcript.specs.Replay.{machine_after, lines_from, whole_records, trace_text}

-- of a longer trace nothing is replayed
abbrev pub most_bytes : ℕ
most_bytes = 64000

-- a part of a trace, from any machine and number: the numbers have to fit, and so has the longest text of so many records
abbrev pub part_rows : ℕ → List ℕ → List ℕ → ℕ → List (Row Refusal)
part_rows first s out at = (ltb max64 (first + length s / 16), Overflow) ∷ (ltb (length out) (at + length s / 16 * line_room), NoSpace) ∷ []

abbrev pub part_refused : Machine → Refusal → Part
part_refused m why = record { written = Err why; machine = m }

unfoldable pub part_of : Machine → ℕ → List ℕ → List ℕ → ℕ → Part
part_of m first s out at = in_order (part_rows first s out at) (part_refused m) (record { written = Ok (at + length (lines_from m first (whole_records s))); machine = machine_after m (whole_records s) })

unfoldable pub part_buffer : Machine → ℕ → List ℕ → List ℕ → ℕ → List ℕ
part_buffer m first s out at = in_order (part_rows first s out at) (λ why. out) (sets out at (lines_from m first (whole_records s)))

-- room for the lines after the records', and for the text of any trace of so many bytes
abbrev pub last_room : ℕ
last_room = length tail_text + end_room

unfoldable pub room_for : ℕ → ℕ
room_for bytes = cond (ltb most_bytes bytes) (length input_text) (bytes / 16 * line_room + last_room)

-- with that room the place after the text, and the text in the buffer; else no room, and the buffer as it was
unfoldable pub replay_of : ℕ → List ℕ → List ℕ → Result ℕ Refusal
replay_of slots s out = cond (ltb (length out) (room_for (length s))) (Err NoSpace) (Ok (length (trace_text slots s)))

unfoldable pub replayed_of : ℕ → List ℕ → List ℕ → List ℕ
replayed_of slots s out = cond (ltb (length out) (room_for (length s))) out (sets out 0 (trace_text slots s))
