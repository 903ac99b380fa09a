-- Believed: a trace's text. A line for each whole record, from any machine and record number, and the lines that end it.
use Rattle.std.specs.Prelude.{ℕ, zero, suc, ◌+◌, ◌/◌, ◌%◌, cond, List, [], ◌∷◌, ◌++◌, length, ltb, eqb}
use Rattle.trace.specs.Decode.{Decoded}
use Rattle.trace.specs.Decode.{decode_of}
use Rattle.table.specs.Says.{Outcome}
use Rattle.table.specs.Says.{outcome_says}
use Rattle.machine.specs.declared.Machine.{Machine}
use Rattle.machine.specs.Step.{fresh_machine, step_of}
use Rattle.lines.specs.Text.{line_text, end_text, tail_text, input_text}

-- so many records of a trace, from a place on
unfoldable pub records_from : ℕ → List ℕ → ℕ → List Decoded
records_from zero s from = []
records_from (suc n) s from = decode_of s from ∷ records_from n s (from + 16)

-- the machine after them
unfoldable pub machine_after : Machine → List Decoded → Machine
machine_after m [] = m
machine_after m (d ∷ ds) = machine_after (step_of m d).machine ds

-- a record's line
unfoldable pub outcome_text : ℕ → Outcome → List ℕ
outcome_text n o = line_text n (outcome_says o).number (outcome_says o).value.x (outcome_says o).value.y

-- a line for each, numbered on
unfoldable pub lines_from : Machine → ℕ → List Decoded → List ℕ
lines_from m n [] = []
lines_from m n (d ∷ ds) = outcome_text n (step_of m d).outcome ++ lines_from (step_of m d).machine (suc n) ds

-- the records of a whole trace
abbrev pub whole_records : List ℕ → List Decoded
whole_records s = records_from (length s / 16) s 0

-- A short last record gives `tail -22`. Last line: `end`, T, last reading.
unfoldable pub last_text : ℕ → ℕ → ℕ → List ℕ
last_text left cycles reading = cond (eqb left 0) [] tail_text ++ end_text cycles reading

-- each 0 if none
abbrev pub last_of : ℕ → Machine → List ℕ
last_of left m = last_text left (cond m.ready m.timer.counter.cycles.0 0) (cond m.ready m.timer.clock.last.0 0)

unfoldable pub text_from : Machine → List ℕ → List ℕ
text_from m s = lines_from m 0 (whole_records s) ++ last_of (length s % 16) (machine_after m (whole_records s))

-- Over 64000 bytes: the single line `input -28`.
unfoldable pub trace_text : ℕ → List ℕ → List ℕ
trace_text slots s = cond (ltb 64000 (length s)) input_text (text_from (fresh_machine slots) s)
