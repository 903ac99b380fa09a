-- Believed: what is put into a lent buffer. With room enough the text stands there and the answer is the place after it; else -28, or -139 where a record's number would have more than 64 bits, and the buffer is as it was.
use Rattle.std.specs.Prelude.{ℕ, ◌+◌, ◌*◌, ◌/◌, ◌≤◌, ◌<◌, ◌≡◌, cond, ◌||◌, List, [], ◌∷◌, ◌++◌, ℤ, pos, length, replicate, ltb, leb, eqb, Result, Ok, Err}
use Rattle.std.proofs.lemmas.List.Edits.{sets}
use Rattle.std.specs.Borrow.{Bor, MutBor}
use Rattle.error.specs.declared.Refusal.TheVariants.{NoSpace, Overflow}
use Rattle.error.specs.Numbers.{max64}
use Rattle.machine.specs.declared.Machine.{Machine}
use Rattle.lines.specs.Text.{decimal, values_text, line_text, end_text, tail_text, input_text}
use Rattle.lines.specs.Naming.{label_of}
use Rattle.lines.proofs.put_line.Reads as lines-put-line
use Rattle.lines.proofs.put_values.Reads as lines-put-values
use Rattle.lines.proofs.put_refusal.Reads as lines-put-refusal
use Rattle.lines.proofs.put_end.Reads as lines-put-end
use Rattle.lines.proofs.put_tail.Reads as lines-put-tail
use Rattle.lines.proofs.put_input.Reads as lines-put-input
use Rattle.lines.proofs.label.Label.of.Reads as lines-Label-of
use Rattle.lines.proofs.label.Label.next.Reads as lines-Label-next
use Rattle.lines.proofs.label.put_label.Reads as lines-put-label
use Rattle.transcript.specs.Replay.{machine_after, lines_from, whole_records, trace_text}
use Rattle.transcript.proofs.room_for.Reads as transcript-room-for
use Rattle.transcript.proofs.replay.Reads as transcript-replay
use Rattle.transcript.proofs.put_part.Reads as transcript-put-part
use Rattle.demands.specs.Terms.{thread_slots}
use Rattle.demands.specs.Contract.{EveryLent, Every, Gives1}
use Rattle.error.specs.declared.Refusal.{Refusal}

pub record Writes (room : ℕ) (before : List ℕ) (at : ℕ) (text : List ℕ) (answer : Result ℕ Refusal) (after : List ℕ) : Type 0 where
  pub enough : at + room ≤ length before → (answer ≡ Ok (at + length text)) × (after ≡ sets before at text)
  pub no_room : length before < at + room → (answer ≡ Err NoSpace) × (after ≡ before)

-- room for the text of any trace of so many bytes; 46 is that of the longest `end` line
abbrev pub room_of : ℕ → ℕ
room_of bytes = cond (ltb 64000 bytes) (length input_text) (bytes / 16 * 75 + (length tail_text + 46))

-- the room of the longest line is 75 bytes, and 54 of what follows its number
pub record Writers : Type 0 where
  -- a line, and each of the last ones, asks for its own room; what of a line follows its number, for that of the longest
  pub line : (out : MutBor (List ℕ)) (at number : ℕ) (code : ℤ) (x y : ℕ) → EveryLent (λ exit. exit.0.now) lines-put-line.Post (out, (at, (number, (code, (x, (y, tt)))))) (Writes (length (line_text number code x y)) out.now at (line_text number code x y))
  pub end : (out : MutBor (List ℕ)) (at cycles reading : ℕ) → EveryLent (λ exit. exit.0.now) lines-put-end.Post (out, (at, (cycles, (reading, tt)))) (Writes (length (end_text cycles reading)) out.now at (end_text cycles reading))
  pub tail : (out : MutBor (List ℕ)) (at : ℕ) → EveryLent (λ exit. exit.0.now) lines-put-tail.Post (out, (at, tt)) (Writes (length tail_text) out.now at tail_text)
  pub input : (out : MutBor (List ℕ)) (at : ℕ) → EveryLent (λ exit. exit.0.now) lines-put-input.Post (out, (at, tt)) (Writes (length input_text) out.now at input_text)
  pub values : (out : MutBor (List ℕ)) (at x y : ℕ) → EveryLent (λ exit. exit.0.now) lines-put-values.Post (out, (at, (x, (y, tt)))) (Writes 54 out.now at (values_text (pos 0) x y))
  pub refusal : (out : MutBor (List ℕ)) (at : ℕ) (code : ℤ) → EveryLent (λ exit. exit.0.now) lines-put-refusal.Post (out, (at, (code, tt))) (Writes 54 out.now at (values_text code 0 0))
  -- a label is made of a number or is the one after another label, and there is no other; the last is that of 100 x 2^64 - 1
  pub label : Gives1 lines-Label-of.Post label_of
  pub label_next : (n : ℕ) → n < 100 * max64 + 99 → Every lines-Label-next.Post (label_of n, tt) (λ l. l ≡ label_of (n + 1))
  pub label_last : Every lines-Label-next.Post (label_of (100 * max64 + 99), tt) (λ l. l ≡ label_of (100 * max64 + 99))
  -- in the room of a line: first the digits but the last two, filled up to eight with bytes of 0, where those are one to eight; then over them the number, 0 where it has more than 64 bits, and a space
  pub put_label_lem :
      (out : MutBor (List ℕ)) (at n : ℕ) →
      let kept = cond (eqb (n / 100) 0 || leb 100000000 (n / 100)) [] (sets (replicate 8 0) 0 (decimal (n / 100))) in
      let text = decimal (cond (ltb max64 n) 0 n) ++ 32 ∷ [] in
      EveryLent (λ exit. exit.0.now) lines-put-label.Post (out, (at, (label_of n, tt))) (λ answer after.
      (at + 75 ≤ length out.now → (answer ≡ Ok (at + length text)) × (after ≡ sets (sets out.now at kept) at text)) ×
      (length out.now < at + 75 → (answer ≡ Err NoSpace) × (after ≡ out.now)))
  -- a trace's text, with room for any trace of so many bytes
  pub replay : (trace : Bor (List ℕ)) (out : MutBor (List ℕ)) → EveryLent (λ exit. exit.1.0.now) transcript-replay.Post (trace, (out, tt)) (Writes (room_of (length trace.now)) out.now 0 (trace_text thread_slots trace.now))
  pub room_for_lem : Gives1 transcript-room-for.Post room_of
  -- a part of a trace, from any machine and number: the numbers have to fit, and then so has the longest text of so many records
  pub part :
      (m : Machine) (first : ℕ) (trace : Bor (List ℕ)) (out : MutBor (List ℕ)) (at : ℕ) →
      let ds = whole_records trace.now in
      let count = length trace.now / 16 in
      EveryLent (λ exit. exit.1.1.1.0.now) transcript-put-part.Post (m, (first, (trace, (out, (at, tt))))) (λ answer after.
      (first + count ≤ max64 → Writes (count * 75) out.now at (lines_from m first ds) answer.written after) ×
      (max64 < first + count → (answer.written ≡ Err Overflow) × (after ≡ out.now)) ×
      (answer.machine ≡ cond (ltb max64 (first + count) || ltb (length out.now) (at + count * 75)) m (machine_after m ds)))
