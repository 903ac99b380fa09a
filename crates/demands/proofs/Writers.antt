-- Each writer puts its text into the room that it asks for, or turns the buffer away.
use Rattle.std.specs.Prelude.{Ok, Err}
use Prim.Native.Nat.{ℕ, ◌+◌, ◌*◌, ◌/◌, ◌≤◌, ◌<◌}
use mathlib.Core.Path.{◌≡◌, refl, ap, ◌∙◌}
use mathlib.Core.Bool.{Bool, true, false, cond, ◌||◌}
use mathlib.Core.List.{List, [], ◌∷◌, ◌++◌}
use lib.ListN.{length, replicate}
use lib.Seq.{sets}
use native.Mathlib.Omega.{arith}
use lib.Dec.{ltb, leb, eqb}
use borrow.Author.Tests.{le-leb, lt-leb, le-ltb, lt-ltb}
use Rattle.error.specs.declared.Refusal.TheVariants.{NoSpace, Overflow}
use Rattle.error.specs.Numbers.{max64}
use Rattle.machine.specs.declared.Machine.{Machine}
use Rattle.lines.specs.Buffer.{fits, put_of, written_of, roomy_put, roomy_written}
use Rattle.lines.specs.Naming.{label_text, label_put, label_of}
use Rattle.lines.specs.Text.{decimal}
use Rattle.lines.proofs.Named.{next_of, last_stays, underneath_of, text_of}
use Rattle.transcript.specs.declared.Part.{Part}
use Rattle.transcript.specs.Replay.{machine_after, lines_from, whole_records, trace_text}
use Rattle.transcript.specs.Buffer.{part_refused, part_of, part_buffer, room_for, replay_of, replayed_of}
use Rattle.demands.specs.Terms.{thread_slots}
use Rattle.demands.specs.Writers.{Writes, room_of, Writers}

-- the machine of a part that two tests may turn away
machine_of : (m : Machine) (t u : Bool) (first second part : Part) → first.machine ≡ m → second.machine ≡ m → (cond t first (cond u second part)).machine ≡ cond (t || u) m part.machine
machine_of m true u first second part p q = p
machine_of m false true first second part p q = q
machine_of m false false first second part p q = refl

-- a text that asks for its own room, and one that asks for that of the longest
own_room : (buffer : List ℕ) (at : ℕ) (text : List ℕ) → Writes (length text) buffer at text (written_of buffer at text) (put_of buffer at text)
unfolding fits put_of written_of
own_room buffer at text = record { enough = λ h. rw (le-leb _ _ h) (refl, refl); no_room = λ h. rw (lt-leb _ _ h) (refl, refl) }

longest_room : (room : ℕ) (buffer : List ℕ) (at : ℕ) (text : List ℕ) → Writes room buffer at text (roomy_written room buffer at text) (roomy_put room buffer at text)
unfolding roomy_put roomy_written
longest_room room buffer at text = record { enough = λ h. rw (le-ltb _ _ h) (refl, refl); no_room = λ h. rw (lt-ltb _ _ h) (refl, refl) }

labels : (buffer : List ℕ) (at n : ℕ) →
    let kept = cond (eqb (n / 100) 0 || leb 100000000 (n / 100)) [] (sets (replicate 8 0) 0 (decimal (n / 100))) in
    let text = decimal (cond (ltb max64 n) 0 n) ++ 32 ∷ [] in
    (at + 75 ≤ length buffer → (roomy_written 75 buffer at (label_text (label_of n)) ≡ Ok (at + length text)) × (label_put buffer at (label_of n) ≡ sets (sets buffer at kept) at text)) ×
    (length buffer < at + 75 → (roomy_written 75 buffer at (label_text (label_of n)) ≡ Err NoSpace) × (label_put buffer at (label_of n) ≡ buffer))
unfolding roomy_written label_put
labels buffer at n = (
  (λ h. rw (le-ltb _ _ h, text_of n, underneath_of n) (refl, refl)),
  (λ h. rw (lt-ltb _ _ h) (refl, refl)),
)

replays : (slots : ℕ) (s out : List ℕ) → Writes (room_of (length s)) out 0 (trace_text slots s) (replay_of slots s out) (replayed_of slots s out)
unfolding replay_of replayed_of room_for
replays slots s out = record {
  enough = λ h. let room : room_of (length s) ≤ length out = omega (arith, h) in rw (le-ltb _ _ room) (ap Ok (omega arith), refl);
  no_room = λ h. let room : length out < room_of (length s) = omega (arith, h) in rw (lt-ltb _ _ room) (refl, refl);
}

module _ (m : Machine) (first : ℕ) (s out : List ℕ) (at : ℕ) where
  part_written : first + length s / 16 ≤ max64 → Writes (length s / 16 * 75) out at (lines_from m first (whole_records s)) (part_of m first s out at).written (part_buffer m first s out at)
  unfolding part_of part_buffer
  part_written few = record { enough = λ h. rw (le-ltb _ _ few, le-ltb _ _ h) (refl, refl); no_room = λ h. rw (le-ltb _ _ few, lt-ltb _ _ h) (refl, refl) }

  part_numbers : max64 < first + length s / 16 → ((part_of m first s out at).written ≡ Err Overflow) × (part_buffer m first s out at ≡ out)
  unfolding part_of part_buffer
  part_numbers many = rw (lt-ltb _ _ many) (refl, refl)

  part_machine : (part_of m first s out at).machine ≡ cond (ltb max64 (first + length s / 16) || ltb (length out) (at + length s / 16 * 75)) m (machine_after m (whole_records s))
  unfolding part_of
  part_machine =
      let part : Part = record { written = Ok (at + length (lines_from m first (whole_records s))); machine = machine_after m (whole_records s) } in
      machine_of m (ltb max64 (first + length s / 16)) (ltb (length out) (at + length s / 16 * 75)) (part_refused m Overflow) (part_refused m NoSpace) part refl refl

-- what a contract says of answer and buffer
pub writers : Writers
unfolding room_for
writers = record {
  line = λ out at number code x y lives answer exit is. rw (is.0, is.1) (own_room _ _ _);
  end = λ out at cycles reading lives answer exit is. rw (is.0, is.1) (own_room _ _ _);
  tail = λ out at lives answer exit is. rw (is.0, is.1) (own_room _ _ _);
  input = λ out at lives answer exit is. rw (is.0, is.1) (own_room _ _ _);
  values = λ out at x y lives answer exit is. rw (is.0, is.1) (longest_room _ _ _ _);
  refusal = λ out at code lives answer exit is. rw (is.0, is.1) (longest_room _ _ _ _);
  label = λ n l given. given.2;
  label_next = λ n h l given. given.2 ∙ next_of n h;
  label_last = λ l given. given.2 ∙ last_stays;
  put_label_lem = λ out at n lives answer exit is. rw (is.0, is.1) (labels out.now at n);
  replay = λ trace out lives answer exit is. rw (is.0, is.1.0) (replays thread_slots trace.now out.now);
  room_for_lem = λ bytes r given. given.2;
  part = λ m first trace out at lives answer exit is. rw (is.0, is.1) (part_written m first _ _ at, part_numbers m first _ _ at, part_machine m first _ _ at);
}
