-- A record's line, the lines that end a trace's text, and the room that the whole of it is asked for.
use Rattle.std.specs.Prelude.{Result, Ok, Err}
use Prim.Native.Nat.{ℕ, ◌+◌, ◌*◌, ◌/◌, ◌%◌, ◌^◌, ◌≤◌, ◌<◌}
use mathlib.Core.Path.{◌≡◌, refl, sym, ap, ◌∙◌}
use mathlib.Core.Bool.{Bool, true, false, cond}
use mathlib.Core.List.{List, [], ◌∷◌, ◌++◌, append_assoc}
use native.Mathlib.Omega.{arith}
use native.Mathlib.Nat.{zero-add}
use lib.ListN.{length, length-append}
use lib.IntN.{ℤ, pos, negsuc}
use lib.Seq.{sets}
use lib.Dec.{ltb, leb}
use borrow.Author.Tests.{eq-eqb, ne_eqb, lt-ltb, le-ltb, ltb-true, ltb-false, leb-true}
use Rattle.error.specs.declared.Refusal.{Refusal}
use Rattle.error.specs.declared.Refusal.TheVariants.{NoSpace}
use Rattle.error.specs.Numbers.{max64}
use Rattle.machine.specs.declared.Machine.{Machine}
use Rattle.error.specs.Numbers.{number_of}
use Rattle.table.specs.declared.Reason.{Reason}
use Rattle.table.specs.declared.Values.{Values}
use Rattle.table.specs.Table.{refusal_of}
use Rattle.table.specs.Says.{Outcome, outcome_says}
use Rattle.lines.specs.Says.{written_says}
use lib.Signed.{mag}
use Rattle.machine.specs.Step.{fresh_machine}
use Rattle.transcript.specs.declared.Replayed.{Replayed}
use Rattle.std.specs.Result.{result_unwrap_or}
use Rattle.lines.specs.declared.label.Label.{Label}
use Rattle.lines.specs.Text.{decimal, signed, values_text, line_text, end_text, tail_text, input_text}
use Rattle.lines.specs.Buffer.{fits, put_of, written_of, roomy_put, roomy_written, line_room, rest_room}
use Rattle.lines.specs.Naming.{label_text, underneath, label_put, label_written, Named}
use Rattle.lines.specs.Writing.{Put}
use Rattle.transcript.specs.Room.{Labelled, Replays, rest_of}
use Rattle.transcript.specs.Replay.{machine_after, outcome_text, whole_records, lines_from, last_text, last_of, text_from, trace_text}
use Rattle.transcript.specs.Buffer.{last_room, room_for, replay_of, replayed_of, most_bytes}
use Rattle.lines.proofs.Decimal.{some_digits, size_64}
use Rattle.lines.proofs.Sizes.{line_size, rest_room_lem, end_room_lem, tail_size}
use Rattle.lines.proofs.Named.{named_text, underneath_short, covered}
use Rattle.lines.proofs.Stores.{then, in_parts}
use Rattle.lines.proofs.Whole.{accepted, put, refused, kept, roomy, put_length}
use Rattle.error.specs.Said.{number_in}

-- a text that was written where it fits
pub stands : (buffer : List ℕ) (at : ℕ) (text : List ℕ) {now : List ℕ} {written : Result ℕ Refusal} {end : ℕ} → at + length text ≤ length buffer → written ≡ written_of buffer at text → now ≡ put_of buffer at text → end ≡ result_unwrap_or written 0 → Put buffer now at end text
unfolding number_in
stands buffer at text h ew en ee = record { next = rw (ee, ew, accepted buffer at text h) refl; bytes = en ∙ put buffer at text h }

-- what follows the number, put where the longest has room
pub rest_stands : (o : Outcome) {buffer now : List ℕ} {at end x y : ℕ} {code : ℤ} {written : Result ℕ Refusal} → code ≡ (outcome_says o).number → x ≡ (outcome_says o).value.x → y ≡ (outcome_says o).value.y → length (values_text code x y) ≤ rest_room → at + rest_room ≤ length buffer → written ≡ roomy_written rest_room buffer at (values_text code x y) → now ≡ roomy_put rest_room buffer at (values_text code x y) → end ≡ result_unwrap_or written 0 → Put buffer now at end (rest_of o) × (end ≤ at + rest_room)
unfolding rest_of number_in
rest_stands o {buffer = buffer} {now = now} {at = at} {end = end} {x = x} {y = y} {code = code} ec ex ey short room ew en ee =
    let there = roomy buffer at (values_text code x y) rest_room room in
    let line : Put buffer now at end (values_text code x y) = record { next = rw (ee, ew, there.0) refl; bytes = en ∙ there.1 } in
    (rw (← ec, ← ex, ← ey) line, let next = line.next in omega arith)

-- the same of a step that was accepted, and of one that was turned away
pub told_stands : {told : Values} {buffer now : List ℕ} {at end x y : ℕ} {written : Result ℕ Refusal} → x ≡ told.x → y ≡ told.y → x < 2 ^ 64 → y < 2 ^ 64 → at + rest_room ≤ length buffer → written ≡ roomy_written rest_room buffer at (values_text (pos 0) x y) → now ≡ roomy_put rest_room buffer at (values_text (pos 0) x y) → end ≡ result_unwrap_or written 0 → Put buffer now at end (rest_of (Ok told)) × (end ≤ at + rest_room)
unfolding outcome_says
told_stands {told = told} {x = x} {y = y} ex ey few small room ew en ee = rest_stands (Ok told) refl ex ey (rest_room_lem (pos 0) x y (omega arith) few small) room ew en ee

pub refused_stands : {o : Outcome} {why : Reason} {code : ℤ} {buffer now : List ℕ} {at end : ℕ} {written : Result ℕ Refusal} → o ≡ Err why → code ≡ number_of (refusal_of why) → mag code < 2 ^ 31 → at + rest_room ≤ length buffer → written ≡ roomy_written rest_room buffer at (values_text code 0 0) → now ≡ roomy_put rest_room buffer at (values_text code 0 0) → end ≡ result_unwrap_or written 0 → Put buffer now at end (rest_of o) × (end ≤ at + rest_room)
unfolding outcome_says
refused_stands {why = why} {code = code} e is small room ew en ee = rw e (rest_stands (Err why) is refl refl (rest_room_lem code 0 0 small (omega arith) (omega arith)) room ew en ee)

-- a label, put where the longest line has room
pub label_stands : {buffer now : List ℕ} {at end : ℕ} (l : Label) {written : Result ℕ Refusal} → at + line_room ≤ length buffer → written ≡ label_written buffer at l → now ≡ label_put buffer at l → end ≡ result_unwrap_or written 0 → Labelled buffer now at end l
unfolding roomy_written label_put number_in
label_stands {buffer = buffer} {at = at} l room ew en ee =
    let there = le-ltb (length buffer) (at + line_room) room in
    record { put = record { next = rw (ee, ew, there) refl; bytes = en ∙ rw there refl } }

-- a number has a digit, with a sign or without
some_signed : (z : ℤ) → 1 ≤ length (signed z)
unfolding signed
some_signed (pos n) = some_digits n
some_signed (negsuc n) = omega arith

module _ {before between after : List ℕ} {at second end : ℕ} (l : Label) (n : ℕ) (o : Outcome) (named : Named l n) (small : n ≤ max64) (label : Labelled before between at second l) (rest : Put between after second end (rest_of o)) where
  -- the number's part and what follows are the line
  parts : label_text l ++ rest_of o ≡ outcome_text n o
  unfolding rest_of outcome_text line_text
  parts = ap (λ (t : List ℕ). t ++ rest_of o) (named_text l n named small) ∙ append_assoc (decimal n) (32 ∷ []) (rest_of o)

  -- and long enough to cover what the label left underneath
  long_enough : length (underneath l) ≤ length (label_text l ++ rest_of o)
  unfolding outcome_text
  long_enough =
      let code = (outcome_says o).number in
      let x = (outcome_says o).value.x in
      let y = (outcome_says o).value.y in
      let size = ap length parts ∙ line_size n code x y in
      omega (arith, underneath_short l n named, some_digits n, some_signed code, some_digits x, some_digits y)

  pub whole_line : Put before after at end (outcome_text n o)
  whole_line = record {
    next = let h = label.put.next in let k = rest.next in let size = ap length parts in omega (arith, length-append (label_text l) (rest_of o));
    bytes =
        rest.bytes ∙
        rw (label.put.bytes, label.put.next)
        (sym (in_parts (sets before at (underneath l)) at (label_text l) (rest_of o)) ∙
        (covered before at (underneath l) (label_text l ++ rest_of o) long_enough ∙ ap (sets before at) parts));
  }

-- the number's part leaves the rest its room
pub label_room : (l : Label) (n : ℕ) → Named l n → n ≤ max64 → length (label_text l) ≤ 21
label_room l n named small =
    let size = ap length (named_text l n named small) ∙ length-append (decimal n) (32 ∷ []) in
    omega (arith, size_64 n (omega arith))

pub within : (buffer : List ℕ) (at : ℕ) (text : List ℕ) {now : List ℕ} {written : Result ℕ Refusal} → written ≡ written_of buffer at text → now ≡ put_of buffer at text → (written_says written).value ≤ length now
unfolding written_of number_in fits
within buffer at text {now} {written} ew en = rw (ew, en, put_length buffer at text) (by_test (leb (at + length text) (length buffer)) refl)
  where
    by_test : (t : Bool) → leb (at + length text) (length buffer) ≡ t → (written_says (cond t (Ok (at + length text)) (Err NoSpace))).value ≤ length buffer
    by_test true e = leb-true _ _ e
    by_test false e = omega arith

-- a whole last record, and a short one
module _ (left cycles reading : ℕ) where
  pub none_left : left ≡ 0 → last_text left cycles reading ≡ end_text cycles reading
  unfolding last_text
  none_left e = simp (eq-eqb left 0 e)

  pub some_left : (left ≡ 0 → ⊥) → last_text left cycles reading ≡ tail_text ++ end_text cycles reading
  unfolding last_text
  some_left n = simp (ne_eqb left 0 n)

-- the last lines, put where they have room: the place after them, and the buffer
module _ (out : List ℕ) (at cycles reading : ℕ) (few : cycles < 2 ^ 64) (small : reading < 2 ^ 64) (room : at + last_room ≤ length out) where
  end_put : Put out (put_of out at (end_text cycles reading)) at (result_unwrap_or (written_of out at (end_text cycles reading)) 0) (end_text cycles reading)
  end_put = let size = end_room_lem cycles reading few small in stands out at (end_text cycles reading) (omega (arith, tail_size)) refl refl refl

  pub end_within : (result_unwrap_or (written_of out at (end_text cycles reading)) 0) ≤ at + last_room
  end_within = let size = end_room_lem cycles reading few small in omega (arith, tail_size, end_put.next)

  -- the tail first
  abbrev tailed : List ℕ
  tailed = put_of out at tail_text

  abbrev second : ℕ
  second = (result_unwrap_or (written_of out at tail_text) 0)

  tail_put : Put out tailed at second tail_text
  tail_put = stands out at tail_text (omega (arith, tail_size)) refl refl refl

  end_after : Put tailed (put_of tailed second (end_text cycles reading)) second (result_unwrap_or (written_of tailed second (end_text cycles reading)) 0) (end_text cycles reading)
  end_after =
      let size = end_room_lem cycles reading few small in
      stands tailed second (end_text cycles reading) (omega (arith, tail_size, tail_put.next, put_length out at tail_text)) refl refl refl

  pub both_within : (result_unwrap_or (written_of tailed second (end_text cycles reading)) 0) ≤ at + last_room
  both_within = let size = end_room_lem cycles reading few small in omega (arith, tail_size, tail_put.next, end_after.next)

  module _ (left : ℕ) (none : left ≡ 0) where
    alone : Put out (put_of out at (end_text cycles reading)) at (result_unwrap_or (written_of out at (end_text cycles reading)) 0) (last_text left cycles reading)
    alone = rw (none_left left cycles reading none) end_put

    pub end_next : (result_unwrap_or (written_of out at (end_text cycles reading)) 0) ≡ at + length (last_text left cycles reading)
    end_next = alone.next

    pub end_bytes : put_of out at (end_text cycles reading) ≡ sets out at (last_text left cycles reading)
    end_bytes = alone.bytes

  module _ (left : ℕ) (some : left ≡ 0 → ⊥) where
    both : Put out (put_of tailed second (end_text cycles reading)) at (result_unwrap_or (written_of tailed second (end_text cycles reading)) 0) (last_text left cycles reading)
    both = rw (some_left left cycles reading some) (then tail_text (end_text cycles reading) tail_put end_after)

    pub both_next : (result_unwrap_or (written_of tailed second (end_text cycles reading)) 0) ≡ at + length (last_text left cycles reading)
    both_next = both.next

    pub both_bytes : put_of tailed second (end_text cycles reading) ≡ sets out at (last_text left cycles reading)
    both_bytes = both.bytes

-- the records' lines and the last ones are the text
pub joined : {m : Machine} {s before between after : List ℕ} {end : ℕ} {r : Replayed} → Replays m 0 (length s / 16) s before between 0 r → Put between after r.end end (last_of (length s % 16) r.machine) → Put before after 0 end (text_from m s)
unfolding text_from
joined {m = m} {s = s} lines last =
    then (lines_from m 0 (whole_records s)) (last_of (length s % 16) (machine_after m (whole_records s)))
    (record { next = lines.end; bytes = lines.bytes })
    (rw lines.machine at last)

module _ (slots : ℕ) (s out : List ℕ) where
  -- over 64000 bytes
  pub large : most_bytes < length s → (written_of out 0 input_text ≡ replay_of slots s out) × (put_of out 0 input_text ≡ replayed_of slots s out)
  unfolding replay_of replayed_of room_for trace_text
  large h = by_test (ltb (length out) (length input_text)) refl
    where
      by_test : (t : Bool) → ltb (length out) (length input_text) ≡ t → (written_of out 0 input_text ≡ replay_of slots s out) × (put_of out 0 input_text ≡ replayed_of slots s out)
      by_test true e = let lacks = ltb-true (length out) (length input_text) e in (simp (lt-ltb _ _ h, e) (refused out 0 input_text (omega arith)), simp (lt-ltb _ _ h, e) (kept out 0 input_text (omega arith)))
      by_test false e = let has = ltb-false (length out) (length input_text) e in (simp (lt-ltb _ _ h, e) (accepted out 0 input_text (omega arith) ∙ ap Ok (zero-add (length input_text))), simp (lt-ltb _ _ h, e) (put out 0 input_text (omega arith)))

  -- and so of what is put there
  pub large_answer : {written : Result ℕ Refusal} → most_bytes < length s → written ≡ written_of out 0 input_text → written ≡ replay_of slots s out
  large_answer h e = e ∙ (large h).0

  pub large_buffer : {now : List ℕ} → most_bytes < length s → now ≡ put_of out 0 input_text → now ≡ replayed_of slots s out
  large_buffer h e = e ∙ (large h).1

  -- too little room for any text of so many bytes
  pub no_room : length out < room_for (length s) → (Err NoSpace ≡ replay_of slots s out) × (out ≡ replayed_of slots s out)
  unfolding replay_of replayed_of
  no_room h = (simp (lt-ltb _ _ h), simp (lt-ltb _ _ h))

  pub whole : {now : List ℕ} {end : ℕ} → length s ≤ most_bytes → room_for (length s) ≤ length out → Put out now 0 end (text_from (fresh_machine slots) s) → (Ok end ≡ replay_of slots s out) × (now ≡ replayed_of slots s out)
  unfolding replay_of replayed_of trace_text
  whole few h p = (simp (le-ltb _ _ h, le-ltb _ _ few) (ap Ok (p.next ∙ zero-add (length (text_from (fresh_machine slots) s)))), simp (le-ltb _ _ h, le-ltb _ _ few) p.bytes)

  pub whole_answer : length s ≤ most_bytes → room_for (length s) ≤ length out → Ok (length (text_from (fresh_machine slots) s)) ≡ replay_of slots s out
  whole_answer few h = (whole few h (record { next = sym (zero-add (length (text_from (fresh_machine slots) s))); bytes = refl })).0

  pub whole_buffer : {now : List ℕ} → length s ≤ most_bytes → room_for (length s) ≤ length out → now ≡ sets out 0 (text_from (fresh_machine slots) s) → now ≡ replayed_of slots s out
  whole_buffer few h e = (whole few h (record { next = sym (zero-add (length (text_from (fresh_machine slots) s))); bytes = e })).1

-- what a trace of no more than 64000 bytes asks for
pub asked : (bytes : ℕ) → bytes ≤ most_bytes → room_for bytes ≡ bytes / 16 * line_room + last_room
unfolding room_for
asked bytes h = simp (le-ltb _ _ h)
