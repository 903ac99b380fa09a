-- Inside: sixteen bytes taken apart as the code does it, what each kind uses, and what is turned away. `Decodes` (Bytes.antt) says what comes of it, and `Readers` (crates/demands/specs/Readers.antt) what the answer says.
use Rattle.std.specs.Prelude.{ℕ, ◌+◌, ◌*◌, Bool, cond, not, ◌&&◌, ◌||◌, List, [], ◌∷◌, length, get_or, ltb, leb, eqb, Result, Ok, Err}
use Rattle.error.specs.declared.Refusal.{Refusal}
use Rattle.error.specs.declared.Refusal.TheVariants.{Invalid}
use Rattle.error.specs.Said.{Said, says}
use Rattle.error.specs.InOrder.{Row, in_order}
use Rattle.counter.specs.declared.Gaps.{Gaps}
use Rattle.clock.specs.Timer.{bad_setup}
use Rattle.trace.specs.declared.Fields.{Fields}
use Rattle.trace.specs.declared.Record.{Record}
use Rattle.trace.specs.declared.Record.TheVariants as K

-- four bytes, little-endian
abbrev pub word_of : ℕ → ℕ → ℕ → ℕ → ℕ
word_of a b c d = a + b * 256 + c * 65536 + d * 16777216

unfoldable pub word_at : List ℕ → ℕ → ℕ
word_at s at = word_of (get_or s at 0) (get_or s (at + 1) 0) (get_or s (at + 2) 0) (get_or s (at + 3) 0)

-- kind, thread, two zero bytes, then p, q, r
unfoldable pub fields_at : List ℕ → ℕ → Fields
fields_at s at = record {
  kind = get_or s at 0;
  thread = get_or s (at + 1) 0;
  spare = word_of (get_or s (at + 2) 0) (get_or s (at + 3) 0) 0 0;
  p = word_at s (at + 4);
  q = word_at s (at + 8);
  r = word_at s (at + 12);
}

-- kinds 1 and 3 to 7 sample first, with gaps p, q, r
unfoldable pub samples_first : ℕ → Bool
samples_first kind = eqb kind 1 || (leb 3 kind && leb kind 7)

-- kinds 3, 4, 6, 7, 8 use the thread
unfoldable pub uses_thread : ℕ → Bool
uses_thread kind = eqb kind 3 || eqb kind 4 || (leb 6 kind && leb kind 8)

-- unused bytes and fields are zero: run uses p, setup p and q
unfoldable pub unused_set : Fields → Bool
unused_set f =
    not (eqb f.spare 0) ||
    (not (uses_thread f.kind) && not (eqb f.thread 0)) ||
    (not (samples_first f.kind || eqb f.kind 9 || eqb f.kind 0) && not (eqb f.p 0)) ||
    (not (samples_first f.kind || eqb f.kind 9) && not (eqb f.q 0)) ||
    (not (samples_first f.kind) && not (eqb f.r 0))

abbrev pub gaps_of : Fields → Gaps
gaps_of f = record { p = f.p; q = f.q; r = f.r }

unfoldable pub record_of : Fields → Record
record_of f =
    cond (eqb f.kind 0) (K.Run f.p)
    (cond (eqb f.kind 1) (K.Sample (gaps_of f))
    (cond (eqb f.kind 2) K.Announce
    (cond (eqb f.kind 3) (K.Start f.thread (gaps_of f))
    (cond (eqb f.kind 4) (K.Switch f.thread (gaps_of f))
    (cond (eqb f.kind 5) (K.Stop (gaps_of f))
    (cond (eqb f.kind 6) (K.Enable f.thread (gaps_of f))
    (cond (eqb f.kind 7) (K.Disable f.thread (gaps_of f))
    (cond (eqb f.kind 8) (K.Report f.thread)
    (K.Setup (record { period = f.p; tick = f.q }))))))))))

-- the first row of 01's table: unknown kind, unused byte or field not 0, bad L or tick (setup: L = p, tick = q)
abbrev pub decode_tests : Fields → List (Row Refusal)
decode_tests f =
    (ltb 9 f.kind, Invalid) ∷
    (unused_set f, Invalid) ∷
    (eqb f.kind 9 && bad_setup f.p f.q, Invalid) ∷
    []

-- a record, or why these bytes are none
abbrev pub Decoded : Type 0
Decoded = Result Record Refusal

unfoldable pub decode_fields : Fields → Decoded
decode_fields f = in_order (decode_tests f) Err (Ok (record_of f))

-- fewer than sixteen bytes are no record
unfoldable pub decode_of : List ℕ → ℕ → Decoded
decode_of s at = in_order ((ltb (length s) (at + 16), Invalid) ∷ []) Err (decode_fields (fields_at s at))

-- what the answer says: 0 and the record, or the refusal's number and what sixteen zeros stand for
abbrev pub decoded_says : Decoded → Said Record
decoded_says answer = says (K.Run 0) answer
