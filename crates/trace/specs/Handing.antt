-- Believed: a trace's records handed out one by one. What stands at a place, the place after it, and how much is left.
use Rattle.std.specs.Prelude.{ℕ, ◌+◌, ◌-◌, ◌/◌, ◌%◌, cond, List, length, ltb, eqb, Option, Some, None}
use Rattle.trace.specs.Decode.{Decoded, decode_of}

-- the whole records from a place on, and the bytes of a short one after them; past the trace none
unfoldable pub records_left : List ℕ → ℕ → ℕ
records_left s at = cond (ltb (length s) at) 0 ((length s - at) / 16)

unfoldable pub bytes_left : List ℕ → ℕ → ℕ
bytes_left s at = cond (ltb (length s) at) 0 ((length s - at) % 16)

-- the end where no sixteen bytes are left, and else the sixteen from there
unfoldable pub item_at : List ℕ → ℕ → Option Decoded
item_at s at = cond (eqb (records_left s at) 0) None (Some (decode_of s at))

unfoldable pub place_after : List ℕ → ℕ → ℕ
place_after s at = cond (eqb (records_left s at) 0) at (at + 16)
