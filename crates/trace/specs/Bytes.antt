-- Believed: the sixteen bytes of a record. Bytes decode as a record exactly where they are what it is encoded as.
use Rattle.std.specs.Prelude.{ℕ, ◌+◌, ◌/◌, ◌%◌, ◌^◌, ◌≤◌, ◌<◌, ◌≡◌, false, List, [], ◌∷◌, ◌↔◌, length, get_or, Ok, Err}
use Rattle.error.specs.declared.Refusal.{Refusal}
use Rattle.error.specs.declared.Refusal.TheVariants.{Invalid}
use Rattle.clock.specs.Timer.{bad_setup}
use Rattle.trace.specs.declared.Fields.{Fields}
use Rattle.trace.specs.declared.Record.{Record}
use Rattle.trace.specs.declared.Record.TheVariants as K
use Rattle.trace.specs.Decode.{decode_of}

abbrev pub fields : ℕ → ℕ → ℕ → ℕ → ℕ → Fields
fields kind thread p q r = record { kind = kind; thread = thread; spare = 0; p = p; q = q; r = r }

-- a record's fields; what it does not use is 0
abbrev pub fields_of : Record → Fields
fields_of (K.Run p) = fields 0 0 p 0 0
fields_of (K.Sample g) = fields 1 0 g.p g.q g.r
fields_of K.Announce = fields 2 0 0 0 0
fields_of (K.Start i g) = fields 3 i g.p g.q g.r
fields_of (K.Switch i g) = fields 4 i g.p g.q g.r
fields_of (K.Stop g) = fields 5 0 g.p g.q g.r
fields_of (K.Enable i g) = fields 6 i g.p g.q g.r
fields_of (K.Disable i g) = fields 7 i g.p g.q g.r
fields_of (K.Report i) = fields 8 i 0 0 0
fields_of (K.Setup s) = fields 9 0 s.period s.tick 0

-- numbers that bytes can hold; of a setup, kind 9, a good period and tick
pub record Fit (f : Fields) : Type 0 where
  pub thread : f.thread < 256
  pub p : f.p < 2 ^ 32
  pub q : f.q < 2 ^ 32
  pub r : f.r < 2 ^ 32
  pub good : f.kind ≡ 9 → bad_setup f.p f.q ≡ false

-- four bytes of a number, the low one first, and then more
abbrev pub word_then : ℕ → List ℕ → List ℕ
word_then n rest = n % 256 ∷ n / 256 % 256 ∷ n / 65536 % 256 ∷ n / 16777216 % 256 ∷ rest

-- kind, thread, two zero bytes, then p, q, r
abbrev pub encoded : Fields → List ℕ
encoded f = f.kind ∷ f.thread ∷ 0 ∷ 0 ∷ word_then f.p (word_then f.q (word_then f.r []))

-- four bytes at a place, and then more
abbrev pub four_then : List ℕ → ℕ → List ℕ → List ℕ
four_then s at rest = get_or s at 0 ∷ get_or s (at + 1) 0 ∷ get_or s (at + 2) 0 ∷ get_or s (at + 3) 0 ∷ rest

abbrev pub sixteen_at : List ℕ → ℕ → List ℕ
sixteen_at s at = four_then s at (four_then s (at + 4) (four_then s (at + 8) (four_then s (at + 12) [])))

-- bytes are a record if and only if sixteen are left there and they are its own; whatever is turned away meets the first row
pub record Decodes : Type 0 where
  pub record_is : (s : List ℕ) (at : ℕ) → ((i : ℕ) → get_or s i 0 < 256) → (r : Record) → (decode_of s at ≡ Ok r) ↔ ((at + 16 ≤ length s) × Fit (fields_of r) × (sixteen_at s at ≡ encoded (fields_of r)))
  pub refused_is : (s : List ℕ) (at : ℕ) (why : Refusal) → decode_of s at ≡ Err why → why ≡ Invalid
