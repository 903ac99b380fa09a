-- Decoding undone: fields and records, bytes and fields.
use Rattle.std.specs.Prelude.{Ok, Err}
use Prim.Native.Nat.{ℕ, zero, suc, ◌+◌, ◌*◌, ◌/◌, ◌%◌, ◌^◌, ◌≤◌, ◌<◌}
use mathlib.Core.Path.{◌≡◌, refl, sym, ap, ◌∙◌}
use mathlib.Core.Bool.{Bool, true, false, cond, not, ◌&&◌, ◌||◌}
use mathlib.Core.List.{List, ◌∷◌}
use native.Mathlib.Omega.{arith}
use lib.ListN.{length, get_or}
use lib.Dec.{ltb, eqb}
use borrow.Author.Tests.{eqb-true, ltb-false}
use Rattle.error.proofs.Tests.{clash}
use Rattle.error.proofs.Ordered.{by_outcome}
use Rattle.error.specs.declared.Refusal.{Refusal}
use Rattle.error.specs.declared.Refusal.TheVariants.{Invalid}
use Rattle.clock.specs.Timer.{bad_setup}
use Rattle.trace.specs.declared.Fields.{Fields}
use Rattle.trace.specs.declared.Record.{Record}
use Rattle.trace.specs.declared.Record.TheVariants as K
use Rattle.trace.specs.Decode.{Decoded}
use Rattle.trace.specs.Decode.{word_of, word_at, fields_at, samples_first, uses_thread, unused_set, record_of, decode_tests, decode_fields, decode_of}
use Rattle.trace.specs.Bytes.{fields_of, Fit, word_then, encoded, four_then, sixteen_at, Decodes}
use Rattle.trace.proofs.Outcomes.{whole}

-- a record's fields decode to it
-- where a setup is good
abbrev Good : Fields → Type 0
Good f = f.kind ≡ 9 → bad_setup f.p f.q ≡ false

back : (r : Record) → Good (fields_of r) → decode_fields (fields_of r) ≡ Ok r
unfolding decode_fields unused_set samples_first uses_thread record_of
back (K.Run p) good = refl
back (K.Sample g) good = refl
back K.Announce good = refl
back (K.Start i g) good = refl
back (K.Switch i g) good = refl
back (K.Stop g) good = refl
back (K.Enable i g) good = refl
back (K.Disable i g) good = refl
back (K.Report i) good = refl
back (K.Setup s) good = simp (good refl)

-- what is not used is 0
none_of : (used : Bool) (n : ℕ) → used ≡ false → not used && not (eqb n 0) ≡ false → n ≡ 0
none_of used n u e = by_test (eqb n 0) refl (rw u at e)
  where
    by_test : (t : Bool) → eqb n 0 ≡ t → not false && not t ≡ false → n ≡ 0
    by_test true t q = eqb-true _ _ t
    by_test false t q = clash (cc)

or_false : (a b : Bool) → a || b ≡ false → (a ≡ false) × (b ≡ false)
or_false true b e = clash (cc)
or_false false b e = (refl, e)

not_false : (a : Bool) → not a ≡ false → a ≡ true
not_false true e = refl
not_false false e = clash (cc)

-- what is unused is 0, each by itself
record Unused (f : Fields) : Type 0 where
  spare : f.spare ≡ 0
  thread : uses_thread f.kind ≡ false → f.thread ≡ 0
  p : samples_first f.kind || eqb f.kind 9 || eqb f.kind 0 ≡ false → f.p ≡ 0
  q : samples_first f.kind || eqb f.kind 9 ≡ false → f.q ≡ 0
  r : samples_first f.kind ≡ false → f.r ≡ 0

unused : (f : Fields) → unused_set f ≡ false → Unused f
unfolding unused_set
unused f e =
    let a = or_false _ _ e in
    let b = or_false _ _ a.0 in
    let c = or_false _ _ b.0 in
    let d = or_false _ _ c.0 in
    record {
      spare = eqb-true _ _ (not_false _ d.0);
      thread = λ u. none_of _ _ u d.1;
      p = λ u. none_of _ _ u c.1;
      q = λ u. none_of _ _ u b.1;
      r = λ u. none_of _ _ u a.1;
    }

-- the fields of the record that fields with nothing unused make are those fields
abbrev make : ℕ → ℕ → ℕ → ℕ → ℕ → ℕ → Fields
make k t z p q r = record { kind = k; thread = t; spare = z; p = p; q = q; r = r }

forth : (k t z p q r : ℕ) → k ≤ 9 → Unused (make k t z p q r) → make k t z p q r ≡ fields_of (record_of (make k t z p q r))
unfolding record_of samples_first uses_thread
forth zero t z p q r h u = rw (u.spare, u.thread refl, u.q refl, u.r refl)
forth (suc zero) t z p q r h u = rw (u.spare, u.thread refl)
forth (suc (suc zero)) t z p q r h u = rw (u.spare, u.thread refl, u.p refl, u.q refl, u.r refl)
forth (suc (suc (suc zero))) t z p q r h u = rw u.spare
forth (suc (suc (suc (suc zero)))) t z p q r h u = rw u.spare
forth (suc (suc (suc (suc (suc zero))))) t z p q r h u = rw (u.spare, u.thread refl)
forth (suc (suc (suc (suc (suc (suc zero)))))) t z p q r h u = rw u.spare
forth (suc (suc (suc (suc (suc (suc (suc zero))))))) t z p q r h u = rw u.spare
forth (suc (suc (suc (suc (suc (suc (suc (suc zero)))))))) t z p q r h u = rw (u.spare, u.p refl, u.q refl, u.r refl)
forth (suc (suc (suc (suc (suc (suc (suc (suc (suc zero))))))))) t z p q r h u = rw (u.spare, u.thread refl, u.r refl)
forth (suc (suc (suc (suc (suc (suc (suc (suc (suc (suc k)))))))))) t z p q r h u = absurd (omega arith)

-- and a setup that was not turned away is good
good_of : (f : Fields) → eqb f.kind 9 && bad_setup f.p f.q ≡ false → Good f
good_of f b nine = rw nine at b

accepted : (f : Fields) (r : Record) → decode_fields f ≡ Ok r → (f ≡ fields_of r) × Good f
unfolding decode_fields
accepted f r =
    by_outcome Err (Ok (record_of f)) (λ (o : Decoded). o ≡ Ok r → (f ≡ fields_of r) × Good f) (decode_tests f)
    (λ why q. clash (cc))
    (λ none q.
    let is : record_of f ≡ r = cc in
    let known = ltb-false _ _ none.0 in
    (rw (← is) (forth f.kind f.thread f.spare f.p f.q f.r known (unused f none.1.0)), good_of f none.1.1.0))

no_spare : (r : Record) → (fields_of r).spare ≡ 0
no_spare (K.Run p) = refl
no_spare (K.Sample g) = refl
no_spare K.Announce = refl
no_spare (K.Start i g) = refl
no_spare (K.Switch i g) = refl
no_spare (K.Stop g) = refl
no_spare (K.Enable i g) = refl
no_spare (K.Disable i g) = refl
no_spare (K.Report i) = refl
no_spare (K.Setup s) = refl

module _ (s : List ℕ) (bytes : (i : ℕ) → get_or s i 0 < 256) where
  word_fits : (at : ℕ) → word_at s at < 2 ^ 32
  unfolding word_at
  word_fits at =
      let a = bytes at in
      let b = bytes (at + 1) in
      let c = bytes (at + 2) in
      let d = bytes (at + 3) in
      omega arith

  -- four bytes are those of the number that they make
  word_bytes : (at : ℕ) (rest rest' : List ℕ) → rest ≡ rest' → four_then s at rest ≡ word_then (word_at s at) rest'
  unfolding word_at
  word_bytes at rest rest' e =
      let a = bytes at in
      let b = bytes (at + 1) in
      let c = bytes (at + 2) in
      let d = bytes (at + 3) in
      listed _ _ _ _ _ _ _ _ (omega arith) (omega arith) (omega arith) (omega arith)
    where
      listed : (a b c d a' b' c' d' : ℕ) → a ≡ a' → b ≡ b' → c ≡ c' → d ≡ d' → a ∷ b ∷ c ∷ d ∷ rest ≡ a' ∷ b' ∷ c' ∷ d' ∷ rest'
      listed a b c d a' b' c' d' p q r t = cc

  -- the bytes of the fields that were read
  encodes : (at : ℕ) (f : Fields) → fields_at s at ≡ f → f.spare ≡ 0 → sixteen_at s at ≡ encoded f
  unfolding fields_at
  encodes at f e z =
      rw (← e)
      (spared _ _ (bytes_none (ap (λ (x : Fields). x.spare) e ∙ z)).0 (bytes_none (ap (λ (x : Fields). x.spare) e ∙ z)).1
      (word_bytes (at + 4) _ _ (word_bytes (at + 8) _ _ (word_bytes (at + 12) _ _ refl))))
    where
      bytes_none : word_of (get_or s (at + 2) 0) (get_or s (at + 3) 0) 0 0 ≡ 0 → (get_or s (at + 2) 0 ≡ 0) × (get_or s (at + 3) 0 ≡ 0)
      bytes_none q = (omega arith, omega arith)

      spared : {a b : ℕ} (c d : ℕ) {rest rest' : List ℕ} → c ≡ 0 → d ≡ 0 → rest ≡ rest' → a ∷ b ∷ c ∷ d ∷ rest ≡ a ∷ b ∷ 0 ∷ 0 ∷ rest'
      spared c d p q e = cc

  fits : (at : ℕ) (f : Fields) → fields_at s at ≡ f → Good f → Fit f
  unfolding fields_at
  fits at f e good = record { thread = rw (← e) (bytes (at + 1)); p = rw (← e) (word_fits (at + 4)); q = rw (← e) (word_fits (at + 8)); r = rw (← e) (word_fits (at + 12)); good = good }

-- a number of 32 bits is what its bytes make
word_back : (n a b c d : ℕ) → n < 2 ^ 32 → a ≡ n % 256 → b ≡ n / 256 % 256 → c ≡ n / 65536 % 256 → d ≡ n / 16777216 % 256 → word_of a b c d ≡ n
word_back n a b c d h p q r t =
    let low : n / 256 / 256 ≡ n / 65536 = omega arith in
    let high : n / 65536 / 256 ≡ n / 16777216 = omega arith in
    joined (n / 256) (n / 65536) (n / 16777216) (omega arith) (omega arith) (omega arith) (omega arith)
  where
    joined : (x y z : ℕ) → n ≡ a + x * 256 → x ≡ b + y * 256 → y ≡ c + z * 256 → d ≡ z → word_of a b c d ≡ n
    joined x y z e f g k = omega arith

decoded_back : (s : List ℕ) (at : ℕ) (f : Fields) → Fit f → f.spare ≡ 0 → sixteen_at s at ≡ encoded f → fields_at s at ≡ f
unfolding fields_at word_at
decoded_back s at f fit z e = same f _ _ _ _ _ _ (byte 0) (byte 1) (zero_word _ _ (byte 2) (byte 3) ∙ sym z)
    (word_back f.p _ _ _ _ fit.p (byte 4) (byte 5) (byte 6) (byte 7))
    (word_back f.q _ _ _ _ fit.q (byte 8) (byte 9) (byte 10) (byte 11))
    (word_back f.r _ _ _ _ fit.r (byte 12) (byte 13) (byte 14) (byte 15))
  where
    byte : (i : ℕ) → get_or (sixteen_at s at) i 0 ≡ get_or (encoded f) i 0
    byte i = ap (λ (l : List ℕ). get_or l i 0) e

    zero_word : (a b : ℕ) → a ≡ 0 → b ≡ 0 → word_of a b 0 0 ≡ 0
    zero_word a b p q = omega arith

    same : (f : Fields) (k t z p q r : ℕ) → k ≡ f.kind → t ≡ f.thread → z ≡ f.spare → p ≡ f.p → q ≡ f.q → r ≡ f.r → make k t z p q r ≡ f
    same f k t z p q r a b c d e g = rw (a, b, c, d, e, g) refl

-- what decodes has its sixteen bytes
room_of : (s : List ℕ) (at : ℕ) (r : Record) → decode_of s at ≡ Ok r → at + 16 ≤ length s
unfolding decode_of
room_of s at r = by_test (ltb (length s) (at + 16)) refl
  where
    by_test : (t : Bool) → ltb (length s) (at + 16) ≡ t → cond t (Err Invalid) (decode_fields (fields_at s at)) ≡ Ok r → at + 16 ≤ length s
    by_test true e q = clash (cc)
    by_test false e q = ltb-false _ _ e

-- every test has one reason
refused_fields : (f : Fields) (why : Refusal) → decode_fields f ≡ Err why → why ≡ Invalid
unfolding decode_fields
refused_fields f why = by_tests (ltb 9 f.kind) (unused_set f) (eqb f.kind 9 && bad_setup f.p f.q)
  where
    by_tests : (a b c : Bool) → cond a (Err Invalid) (cond b (Err Invalid) (cond c (Err Invalid) (Ok (record_of f)))) ≡ Err why → why ≡ Invalid
    by_tests true b c q = cc
    by_tests false true c q = cc
    by_tests false false true q = cc
    by_tests false false false q = clash (cc)

refused_at : (s : List ℕ) (at : ℕ) (why : Refusal) → decode_of s at ≡ Err why → why ≡ Invalid
unfolding decode_of
refused_at s at why = by_test (ltb (length s) (at + 16))
  where
    by_test : (t : Bool) → cond t (Err Invalid) (decode_fields (fields_at s at)) ≡ Err why → why ≡ Invalid
    by_test true q = cc
    by_test false q = refused_fields (fields_at s at) why q

pub decodes : Decodes
decodes = record {
  record_is = λ s at bytes r. (
    λ e.
        let room = room_of s at r e in
        let known = accepted (fields_at s at) r (whole s at room ∙ e) in
        (room, fits s bytes at (fields_of r) known.0 (rw (← known.0) known.1), encodes s bytes at (fields_of r) known.0 (no_spare r)),
    λ h. sym (whole s at h.0) ∙ ap decode_fields (decoded_back s at (fields_of r) h.1 (no_spare r) h.2) ∙ back r h.1.good,
  );
  refused_is = refused_at;
}
