-- What is turned away whatever its kind, a setup's tests in one, and where sixteen bytes are left.
use Rattle.std.specs.Prelude.{Ok, Err}
use Prim.Native.Nat.{ℕ, zero, suc, ◌+◌, ◌≤◌, ◌<◌}
use mathlib.Core.Path.{◌≡◌, refl}
use mathlib.Core.Bool.{Bool, true, false, cond, not, ◌||◌, or-false}
use mathlib.Core.List.{List}
use lib.ListN.{length}
use native.Mathlib.Omega.{arith}
use lib.Dec.{eqb}
use borrow.Author.Tests.{lt-ltb, le-ltb}
use Rattle.error.specs.declared.Refusal.TheVariants.{Invalid}
use Rattle.clock.specs.Timer.{bad_setup}
use Rattle.trace.specs.declared.Fields.{Fields}
use Rattle.trace.specs.declared.Record.TheVariants as K
use Rattle.trace.specs.Decode.{fields_at, samples_first, uses_thread, unused_set, record_of, decode_fields, decode_of}

either_way : {A : Type 0} (test : Bool) (x : A) → cond test x x ≡ x
either_way true x = refl
either_way false x = refl

-- two tests with one answer
in_one : {A : Type 0} (one other : Bool) (x y : A) → cond (one || other) x y ≡ cond one x (cond other x y)
in_one true other x y = refl
in_one false other x y = refl

-- what a match knows of a number where none of the arms from 0 up to k fits
abbrev pub NoneOf : ℕ → ℕ → Type 0
NoneOf zero n = Unit {0}
NoneOf (suc k) n = NoneOf k n × (n ≡ k → ⊥)

past_all : (k n : ℕ) → NoneOf k n → k ≤ n
past_all zero n none = omega arith
past_all (suc k) n none = let h = past_all k n none.0 in let other = none.1 in omega arith

module _ (f : Fields) where
  pub unknown : NoneOf 10 f.kind → Err Invalid ≡ decode_fields f
  unfolding decode_fields
  unknown none = let h = past_all 10 f.kind none in simp (lt-ltb 9 f.kind (omega arith))

  -- a setup's tests, all in one
  pub setup : f.kind ≡ 9 → f.spare ≡ 0 → cond (not (eqb f.thread 0) || not (eqb f.r 0) || bad_setup f.p f.q) (Err Invalid) (Ok (K.Setup (record { period = f.p; tick = f.q }))) ≡ decode_fields f
  unfolding decode_fields unused_set samples_first uses_thread record_of
  setup kind clean = simp (kind, clean, or-false) (in_one (not (eqb f.thread 0) || not (eqb f.r 0)) (bad_setup f.p f.q) _ _)

module _ (s : List ℕ) (at : ℕ) where
  pub short : length s < at + 16 → Err Invalid ≡ decode_of s at
  unfolding decode_of
  short h = simp (lt-ltb _ _ h)

  pub whole : at + 16 ≤ length s → decode_fields (fields_at s at) ≡ decode_of s at
  unfolding decode_of
  whole h = simp (le-ltb _ _ h)
