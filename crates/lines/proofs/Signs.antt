-- A code of 32 bits: as it was handed on, and its text by the test.
use Rattle.std.proofs.Common.{◌≡◌, refl, true, false, ◌∷◌, arith, ℤ, pos, negsuc, nat_abs, ltb-true, w32, SFits, to_z, of_z, to_z-of_z}
use lib.Signed.{lt_z}
use Rattle.error.proofs.Tests.{clash}
use Rattle.lines.specs.Text.{decimal, signed}

-- a code that was handed on is the same
pub same : {z : ℤ} → SFits w32 z → to_z w32 (of_z w32 z) ≡ z
same h = to_z-of_z h

-- the text by the test
pub minus_sign : (z : ℤ) → lt_z z (pos 0) ≡ true → signed z ≡ 45 ∷ decimal (nat_abs z)
unfolding signed
minus_sign (pos n) e = let k = ltb-true n 0 e in absurd (omega arith)
minus_sign (negsuc n) e = refl

pub no_sign : (z : ℤ) → lt_z z (pos 0) ≡ false → signed z ≡ decimal (nat_abs z)
unfolding signed
no_sign (pos n) e = refl
no_sign (negsuc n) e = clash (cc)
