-- How an answer's number and fields are handed on by whoever asked.
use mathlib.Core.Path.{◌≡◌, ◌∙◌}
use Prim.Native.Nat.{◌<◌, ◌^◌}
use lib.IntN.{ℤ}
use lib.Signed.{mag}
use mir.Syntax.{w32}
use mir.Val.{to_z, of_z}
use mir.Facts.{to_z-of_z}

-- the law of i32 codes: one that a call returned is handed on as it is
pub handed : {z y : ℤ} → mag z < 2 ^ 31 → z ≡ y → to_z w32 (of_z w32 z) ≡ y
handed h e = to_z-of_z {w = w32} (record { sfits = h }) ∙ e
