-- Products and quotients against a limit.
use Prim.Native.Nat.{ℕ, ◌+◌, ◌-◌, ◌*◌, ◌/◌, ◌≤◌, ◌<◌}
use native.Mathlib.Nat.{le-div_iff_mul-le, div-lt_iff_lt-mul, div-mul-le_self, div-le_self, le_trans}
use native.Mathlib.Omega.{arith}

-- what stays within the quotient has a product within the limit, and what passes it passes
pub product_within : (limit t k : ℕ) → 0 < k → t ≤ limit / k → t * k ≤ limit
product_within limit t k p h = (le-div_iff_mul-le p).0 h

pub product_over : (limit t k : ℕ) → 0 < k → limit / k < t → limit < t * k
product_over limit t k p h = (div-lt_iff_lt-mul p).0 h

pub quotients_keep_order : (a b k : ℕ) → 0 < k → a ≤ b → a / k ≤ b / k
quotients_keep_order a b k p h = (le-div_iff_mul-le p).1 (le_trans (div-mul-le_self a k) h)

-- a quotient multiplied back does not pass what was divided
pub back_below : (x k limit : ℕ) → x < limit → x / k * k < limit
back_below x k limit h = omega (arith, div-mul-le_self x k)

pub added_back_below : (a x k limit : ℕ) → a ≤ x → x < limit → a + (x - a) / k * k < limit
added_back_below a x k limit p h = omega (arith, div-mul-le_self (x - a) k)

-- a quotient does not pass what was divided
pub quotient_within : (x k limit : ℕ) → x ≤ limit → x / k ≤ limit
quotient_within x k limit h = omega (arith, div-le_self x k)
