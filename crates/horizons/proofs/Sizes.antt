-- Numbers within limits are kept when stored in 32, 64 or 128 bits. The product of a number of 64
-- bits and one from -4096 to 4096 is exact in 128 bits.
use Rattle.std.proofs.Common.{◌≡◌, ◌^◌, ◌<◌, ◌≤◌, ℤ, ◌*ℤ◌, unsigned_abs, arith, FitsSigned, to_z, of_z, w32, w64}
use mir.Syntax.{w128}
use Rattle.std.proofs.lemmas.Int.{ints, to_z-of_z, fits_signed_mul, fits_signed_from_abs}

pub back : (z : ℤ) → unsigned_abs z < 2 ^ 63 → to_z w64 (of_z w64 z) ≡ z
back z h = to_z-of_z w64 z (fits_signed_from_abs w64 z h)

pub back_short : (z : ℤ) → unsigned_abs z < 2 ^ 31 → to_z w32 (of_z w32 z) ≡ z
back_short z h = to_z-of_z w32 z (fits_signed_from_abs w32 z h)

pub back_long : (z : ℤ) → unsigned_abs z < 2 ^ 127 → to_z w128 (of_z w128 z) ≡ z
back_long z h = to_z-of_z w128 z (fits_signed_from_abs w128 z h)

pub value_abs : (z : ℤ) → FitsSigned w64 z → unsigned_abs z ≤ 2 ^ 63
value_abs z fits = omega (arith, ints, fits)

-- A number of 64 bits times one from -4096 to 4096 fits in 128 bits.
pub product_fits : (z x : ℤ) → unsigned_abs z ≤ 2 ^ 63 → unsigned_abs x ≤ 4096 → FitsSigned w128 (z *ℤ x)
product_fits z x h few = fits_signed_mul w128 z x _ 4096 h few (omega arith)

-- The product of z, a number of 64 bits, and x, as the code computes it in 128 bits.
abbrev pub long_product : ℤ → ℤ → ℤ
long_product z x = to_z w128 (of_z w128 (to_z w64 (of_z w64 z))) *ℤ to_z w128 (of_z w128 x)

pub product_is : (z x : ℤ) → FitsSigned w64 z → unsigned_abs x ≤ 4096 →
    FitsSigned w128 (long_product z x) × (to_z w128 (of_z w128 (long_product z x)) ≡ z *ℤ x)
product_is z x fits few =
    let abs = value_abs z fits in
    let product = product_fits z x abs few in
    rw (to_z-of_z w64 z fits, back_long z (omega (arith, abs)), back_long x (omega (arith, few)))
    (product, to_z-of_z w128 _ product)
