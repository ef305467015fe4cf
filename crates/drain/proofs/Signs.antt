-- The sign of a difference of two numbers is the top bit of the difference in 64 bits. The top bit of
-- two such differences together tells whether a cell has no data or lies below a level.
use Rattle.std.proofs.Common.{◌≡◌, ℕ, ◌+◌, ◌-◌, ◌^◌, ◌%◌, ◌<◌, ◌≤◌, ℤ, pos, negsuc, ◌<ℤ◌, ◌≤ℤ◌, ◌↔◌, Option, None, Some, IfSome, int_lt, bit_or, unwrap_or, inl, inr, ap, ◌∙◌, arith}
use Rattle.std.proofs.lemmas.Bool.{cases_Bool}
use Rattle.std.proofs.lemmas.Int.{ints, of_z-to_z}
use Rattle.std.proofs.lemmas.Nat.Bits.{bit_at_or, bit_at-lt}
use Rattle.std.specs.Int.{bit_at, cast_unsigned, int_wrapping_sub}
use mir.Syntax.{w64}
use Rattle.terrain.specs.Raster.{IsHeight, highest}
use Rattle.terrain.specs.StoredCells.{no_data}
use Rattle.drain.specs.Beginning.{IsGapOrLower}

-- the difference of two numbers in 64 bits
abbrev pub difference : ℤ → ℤ → ℕ
difference a b = cast_unsigned w64 (int_wrapping_sub w64 a b)

difference_is : (a b : ℤ) → difference a b ≡ (cast_unsigned w64 a + (2 ^ 64 - cast_unsigned w64 b)) % 2 ^ 64
difference_is a b = of_z-to_z w64 ((cast_unsigned w64 a + (2 ^ 64 - cast_unsigned w64 b)) % 2 ^ 64) (omega arith)

top_set : (n : ℕ) → 2 ^ 63 ≤ n → n < 2 ^ 64 → bit_at n 63 ≡ 1
top_set n high fits = omega (arith, high, fits)

top_clear : (n : ℕ) → n < 2 ^ 63 → bit_at n 63 ≡ 0
top_clear n low = omega (arith, low)

below : (a b : ℤ) → IsHeight a → IsHeight b → a <ℤ b → bit_at (difference a b) 63 ≡ 1
below a b high low less = ap (λ n. bit_at n 63) (difference_is a b) ∙ at a b high low less
  where
    at : (a b : ℤ) → IsHeight a → IsHeight b → a <ℤ b →
        bit_at ((cast_unsigned w64 a + (2 ^ 64 - cast_unsigned w64 b)) % 2 ^ 64) 63 ≡ 1
    at (pos a) (pos b) high low less = top_set _ (omega (arith, ints, high, low, less)) (omega arith)
    at (negsuc a) (pos b) high low less = top_set _ (omega (arith, ints, high, low, less)) (omega arith)
    at (negsuc a) (negsuc b) high low less = top_set _ (omega (arith, ints, high, low, less)) (omega arith)
    at (pos a) (negsuc b) high low less = absurd (omega (arith, ints, less))

above : (a b : ℤ) → IsHeight a → IsHeight b → b ≤ℤ a → bit_at (difference a b) 63 ≡ 0
above a b high low more = ap (λ n. bit_at n 63) (difference_is a b) ∙ at a b high low more
  where
    at : (a b : ℤ) → IsHeight a → IsHeight b → b ≤ℤ a →
        bit_at ((cast_unsigned w64 a + (2 ^ 64 - cast_unsigned w64 b)) % 2 ^ 64) 63 ≡ 0
    at (pos a) (pos b) high low more = top_clear _ (omega (arith, ints, high, low, more))
    at (pos a) (negsuc b) high low more = top_clear _ (omega (arith, ints, high, low, more))
    at (negsuc a) (negsuc b) high low more = top_clear _ (omega (arith, ints, high, low, more))
    at (negsuc a) (pos b) high low more = absurd (omega (arith, ints, more))

pub gap_or_lower : (level : ℤ) (cell : Option ℤ) → IsHeight level → IfSome cell IsHeight →
    (bit_at (bit_or (difference (unwrap_or cell no_data) level) (difference highest (unwrap_or cell no_data))) 63 ≡ 1)
    ↔ IsGapOrLower level cell
gap_or_lower level None high within = (
  λ _. tt,
  λ _.
      let gap = difference_is highest no_data in
      omega (
        arith,
        bit_at_or (difference no_data level) (difference highest no_data) 63,
        bit_at-lt (difference no_data level) 63,
        top_set (difference highest no_data) (omega (arith, gap)) (omega (arith, gap)),
      ),
)
gap_or_lower level (Some height) high within =
    let both = bit_at_or (difference height level) (difference highest height) 63 in
    let no_gap = above highest height (omega (arith, ints), omega (arith, ints)) within within.1 in
    elim (cases_Bool (int_lt height level)) [
      | inl lower ↦ (let less : height <ℤ level = grind (arith, lower) in
          (λ _. less, λ _. omega (arith, both, below height level within high less, no_gap)))
      | inr not_lower ↦ (let more : level ≤ℤ height = grind (arith, not_lower) in (
        λ one. absurd (omega (arith, both, above height level within high more, no_gap, one)),
        λ less. absurd (omega (arith, ints, less, more)),
      ))
    ]
