-- Signed products distribute over sums and differences; small ones fit in 32 bits.
use Rattle.std.proofs.Common.{arith, ap, refl, sym, ◌∙◌, ◌≡◌, ◌↔◌, IsTrue, ℕ, ◌+◌, ◌*◌, ◌≤◌, ℤ, pos, ◌+ℤ◌, ◌-ℤ◌, ◌*ℤ◌, unsigned_abs, FitsSigned, to_z, of_z, w32}
use borrow.Author.Differences.{up, down, product_is}
use Rattle.std.proofs.Math.Dec.{eqb}
use Rattle.std.proofs.lemmas.Bool.{eqb-true, eq-eqb}
use Rattle.std.proofs.lemmas.Int.{ints, to_z-of_z, to_z_pos, fits_signed_mul}
use Rattle.horizons.proofs.Sizes.{back_short}

parts_of_sum : (a b : ℤ) → up (a +ℤ b) + (down a + down b) ≡ down (a +ℤ b) + (up a + up b)
parts_of_sum a b = omega (arith, ints)

parts_of_rest : (a b : ℤ) → up (a -ℤ b) + (down a + up b) ≡ down (a -ℤ b) + (up a + down b)
parts_of_rest a b = omega (arith, ints)

pub sum_times : (a b c : ℤ) → (a +ℤ b) *ℤ c ≡ (a *ℤ c) +ℤ (b *ℤ c)
sum_times a b c = omega (arith, ints, ap (λ z. z * up c) (parts_of_sum a b), ap (λ z. z * down c) (parts_of_sum a b))

pub rest_times : (a b c : ℤ) → (a -ℤ b) *ℤ c ≡ (a *ℤ c) -ℤ (b *ℤ c)
rest_times a b c = omega (arith, ints, ap (λ z. z * up c) (parts_of_rest a b), ap (λ z. z * down c) (parts_of_rest a b))

pub times_between : (a b c : ℤ) → (a *ℤ b) *ℤ c ≡ a *ℤ (c *ℤ b)
times_between a b c = omega (
  arith,
  ints,
  ap (λ z. z * up c) (product_is a b).0,
  ap (λ z. z * down c) (product_is a b).0,
  ap (λ z. z * up c) (product_is a b).1,
  ap (λ z. z * down c) (product_is a b).1,
  ap (λ z. up a * z) (product_is c b).0,
  ap (λ z. down a * z) (product_is c b).0,
  ap (λ z. up a * z) (product_is c b).1,
  ap (λ z. down a * z) (product_is c b).1,
)

-- the product of `a`, of size up to 4096, and `n` up to 4096 fits in 32 signed bits. Read from 32
-- bits, the two numbers have this product.
pub times_short : (a : ℤ) (n : ℕ) → unsigned_abs a ≤ 4096 → n ≤ 4096 →
    FitsSigned w32 (a *ℤ pos n) × (to_z w32 (of_z w32 a) *ℤ to_z w32 n ≡ a *ℤ pos n)
times_short a n small few = (
  fits_signed_mul w32 a (pos n) 4096 4096 small few (omega arith),
  rw (back_short a (omega arith), to_z_pos w32 n (omega arith)) refl,
)

-- signed numbers of 32 bits are equal exactly if their bits are
pub same_short : (a b : ℤ) → FitsSigned w32 a → FitsSigned w32 b → IsTrue (eqb (of_z w32 a) (of_z w32 b)) ↔ (a ≡ b)
same_short a b p q = (
  λ yes. sym (to_z-of_z w32 a p) ∙ ap (to_z w32) (eqb-true (of_z w32 a) (of_z w32 b) yes) ∙ to_z-of_z w32 b q,
  λ is. eq-eqb (of_z w32 a) (of_z w32 b) (ap (of_z w32) is),
)
