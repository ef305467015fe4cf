use Rattle.std.proofs.Common.{arith, ◌≡◌, ℕ, ◌<◌, ◌≤◌, ℤ, pos, ◌+ℤ◌, ◌-ℤ◌, ◌≤ℤ◌, ◌<ℤ◌, ◌^◌, w32, min, unsigned_abs}
use Rattle.std.specs.Int.{int_max}
use Rattle.horizons.proofs.Sizes.{back_short}
use Rattle.std.proofs.lemmas.Int.{ints, int_max_is, to_z_pos}
use Rattle.sight.proofs.family.Family.cells_between.Goals as goal

from_0_small : (z : ℤ) (n : ℕ) → unsigned_abs z ≤ n → unsigned_abs (int_max z (pos 0)) ≤ n
from_0_small z n few = omega (arith, ints, int_max_is z (pos 0), few)

from_0_low : (z : ℤ) (b : ℕ) → z ≤ℤ pos b → unsigned_abs (int_max z (pos 0)) ≤ b
from_0_low z b low = omega (arith, ints, int_max_is z (pos 0), low)

from_0_high : (z : ℤ) (b : ℕ) → pos b <ℤ z → b < unsigned_abs (int_max z (pos 0))
from_0_high z b high = omega (arith, ints, int_max_is z (pos 0), high)

below : (b at : ℕ) (high : ℤ) → (pos b -ℤ pos at) ≤ℤ (high +ℤ pos 1) → pos b <ℤ ((pos at +ℤ high) +ℤ pos 2)
below b at high is = omega (arith, ints, is)

above : (b at : ℕ) (low : ℤ) → low ≤ℤ (pos b -ℤ pos at) → (pos at +ℤ low) ≤ℤ pos b
above b at low is = omega (arith, ints, is)

pub returns-clause-between : goal.returns-clause-between
returns-clause-between c b inside low high =
    let at = c.args.self.side.at in
    let family = c.requires.family in
    let at_is = to_z_pos w32 at (omega (arith, family.side, family.cells)) in
    let low_is = back_short c.args.low (omega (arith, c.requires.low)) in
    let high_is = back_short c.args.high (omega (arith, c.requires.high)) in
    let first_is = back_short (pos at +ℤ c.args.low) (omega (arith, ints, family.side, family.cells, c.requires.low)) in
    let last_is =
    back_short (pos at +ℤ c.args.high) (omega (arith, ints, family.side, family.cells, c.requires.high)) in
    let past_is =
    back_short ((pos at +ℤ c.args.high) +ℤ pos 2)
    (omega (arith, ints, family.side, family.cells, c.requires.high)) in
    let first : c.max-first.result ≡ int_max (pos at +ℤ c.args.low) (pos 0) =
    rw (at_is, low_is, first_is) at c.max-first.ensures.value in
    let past : c.max-past.result ≡ int_max ((pos at +ℤ c.args.high) +ℤ pos 2) (pos 0) =
    rw (at_is, high_is, last_is, past_is) at c.max-past.ensures.value in
    let first_back =
    back_short c.max-first.result (rw first (omega (
      arith,
      from_0_small (pos at +ℤ c.args.low) (2 ^ 26) (omega (arith, ints, family.side, family.cells, c.requires.low)),
    ))) in
    let past_back =
    back_short c.max-past.result (rw past (omega (
      arith,
      from_0_small ((pos at +ℤ c.args.high) +ℤ pos 2) (2 ^ 26)
          (omega (arith, ints, family.side, family.cells, c.requires.high)),
    ))) in
    let end : c.min.result ≡ min (unsigned_abs c.max-past.result) c.args.self.side.cells =
    rw past_back at c.min.ensures in
    let past_b : b < unsigned_abs c.max-past.result = rw past (from_0_high _ b (below b at c.args.high high)) in
    (rw (first_back, first) (from_0_low _ b (above b at _ low)), omega (arith, end, past_b, inside))
