use Rattle.std.proofs.Common.{arith, rules, refl, w32, w64, to_z, of_z, ◌≡◌, pos, ◌+ℤ◌, FitsSigned}
use mir.Syntax.{w128}
use Rattle.std.proofs.lemmas.Int.{fits_signed_from_abs}
use Rattle.horizons.specs.declared.ramp.Ramp.{Ramp}
use Rattle.horizons.specs.declared.target.Target.{Target}
use Rattle.horizons.specs.Horizons.{IsTarget, ramp_value}
use Rattle.horizons.proofs.Sizes.{back, back_short, back_long, long_product, product_is}
use Rattle.horizons.proofs.ramp.Ramp.value_at.Goals as goal

-- The sum that the code computes in 128 bits is `ramp_value` of the target.
value_is : (r : Ramp) (t : Target) → FitsSigned w64 r.gain → FitsSigned w64 r.intercept → IsTarget t →
    to_z w128 (of_z w128 (long_product r.gain (to_z w32 (of_z w32 t.offset)))) +ℤ
    to_z w128 (of_z w128 (long_product r.intercept (pos t.line))) ≡ ramp_value r t
value_is r t gain intercept is_t =
    let line = product_is r.intercept (pos t.line) intercept (omega arith) in
    rw (back_short t.offset (omega (arith, is_t.offset)), (product_is r.gain t.offset gain is_t.offset).1, line.1) refl

pub overflow_add-result : goal.overflow_add-result
overflow_add-result c =
    let is = value_is c.args.self c.args.target (search rules) (search rules) c.requires.target in
    rw (c.from.ensures, c.from-2.ensures, c.from-3.ensures, c.from-4.ensures, is)
    (fits_signed_from_abs w128 (ramp_value c.args.self c.args.target) (omega arith))

pub overflow_cast-result : goal.overflow_cast-result
overflow_cast-result c =
    let is = value_is c.args.self c.args.target (search rules) (search rules) c.requires.target in
    let sum = back_long (ramp_value c.args.self c.args.target) (omega arith) in
    rw (c.from.ensures, c.from-2.ensures, c.from-3.ensures, c.from-4.ensures, is, sum)
    (fits_signed_from_abs w64 (ramp_value c.args.self c.args.target) c.requires.at.value)

pub returns : goal.returns
returns c =
    let is = value_is c.args.self c.args.target (search rules) (search rules) c.requires.target in
    let sum = back_long (ramp_value c.args.self c.args.target) (omega arith) in
    rw (c.from.ensures, c.from-2.ensures, c.from-3.ensures, c.from-4.ensures, is, sum)
    (back (ramp_value c.args.self c.args.target) c.requires.at.value)
