use Rattle.std.proofs.Common.{refl, arith, w64, to_z, of_z, pos, ◌*ℤ◌, ◌≡◌, FitsSigned}
use mir.Syntax.{w128}
use Rattle.std.proofs.lemmas.Int.{fits_signed_from_abs}
use Rattle.horizons.specs.declared.ramp.Ramp.{Ramp}
use Rattle.horizons.specs.declared.target.Target.{Target}
use Rattle.horizons.specs.Horizons.{IsRampAt, ramp_value}
use Rattle.horizons.proofs.Sizes.{long_product, product_is}
use Rattle.horizons.proofs.ramp.Ramp.is_above.Goals as goal

value_times : (r s : Ramp) (t : Target) → IsRampAt r t → IsRampAt s t →
    let p = long_product (ramp_value r t) (pos s.lines) in
    FitsSigned w128 p × (to_z w128 (of_z w128 p) ≡ ramp_value r t *ℤ pos s.lines)
value_times r s t at other =
    product_is (ramp_value r t) (pos s.lines) (fits_signed_from_abs w64 (ramp_value r t) at.value) (omega arith)

pub overflow_mul-result : goal.overflow_mul-result
overflow_mul-result c =
    let is = value_times c.args.self c.args.other c.args.target c.requires.at c.requires.other in
    rw (c.from.ensures, c.from-2.ensures, c.value_at.ensures) is.0

pub overflow_mul-result-2 : goal.overflow_mul-result-2
overflow_mul-result-2 c =
    let is = value_times c.args.other c.args.self c.args.target c.requires.other c.requires.at in
    rw (c.from-3.ensures, c.from-4.ensures, c.value_at-2.ensures) is.0

pub returns : goal.returns
returns c =
    let is = value_times c.args.self c.args.other c.args.target c.requires.at c.requires.other in
    let also = value_times c.args.other c.args.self c.args.target c.requires.other c.requires.at in
    rw (c.from.ensures, c.from-2.ensures, c.from-3.ensures, c.from-4.ensures)
    (rw (c.value_at.ensures, c.value_at-2.ensures, is.1, also.1) refl)
