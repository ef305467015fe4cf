use Rattle.std.proofs.Common.{refl, arith, pos}
use Rattle.horizons.specs.Horizons.{ramp_value}
use Rattle.horizons.proofs.Sizes.{back, back_long, product_is}
use Rattle.horizons.proofs.ramp.Ramp.hides.Goals as goal

pub returns : goal.returns
returns c =
    let at = ramp_value c.args.self c.args.target in
    let rise = product_is c.args.rise (pos c.args.self.lines) c.ranges.rise (omega (arith, c.requires.at.lines)) in
    rw (c.from.ensures, c.from-2.ensures, c.from-3.ensures, c.value_at.ensures)
    (rw (back at c.requires.at.value, back_long at (omega (arith, c.requires.at.value)), rise.1) refl)
