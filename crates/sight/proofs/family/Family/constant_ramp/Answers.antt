use Rattle.std.proofs.Common.{arith, pos, ◌-ℤ◌, w64}
use Rattle.std.proofs.lemmas.Int.{ints, to_z-of_z}
use Rattle.horizons.proofs.Sizes.{back}
use Rattle.sightlines.proofs.Elevations.{times_small}
use Rattle.sight.proofs.Spans.{base_small}
use Rattle.sight.proofs.family.Family.constant_ramp.Goals as goal

pub returns-clause-at : goal.returns-clause-at
returns-clause-at c t is =
    let height = c.args.height in
    let eye = c.args.self.eye in
    let small = base_small height eye c.requires.height c.requires.family.eye in
    let product = times_small (height -ℤ eye) (pos t.line) _ 4096 small (omega (arith, is.line)) in
    rw (
      to_z-of_z w64 height c.ranges.height,
      back eye (omega (arith, c.requires.family.eye)),
      back (height -ℤ eye) (omega (arith, small)),
    )
    (record { lines = (c.requires.line.0, c.requires.line.1); value = omega (arith, ints, product) })
