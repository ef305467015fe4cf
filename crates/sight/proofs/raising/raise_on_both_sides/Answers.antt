use Rattle.std.proofs.Common.{rules, true}
use Rattle.std.specs.Int.{w64}
use Rattle.std.proofs.lemmas.Int.{to_z-of_z}
use Rattle.std.proofs.lemmas.Result.{on_ok_weaker}
use Rattle.sight.specs.Raising.{AreRaised}
use Rattle.sight.specs.Sides.{facing, family_of, extent_of}
use Rattle.sight.proofs.Raised.{both_sides_raised}
use Rattle.sight.proofs.raising.raise_on_both_sides.Goals as goal

pub returns : goal.returns
returns c =
    let cells = c.args.cells.now in
    let f = family_of c.args.lines c.args.side c.args.eye in
    let w = extent_of c.args.lines c.args.side in
    let flags = c.args.flags.now in
    let back = to_z-of_z w64 c.args.eye (search rules) in
    let one = rw (c.family_of-family.ensures, back) at c.in_ok-raise_over.ensures in
    on_ok_weaker c.raise_over-2.result (
    λ (raised : AreRaised cells (facing f true) w flags c.raise_over.new.targets c.raise_over-2.new.targets).
    both_sides_raised cells f w flags c.args.targets.now c.raise_over.new.targets c.raise_over-2.new.targets
    c.requires.lines.at c.requires.lines.tile c.requires.targets one raised)
    (rw (c.reverse.ensures, c.family_of-family.ensures, back) at c.raise_over-2.ensures)
