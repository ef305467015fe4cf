use Rattle.std.proofs.Common.{rules, true}
use Rattle.std.specs.Int.{w64}
use Rattle.std.proofs.lemmas.Int.{to_z-of_z}
use Rattle.std.proofs.lemmas.Result.{on_ok_weaker}
use Rattle.sight.specs.Hiding.{AreHidden}
use Rattle.sight.specs.Sides.{facing, family_of, extent_of}
use Rattle.sight.proofs.BothSides.{both_sides}
use Rattle.sight.proofs.sides.hide_on_both_sides.Goals as goal

pub returns : goal.returns
returns c =
    let cells = c.args.cells.now in
    let f = family_of c.args.lines c.args.side c.args.eye in
    let w = extent_of c.args.lines c.args.side in
    let back = to_z-of_z w64 c.args.eye (search rules) in
    let one = rw (c.family_of-family.ensures, back) at c.in_ok-hide.ensures in
    on_ok_weaker c.hide-2.result (
    λ (hidden : AreHidden cells (facing f true) w c.args.height c.hide.new.flags c.hide-2.new.flags).
    both_sides cells f w c.args.height c.args.flags.now c.hide.new.flags c.hide-2.new.flags c.requires.lines.at
    c.requires.lines.tile one hidden)
    (rw (c.reverse.ensures, c.family_of-family.ensures, back) at c.hide-2.ensures)
