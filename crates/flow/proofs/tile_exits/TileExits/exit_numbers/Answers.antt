use Rattle.std.proofs.lemmas.Result.{IfOk-weaker}
use Rattle.flow.specs.Streams.{AreEndNumbers}
use Rattle.flow.specs.Numbering.{AreExitNumbers}
use Rattle.flow.proofs.Piece.{exit_numbers_are}
use Rattle.flow.proofs.tile_exits.TileExits.exit_numbers.Goals as goal

pub returns : goal.returns
returns g c =
    let number = (g.N.EndNumbering.numbers _).number in
    IfOk-weaker _ (λ v. AreEndNumbers c.self.inside.links.links number v.items)
    (λ v. AreExitNumbers c.args.self.now number v.items) (λ v are. exit_numbers_are c.self.invariant c.self.view_is
    c.requires.few are) c.end_numbers.ensures
