use Rattle.std.proofs.Common.{subst}
use Rattle.tiles.specs.Cutting.{View, AreBounds}
use Rattle.tiles.proofs.Cut.{inside_from_value}
use Rattle.tiles.proofs.view.TileView.bounds.Goals as goal

pub returns-clause-inside : goal.returns-clause-inside
returns-clause-inside g c =
    let a = c.self.inside in
    let view = c.self.invariant.1 in
    subst (λ (v : View g.row.T.Denot). AreBounds v.cutting a.bounds) c.self.view_is
    (inside_from_value a.tiling a.tile a.bounds view.cutting view.tile c.self.invariant.0)
