use Rattle.std.proofs.Common.{◌+◌, ◌*◌, ◌<◌, ◌≤◌, length, sym, subst}
use Rattle.tiles.specs.Cutting.{View, bounds_of}
use Rattle.tiles.proofs.Cut.{inside_from_value}
use Rattle.tiles.proofs.Shown.{row_end}
use Rattle.tiles.proofs.view.TileView.row.Goals as goal

pub part-requires : goal.part-requires
part-requires g c =
    let a = c.self.inside in
    let view = c.self.invariant.1 in
    let index : c.args.index < (bounds_of a.tiling a.tile).rows =
    subst (λ (v : View g.row.T.Denot). c.args.index < (bounds_of v.cutting v.tile).rows)
    (sym c.self.view_is) c.requires in
    let in_rows : c.args.index < a.bounds.rows = rw c.self.invariant.0 index in
    let inside =
    inside_from_value a.tiling a.tile a.bounds view.cutting view.tile c.self.invariant.0 in
    let end : (a.bounds.top + c.args.index) * c.cols.result + a.bounds.left + a.bounds.cols
    ≤ length a.cells.now =
    rw (c.cols.ensures.value, view.size) (row_end a.tiling a.bounds c.args.index inside in_rows) in
    end
