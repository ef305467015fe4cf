use Rattle.std.proofs.Common.{◌+◌, ◌*◌, ◌/◌, ◌<◌, sym, subst}
use Rattle.tiles.specs.Cutting.{Cutting, IsWithin, tile_count}
use Rattle.tiles.proofs.Cut.{tile_of_place_below}
use Rattle.tiles.proofs.tiling.Tiling.tile_of.Goals as goal

pub returns-clause-below : goal.returns-clause-below
returns-clause-below c =
    let a = c.self.inside in
    let t : Cutting = record { cols = a.cols; rows = a.rows; side = a.side } in
    let within : IsWithin t c.args.place =
    subst (λ s. IsWithin s c.args.place) (sym c.self.view_is) c.requires in
    subst (λ s. c.args.place.row / a.side * a.across + c.args.place.col / a.side
    < tile_count s) c.self.view_is
    (rw c.self.invariant.1 (tile_of_place_below t c.args.place c.self.invariant.0 within))
