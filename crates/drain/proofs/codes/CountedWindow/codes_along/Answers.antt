use Rattle.std.proofs.Common.{◌≡◌, ◌+◌, ◌*◌, ◌<◌, subst, arith}
use Rattle.terrain.proofs.Places.{make_place}
use Rattle.drain.specs.Codes.{CountedSpots}
use Rattle.tile_maps.proofs.TileLists.{set_next}
use Rattle.drain.proofs.codes.CountedWindow.codes_along.Goals as goal

pub loop-col-preserved : goal.loop-col-preserved
loop-col-preserved c =
    let b = c.args.self.now.bounds in
    let below = subst (λ (v : CountedSpots). c.loop-col.col < v.bounds.cols) c.self.view_is c.loop-col-test.true in
    set_next c.args.row c.loop-col.col c.index_in.result c.loop-col.codes c.in-Ok.code c.requires.row below
    (subst (λ (v : CountedSpots). c.index_in.result ≡ c.args.row * v.bounds.cols + c.loop-col.col) c.self.view_is
    c.index_in.ensures) c.loop-col.invariant
    (c.in-Ok.ensures.code (make_place (b.top + c.args.row) (b.left + c.loop-col.col)) (omega arith, omega arith))
