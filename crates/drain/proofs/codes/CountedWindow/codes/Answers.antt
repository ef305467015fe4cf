use Rattle.std.proofs.Common.{◌≡◌, ap, arith}
use Rattle.drain.specs.Codes.{CountedSpots}
use Rattle.tile_maps.proofs.TileLists.{set_all}
use Rattle.drain.proofs.codes.CountedWindow.codes.Goals as goal

pub returns : goal.returns
returns c =
    let w = c.args.self.now in
    let rows = ap (λ (v : CountedSpots). v.bounds.rows) c.self.view_is in
    let all : c.loop-row.row ≡ w.bounds.rows =
    omega (arith, c.loop-row-test.false, c.loop-row.auto.row-end, rows) in
    set_all (rw all at c.loop-row.invariant)
