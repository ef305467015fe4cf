use Rattle.std.proofs.Common.{◌≡◌, ◌+◌, ◌*◌, arith}
use Rattle.tiles.proofs.Spots.{seen_whole}
use Rattle.tiles.proofs.window.load.Goals as goal

pub load_row_beside-requires-2-clause-old : goal.load_row_beside-requires-2-clause-old
load_row_beside-requires-2-clause-old g c =
    let end : c.loop-row.row ≡ c.bounds-bounds.result.rows + 1 = omega arith in
    rw end at c.loop-row.invariant

pub returns-clause-shown : goal.returns-clause-shown
returns-clause-shown g c =
    let b = c.bounds-bounds.result in
    seen_whole c.args.view.now c.args.seen c.args.none b ((b.rows + 1 + 1) * (b.cols + 2))
    c.load_row_beside-2.new.list.items (omega arith) c.in_ok-load_row_beside-2.ensures
