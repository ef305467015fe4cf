use Rattle.std.proofs.Common.{◌+◌, ◌-◌, ◌*◌, ◌<◌, sym, arith, rules}
use Rattle.tiles.proofs.Cut.{in_bounds_parts}
use Rattle.tiles.proofs.TileOrder.{place_in-index_in}
use Rattle.flow.proofs.Moved.{down_few, right_few, moves_there, stay_outside, stays}
use Rattle.flow.proofs.tile_links.rim_move.Goals as goal

pub overflow_sub-down : goal.overflow_sub-down
overflow_sub-down c =
    let b = c.args.bounds in
    (down_few b _ (sym (place_in-index_in b _ c.requires.inside)) c.args.code.now c.next_of-next.ensures).1

pub overflow_sub-right : goal.overflow_sub-right
overflow_sub-right c =
    let b = c.args.bounds in
    (right_few b _ (sym (place_in-index_in b _ c.requires.inside)) c.args.code.now c.next_of-next.ensures).1

pub overflow_cast-result : goal.overflow_cast-result
overflow_cast-result c =
    let b = c.args.bounds in
    let at = sym (place_in-index_in b _ c.requires.inside) in
    let fits : 64 * (c.next_of-next.result.row + 1 - c.args.place.row) +
    (c.next_of-next.result.col + 1 - c.args.place.col) + 4 * c.from-number.result < 256 = omega (
      arith,
      (down_few b _ at c.args.code.now c.next_of-next.ensures).0,
      (right_few b _ at c.args.code.now c.next_of-next.ensures).0,
    ) in
    search rules

pub returns-then-contains : goal.returns-then-contains
returns-then-contains c =
    let b = c.args.bounds in
    moves_there b _ (sym (place_in-index_in b _ c.requires.inside)) _ c.next_of-next.ensures _ (omega arith)
    (cc) c.requires.inside (in_bounds_parts b _ (cc))

pub returns-else-contains : goal.returns-else-contains
returns-else-contains c =
    let b = c.args.bounds in
    stays _ (omega arith) (cc) (stay_outside b _ (sym (place_in-index_in b _ c.requires.inside)) c.args.code.now
    c.next_of-next.ensures (cc))
