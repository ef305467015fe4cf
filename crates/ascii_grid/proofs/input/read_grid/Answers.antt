use Rattle.std.proofs.Common.{rules, arith, ◌<◌, ◌≤◌, length}
use Rattle.std.proofs.lemmas.List.{length-take}
use Rattle.ascii_grid.proofs.Pieces.{piece_fed, piece_refused, read_failed, pieces_ended}
use Rattle.ascii_grid.proofs.input.read_grid.Goals as goal

pub returns-in_default : goal.returns-in_default
returns-in_default g c =
    read_failed g.R.Read.remaining _ _ _ _ _ _ c.pieces.invariant c.in_default.ensures.bytes c.in_default.ensures.moved
    c.in_default.ensures.count.err

pub returns-in-Err : goal.returns-in-Err
returns-in-Err g c =
    let read = c.in-Ok.ensures in
    let within : c.in-Ok.count ≤ length c.read.new.buffer = search (rules, read.bound) in
    piece_refused g.R.Read.remaining _ _ _ _ _ _ c.pieces.invariant c.feed.new.self c.read.new.buffer c.in-Ok.count
    within read.bytes.0 read.moved read.count.ok c.in-Err.fault c.in-Err.ensures (omega (
      arith,
      within,
      c.min-room.ensures,
      c.read.auto.buffer,
      length-take c.min-room.result c.pieces.buffer,
    ))

pub returns-then-count-eq0 : goal.returns-then-count-eq0
returns-then-count-eq0 g c =
    let read = c.in-Ok.ensures in
    let within : c.in-Ok.count ≤ length c.read.new.buffer = search (rules, read.bound) in
    let some : 0 < length c.read.new.buffer =
    omega (
      arith,
      c.min-room.array_long,
      c.min-room.ensures,
      c.read.auto.buffer,
      c.pieces.invariant.room,
      length-take c.min-room.result c.pieces.buffer,
    ) in
    pieces_ended _ (piece_fed g.R.Read.remaining _ _ _ _ _ _ c.pieces.invariant c.feed.new.self c.read.new.buffer
    c.in-Ok.count within read.bytes.0 read.moved read.count.ok c.in_default-feed.ensures)
    (read.bytes.1 c.if-count-eq0.true some) c.finish_grid.ensures.grid c.finish_grid.ensures.fault
    c.finish_grid.ensures.sound

pub pieces-preserved : goal.pieces-preserved
pieces-preserved g c =
    let read = c.in-Ok.ensures in
    let within : c.in-Ok.count ≤ length c.read.new.buffer = search (rules, read.bound) in
    piece_fed g.R.Read.remaining _ _ _ _ _ _ c.pieces.invariant c.feed.new.self c.read.new.buffer c.in-Ok.count within
    read.bytes.0 read.moved read.count.ok c.in_default-feed.ensures
