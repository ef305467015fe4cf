use Rattle.std.proofs.Common.{arith}
use Rattle.fill.proofs.FloodLists.{floods_given, meetings_given}
use Rattle.fill.proofs.filling.tile_floods.Goals as goal

pub returns-clause-floods : goal.returns-clause-floods
returns-clause-floods g c =
    floods_given c.args.grid.now.terrain c.args.tiling.now c.in_ok-tiles.tiles.items c.tiles-jobs.result
    (omega (arith, c.in_ok-tiles.tiles.ok.0, c.in_ok-tiles.ensures.len)) c.in_ok-tiles.ensures.given _
    c.in_ok-floods.ensures.floods c.tiles-jobs.ensures.lawful c.requires c.tiles-jobs.ensures.value

pub returns-clause-meetings : goal.returns-clause-meetings
returns-clause-meetings g c =
    let tiles = c.in_ok-tiles.tiles.items in
    meetings_given _ c.args.tiling.now tiles c.tiles-jobs.result
    (omega (arith, c.in_ok-tiles.tiles.ok.0, c.in_ok-tiles.ensures.len)) c.in_ok-tiles.ensures.given _
    c.in_ok-floods.ensures.floods _ c.in_ok-floods.ensures.meetings
