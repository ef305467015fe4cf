use Rattle.std.proofs.Common.{◌∙◌}
use Rattle.terrain.proofs.OtherCells.{lawful_with_cells}
use Rattle.terrain.proofs.grid.Frame.with_cells.Goals as goal

pub with_parts-requires : goal.with_parts-requires
with_parts-requires c =
    let g = c.args.self.now in
    let cells = c.args.cells.items in
    let same = c.in_ok-sinks.ensures.items ∙ c.sinks.ensures.value in
    rw same (lawful_with_cells g cells c.sinks.ensures.lawful c.requires.size c.requires.heights)
