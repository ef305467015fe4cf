use Rattle.std.proofs.Common.{◌∙◌}
use Rattle.terrain.proofs.Naming.{lawful_with_sinks}
use Rattle.terrain.proofs.grid.Grid.with_sinks.Goals as goal

pub with_parts-requires : goal.with_parts-requires
with_parts-requires c =
    let g = c.args.self.now in
    let cells = c.in_ok-cells.ensures.items ∙ c.cells.ensures.value in
    let sinks = c.in_ok-sinks.ensures.named in
    let named = c.in_ok-sinks.ensures.sound in
    rw (c.self.view_is, cells, sinks)
    (lawful_with_sinks g c.args.sinks.now c.cells.ensures.lawful named)
