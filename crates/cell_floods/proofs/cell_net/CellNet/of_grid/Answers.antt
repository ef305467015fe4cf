use Rattle.std.specs.Prelude.{IfOk}
use Rattle.terrain.specs.Raster.{Terrain}
use Rattle.tiles.specs.declared.bounds.Bounds.{Bounds}
use Rattle.cell_floods.specs.Cells.{IsNetOf}
use Rattle.cell_floods.proofs.Borders.{of_one_tile}
use Rattle.cell_floods.proofs.cell_net.CellNet.of_grid.Goals as goal

pub returns : goal.returns
returns c = of_one_tile (λ (t : Terrain) (w : Bounds). IfOk c.of_view.result (IsNetOf t w))
    c.args.grid.now.terrain c.view.result c.of_one_tile-tiling.result c.cols.result c.rows.result
    c.cells.result.now c.sinks.result.now c.view.ensures c.of_one_tile-tiling.ensures.value
    c.of_one_tile-tiling.ensures.bounds c.cols.ensures.value c.rows.ensures.value
    c.cells.ensures.value c.sinks.ensures.value c.of_view.ensures
