use Rattle.std.proofs.Common.{arith}
use Rattle.terrain.specs.Sinks.{with_sinks}
use Rattle.tiles.specs.Cutting.{bounds_of, terrain_of}
use Rattle.tiles.proofs.Cut.{bounds_inside}
use Rattle.cell_floods.proofs.Borders.{bordered_list, net_of_window}
use Rattle.cell_floods.proofs.cell_net.CellNet.of_view.Goals as goal

pub invariant_of-result : goal.invariant_of-result
invariant_of-result c =
    let v = c.args.view.now in
    let window = c.in_ok-bounds.field-0 in
    let lawful = c.in_ok-bounds.ensures.lawful in
    let inside = bounds_inside v.cutting v.tile lawful.cutting lawful.tile in
    bordered_list (with_sinks (terrain_of v) c.args.sinks.now)
    (bounds_of v.cutting v.tile) _ (omega (arith, inside.rows_inside, lawful.cutting.few_rows))
    (omega (arith, inside.cols_inside, lawful.cutting.few_cols))
    (net_of_window v window.bounds window.values.items c.args.sinks.now c.in_ok-sinks.sinks.items
    lawful c.in_ok-bounds.ensures.bounds window.size
    (rw c.no_data.ensures at c.in_ok-bounds.ensures.shown) c.in_ok-sinks.ensures)

pub returns : goal.returns
returns c = net_of_window c.args.view.now c.in_ok-bounds.field-0.bounds
    c.in_ok-bounds.field-0.values.items c.args.sinks.now c.in_ok-sinks.sinks.items
    c.in_ok-bounds.ensures.lawful c.in_ok-bounds.ensures.bounds c.in_ok-bounds.field-0.size
    (rw c.no_data.ensures at c.in_ok-bounds.ensures.shown) c.in_ok-sinks.ensures
