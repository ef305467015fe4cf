use Rattle.tiles.proofs.Spots.{held_by_grid}
use Rattle.tiles.proofs.window.Window.of_view.Goals as goal

pub load-requires : goal.load-requires
load-requires g c =
    let v = c.args.view.now in
    held_by_grid v.cutting v.tile c.grid_bounds.result c.grid_bounds.ensures.lawful.cutting
    c.grid_bounds.ensures.lawful.tile c.grid_bounds.ensures.value
