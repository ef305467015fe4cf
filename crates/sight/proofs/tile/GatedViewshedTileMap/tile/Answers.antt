use Rattle.std.proofs.Common.{ℕ, List, Option, sym, subst, arith}
use Rattle.std.proofs.lemmas.List.{with_items_is}
use Rattle.tile_maps.specs.Maps.{IsMadeTile}
use Rattle.tile_maps.proofs.TileLists.{made_tile}
use Rattle.sight.specs.Viewed.{HasValue}
use Rattle.sight.proofs.tile.GatedViewshedTileMap.tile.Goals as goal

pub returns : goal.returns
returns g c =
    let self = c.args.self.now.input in
    let Has = HasValue self.grid.now.terrain self.observers.now self.target_height self.radius in
    let old = c.in_ok-values.values in
    let whole =
    with_items_is old c.count_observers.new.values
    (omega (arith, c.in_ok-count_observers.ensures.size, c.in_ok-values.ensures.size, old.ok.0)) in
    subst (λ (values : List (Option ℕ)). IsMadeTile self.tiling.now c.args.tile Has values) (sym whole)
    (made_tile _ c.args.tile c.bounds-bounds.result Has _ c.bounds-bounds.ensures.lawful
    c.bounds-bounds.ensures.value c.in_ok-count_observers.ensures)
