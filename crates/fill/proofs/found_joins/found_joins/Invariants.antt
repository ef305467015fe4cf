use Rattle.terrain.specs.Raster.{Terrain}
use Rattle.fill.specs.Crests.{AreMet, ArePassages}
use Rattle.fill.specs.Numbers.{places_of}
use Rattle.fill.specs.SpillGraph.{AreFloods}
use Rattle.fill.proofs.found_joins.found_joins.Given as goal

abbrev pub invariant-loop-tile : goal.invariant-loop-tile
invariant-loop-tile l = (t : Terrain) → AreFloods t l.tiles.tiling.now l.tiles.floods.now →
    AreMet t l.tiles.floods.now l.meetings → ArePassages t (places_of l.tiles.floods.now) l.joins.items
