use Rattle.std.proofs.Common.{List}
use Rattle.terrain.specs.Sinks.{with_sinks}
use Rattle.terrain.specs.declared.place.Place.{Place}
use Rattle.tiles.specs.Cutting.{bounds_of, terrain_of}
use Rattle.cell_floods.specs.Cells.{HasSinks}
use Rattle.cell_floods.proofs.EndCells.{AreFirstEnds}
use Rattle.cell_floods.proofs.ends.end_heights.Given as goal

abbrev pub invariant-loop-index : goal.invariant-loop-index
invariant-loop-index l = (named : List Place) →
    HasSinks (bounds_of l.view.cutting l.view.tile) named l.sinks
    → AreFirstEnds (with_sinks (terrain_of l.view) named) l.labels.places l.index l.heights.items
