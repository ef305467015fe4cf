-- Labels as they are stored: a table of their nodes, and indexes in 2 or 4 bytes each.
-- Public.
use Rattle.std.specs.Prelude.{ℕ, List, Option, map}
use Rattle.terrain.specs.declared.place.Place.{Place}
use Rattle.floods.specs.Notes.{label_of}
use Rattle.cell_floods.specs.Labels.{label_of_node}
use Rattle.cell_floods.specs.declared.labels.Table.{Table}
use Rattle.cell_floods.specs.declared.labels.Indexes.{Indexes}
use Rattle.cell_floods.specs.declared.labels.Indexes.TheVariants.{Short, Long}

abbrev pub indexes_stored : Indexes → List ℕ
indexes_stored (Short indexes) = indexes.items
indexes_stored (Long indexes) = indexes.items

-- The places in a table: its numbers store them as nodes of the tile's net.
abbrev pub places_of : Table → List (Option Place)
places_of t = map (λ number. label_of_node t.bounds (label_of number)) t.numbers.items
