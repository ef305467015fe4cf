-- The numbers of labels over all tiles. A tile's table has a first entry, None, and then the tile's
-- labels. Numbers count the entries of all tables from 0, tile by tile.
-- Private.
use Rattle.std.specs.Prelude.{◌≡◌, ℕ, ◌+◌, ◌<◌, ◌≤◌, ℤ, List, map, take, length, Option, None, Some, slice_get, slice_index_or}
use Rattle.std.specs.List.{flat_map}
use Rattle.terrain.specs.Neighbours.{index_of}
use Rattle.terrain.specs.declared.place.Place.{Place}
use Rattle.cell_floods.specs.TileFlood.{Flood, IsFlood}

-- The place of each number's label, and None for a number whose entry has no label.
abbrev pub places_of : List Flood → List (Option Place)
places_of floods = flat_map (λ f. f.table.places) floods

-- The height of each number's label if it is an end cell, else None.
abbrev pub ends_of : List Flood → List (Option ℤ)
ends_of floods = flat_map (λ f. f.ends) floods

-- The number of the first entry of a tile's table.
abbrev pub first_of : List Flood → ℕ → ℕ
first_of floods tile = length (places_of (take tile floods))

-- `firsts` has the number of each table's first entry. All numbers fit in 32 bits. Each flood has a
-- level and a label entry for each cell, and its labels are those of its table (`IsFlood`).
pub record AreFirsts (floods : List Flood) (firsts : List ℕ) : Type 0 where
  pub size : length firsts ≡ length floods
  pub each : (tile : ℕ) → tile < length floods → slice_index_or firsts tile 0 ≡ first_of floods tile
  pub few : (tile : ℕ) (f : Flood) → slice_get floods tile ≡ Some f →
      first_of floods tile + length f.table.places ≤ 4294967295
  pub whole : length (places_of floods) ≤ 4294967295
  pub lawful : (tile : ℕ) (f : Flood) → slice_get floods tile ≡ Some f → IsFlood f

-- The node of a label's place, its index in row order of the grid; 0 for None.
abbrev pub node_of_label : ℕ → Option Place → ℕ
node_of_label cols (Some p) = index_of cols p
node_of_label cols None = 0

-- The node of each number's label, 0 for a number without a label.
abbrev pub nodes_of : ℕ → List Flood → List ℕ
nodes_of cols floods = map (node_of_label cols) (places_of floods)
