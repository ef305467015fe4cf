-- The spill graph of all tiles: how labels are joined, their least crests, and the raised heights
-- of cells. A label's node is its place's index in row order of the grid. A walk leads from a node
-- along joins to a source. The crest of a walk is the greatest height of its joins and its source.
-- Public.
use Rattle.std.specs.Prelude.{◌≡◌, ◌≢◌, ℕ, ◌*◌, ◌<◌, ℤ, ◌≤ℤ◌, List, length, Option, None, Some, MatchOption, slice_get, slice_index_or, option_and_then}
use Rattle.std.specs.Int.{int_max}
use Rattle.std.specs.List.{Contains}
use Rattle.terrain.specs.Raster.{Terrain}
use Rattle.terrain.specs.Neighbours.{height_at, index_of, IsNeighbour, IsEnd}
use Rattle.drainage.specs.Filled.{IsFilledHeight}
use Rattle.terrain.specs.declared.place.Place.{Place}
use Rattle.tiles.specs.Cutting.{Cutting, IsCutting, Cuts, tile_count, tile_of_place, IsInTile, tile_entry, cell_count}
use Rattle.cell_floods.specs.TileFlood.{Flood, IsTileFlood, level_in, label_in}
use Rattle.floods.specs.Walk.{IsFlooded}
use Rattle.fill.specs.declared.spill_graph.Join.{Join}

-- `c` cuts the terrain into tiles, and `floods` has the flood of each tile, in tile order.
pub record AreFloods (t : Terrain) (c : Cutting) (floods : List Flood) : Type 0 where
  pub lawful : IsCutting c
  pub cuts : Cuts c t
  pub count : length floods ≡ tile_count c
  pub each : (tile : ℕ) (f : Flood) → slice_get floods tile ≡ Some f → IsTileFlood t c tile f

-- A cell's level in the flood of its tile.
abbrev pub level_among : Cutting → List Flood → Place → Option ℤ
level_among c floods p = option_and_then (λ f. level_in f p) (slice_get floods (tile_of_place c p))

-- A cell's label in the flood of its tile.
abbrev pub label_among : Cutting → List Flood → Place → Option Place
label_among c floods p = option_and_then (λ f. label_in f p) (slice_get floods (tile_of_place c p))

-- Cell `p` has a label whose node is `a`.
abbrev pub Carries : Cutting → List Flood → Place → ℕ → Type 0
Carries c floods p a =
    (label : Place) × (label_among c floods p ≡ Some label) × (index_of c.cols label ≡ a)

-- Two neighbouring cells have the labels of nodes `a` and `b`. The greater of their levels is
-- `height`.
pub record IsPass (t : Terrain) (c : Cutting) (floods : List Flood) (a b : ℕ)
    (height : ℤ) : Type 0 where
  pub from : Place
  pub to : Place
  pub from_level : ℤ
  pub to_level : ℤ
  pub neighbours : IsNeighbour t from to
  pub from_label : Carries c floods from a
  pub to_label : Carries c floods to b
  pub from_is : level_among c floods from ≡ Some from_level
  pub to_is : level_among c floods to ≡ Some to_level
  pub greater : int_max from_level to_level ≡ height

-- Nodes `a` and `b` differ. `height` is the least at which neighbouring cells of these two labels
-- meet (`IsPass`).
pub record IsJoined (t : Terrain) (c : Cutting) (floods : List Flood) (a b : ℕ)
    (height : ℤ) : Type 0 where
  pub different : a ≢ b
  pub pass : IsPass t c floods a b height
  pub least : (other : ℤ) → IsPass t c floods a b other → height ≤ℤ other

-- A spill graph: its number of nodes, its joins in both directions, and its sources' heights.
pub record Graph : Type 0 where
  pub nodes : ℕ
  pub joins : List Join
  pub sources : List (Option ℤ)

-- The graph has a join of nodes `a` and `b` at this height, in both directions.
pub record HasJoin (g : Graph) (a b : ℕ) (height : ℤ) : Type 0 where
  pub from_node : a < g.nodes
  pub to_node : b < g.nodes
  pub there : Contains g.joins (record { from = a; to = b; height = height })
  pub back : Contains g.joins (record { from = b; to = a; height = height })

-- The height of a node that is a source, else None.
abbrev pub source_in : Graph → ℕ → Option ℤ
source_in g a = slice_index_or g.sources a None

-- The sources are the labels that are end cells, at their heights.
pub record AreGraphSources (t : Terrain) (c : Cutting) (floods : List Flood)
    (g : Graph) : Type 0 where
  pub each : (p : Place) (h : ℤ) → Carries c floods p (index_of c.cols p) → IsEnd t p →
      height_at t p ≡ Some h → source_in g (index_of c.cols p) ≡ Some h
  pub only : (a : ℕ) (h : ℤ) → source_in g a ≡ Some h →
      (p : Place) × (index_of c.cols p ≡ a) × Carries c floods p a × IsEnd t p
      × (height_at t p ≡ Some h)

-- `sources` has, for each place of the grid in row order, its height if it is a label and an end
-- cell, else None.
pub record AreSourcesOf (t : Terrain) (c : Cutting) (floods : List Flood)
    (sources : List (Option ℤ)) : Type 0 where
  pub size : length sources ≡ c.cols * c.rows
  pub right : (g : Graph) → g.sources ≡ sources → AreGraphSources t c floods g

-- The spill graph of these floods. Its nodes are the indexes of the grid's places in row order.
pub record IsGraphOf (t : Terrain) (c : Cutting) (floods : List Flood) (g : Graph) : Type 0 where
  pub count : g.nodes ≡ c.cols * c.rows
  pub joined : (a b : ℕ) (h : ℤ) → a ≢ b → IsPass t c floods a b h →
      (least : ℤ) × HasJoin g a b least
  pub joined_only : (a b : ℕ) (h : ℤ) → HasJoin g a b h → IsJoined t c floods a b h
  pub sources : AreGraphSources t c floods g

-- The least crest of the walks from each node of the graph, None for a node without a walk.
abbrev pub AreLevelsOf : Graph → List (Option ℤ) → Type 0
AreLevelsOf g levels =
    (labels : List (Option ℕ)) × IsFlooded (HasJoin g) (source_in g) g.nodes levels labels

-- The least crests of the walks from each node of the spill graph of these floods.
abbrev pub AreLeastCrests : Terrain → Cutting → List Flood → List (Option ℤ) → Type 0
AreLeastCrests t c floods levels = (g : Graph) × IsGraphOf t c floods g × AreLevelsOf g levels

-- The least crest of a label in the graph, None without a label.
abbrev pub crest_of : Cutting → List (Option ℤ) → Option Place → Option ℤ
crest_of c levels label =
    option_and_then (λ p. slice_index_or levels (index_of c.cols p) None) label

-- The greater of two heights, None if one is missing.
abbrev pub greater_of : Option ℤ → Option ℤ → Option ℤ
greater_of (Some level) (Some crest) = Some (int_max level crest)
greater_of (Some level) None = None
greater_of None crest = None

-- A cell's raised height: the greater of its level and its label's least crest, None if either is
-- None.
abbrev pub raised_by : Cutting → List (Option ℤ) → Option ℤ → Option Place → Option ℤ
raised_by c levels level label = greater_of level (crest_of c levels label)

-- The list has `count` entries, which `entry` gives.
pub record IsListOf (entry : ℕ → Option ℤ) (count : ℕ) (list : List (Option ℤ)) : Type 0 where
  pub size : length list ≡ count
  pub each : (k : ℕ) → k < count → slice_index_or list k None ≡ entry k

-- `raised` has the raised height of each cell of the tile; `levels` has the least crests of labels.
pub record IsRaised (c : Cutting) (f : Flood) (levels : List (Option ℤ))
    (raised : List (Option ℤ)) : Type 0 where
  pub size : length raised ≡ length f.levels
  pub each : (i : ℕ) → i < length f.levels →
      slice_index_or raised i None
      ≡ raised_by c levels (slice_index_or f.levels i None) (slice_index_or f.labels i None)

-- The list has the filled heights of a tile's cells, in its row order.
pub record IsFilledTile (t : Terrain) (c : Cutting) (tile : ℕ)
    (filled : List (Option ℤ)) : Type 0 where
  pub size : length filled ≡ cell_count c tile
  pub each : (p : Place) → IsInTile c tile p →
      MatchOption (height_at t p) (tile_entry c tile filled p ≡ None)
      (λ _. (height : ℤ) × (tile_entry c tile filled p ≡ Some height) × IsFilledHeight t p height)
