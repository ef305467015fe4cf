-- The labels of a tile's cells: a table of places, and for each cell an index into the table.
-- Public.
use Rattle.std.specs.Prelude.{◌≡◌, ℕ, ◌+◌, ◌<◌, ◌≤◌, ◌⊎◌, ◌==◌, true, List, [], ◌∷◌, ◌++◌, map, length, Option, None, Some, IsSome, slice_index_or}
use Rattle.std.specs.Option.{option_map}
use Rattle.std.specs.List.{All, Contains, list_any}
use Rattle.terrain.specs.declared.place.Place.{Place}
use Rattle.tiles.specs.declared.bounds.Bounds.{Bounds}
use Rattle.cell_floods.specs.Cells.{place_of_node}
use Rattle.cell_floods.specs.declared.tile.Meeting.{Meeting}

-- A table of labels, and the index of each cell's label in it.
pub record LabelTable : Type 0 where
  pub places : List (Option Place)
  pub indexes : List ℕ

-- The cells' labels. `cells` has the index of each cell's label in the table `places`.
abbrev pub labels_by : List (Option Place) → List ℕ → List (Option Place)
labels_by places cells = map (λ k. slice_index_or places k None) cells

-- The table `places` begins with None; then come places, at most as many as cells. `cells` has the
-- index of each cell's label in the table. Each place of the table is the label of some cell.
pub record IsTable (places : List (Option Place)) (cells : List ℕ) : Type 0 where
  pub few : length places ≤ length cells + 1
  pub first : slice_index_or places 0 None ≡ None
  pub rest : (k : ℕ) → 0 < k → k < length places → IsSome (slice_index_or places k None)
  pub inside : All (λ k. k < length places) cells
  pub used : (k : ℕ) (p : Place) → slice_index_or places k None ≡ Some p →
      list_any (λ n. n == k) cells ≡ true

-- A cell's label as a place, from its label as a node of the tile's net; None without a label.
abbrev pub label_of_node : Bounds → Option ℕ → Option Place
label_of_node b node = option_map (place_of_node b.top b.left b.cols) node

-- Each node of the list is less than `count`.
abbrev pub AreNodesBelow : ℕ → List (Option ℕ) → Type 0
AreNodesBelow count nodes = (k node : ℕ) → slice_index_or nodes k None ≡ Some node → node < count

-- `met` has the table's index of the place of each node that was met, and 0 for other nodes.
pub record AreMet (b : Bounds) (met : List ℕ) (places : List (Option Place)) : Type 0 where
  pub inside : (node : ℕ) → slice_index_or met node 0 < length places
  pub place : (node : ℕ) → 0 < slice_index_or met node 0 →
      slice_index_or places (slice_index_or met node 0) None ≡ label_of_node b (Some node)

-- The table `new` has `entry` at `index`. It is `old`, or `old` with `entry`, a place, appended.
pub record IsListedAt (index : ℕ) (entry : Option Place)
    (old new : List (Option Place)) : Type 0 where
  pub inside : index < length new
  pub is : slice_index_or new index None ≡ entry
  pub only : (new ≡ old) ⊎ ((index ≡ length old) × (new ≡ old ++ entry ∷ []) × IsSome entry)

-- The meeting `nodes` is of two nodes, and `m` of their indexes by `met`, which are not 0.
pub record IsIndexed (met : List ℕ) (nodes m : Meeting) : Type 0 where
  pub from_some : 0 < m.from
  pub to_some : 0 < m.to
  pub from : slice_index_or met nodes.from 0 ≡ m.from
  pub to : slice_index_or met nodes.to 0 ≡ m.to
  pub level : nodes.level ≡ m.level

-- The meeting is one of these meetings of nodes, by the nodes' indexes.
abbrev pub IsIndexedOf : List ℕ → List Meeting → Meeting → Type 0
IsIndexedOf met meetings m = (nodes : Meeting) × Contains meetings nodes × IsIndexed met nodes m
