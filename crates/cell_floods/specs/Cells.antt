-- A rectangle of a terrain's cells as a net: nodes, joins of two nodes, and sources. Nodes are
-- cells. Neighbouring data cells are joined, at the greater of their heights. Sources are the data
-- cells that are sinks or beside a cell without data.
-- Public.
use Rattle.std.specs.Prelude.{◌≡◌, ℕ, zero, suc, ◌+◌, ◌-◌, ◌*◌, ◌/◌, ◌%◌, ◌<◌, ◌≤◌, ◌⊎◌, ◌↔◌, ◌||◌, ℤ, Bool, true, false, List, [], ◌∷◌, ◌++◌, length, Option, None, Some, IsSome, is_none, if◌then◌else◌, slice_index_or, slice_range}
use Rattle.std.specs.List.{list_any, Contains}
use Rattle.std.specs.Int.{int_max}
use Rattle.terrain.specs.Raster.{Terrain}
use Rattle.terrain.specs.Neighbours.{height_at}
use Rattle.terrain.specs.declared.place.Place.{Place}
use Rattle.tiles.specs.declared.bounds.Bounds.{Bounds}
use Rattle.tiles.specs.Cutting.{IsInBounds}
use Rattle.floods.specs.declared.net.Spill.{Spill}

-- The cells of a rectangle in row order, within a border of cells without data. A row of the list
-- has `stride` cells, its two border cells included. A node is a cell, numbered by its index in the
-- list. `sinks` has for each node whether it is a sink; if none is, `sinks` may be empty.
pub record Cells : Type 0 where
  pub stride : ℕ
  pub cells : List (Option ℤ)
  pub sinks : List Bool

-- The height at a node, None without data.
abbrev pub cell_at : Cells → ℕ → Option ℤ
cell_at n a = slice_index_or n.cells a None

-- By their numbers, node b is east, south-west, south or south-east of node a.
abbrev pub IsAfter : ℕ → ℕ → ℕ → Type 0
IsAfter stride a b = (b ≡ a + 1) ⊎ (b + 1 ≡ a + stride) ⊎ (b ≡ a + stride) ⊎ (b ≡ a + stride + 1)

-- One of the two nodes is after the other, by `IsAfter`.
abbrev pub IsBeside : ℕ → ℕ → ℕ → Type 0
IsBeside stride a b = IsAfter stride a b ⊎ IsAfter stride b a

-- Nodes a and b are neighbouring data cells, joined at `height`, the greater of their heights.
pub record IsCellJoin (n : Cells) (a b : ℕ) (height : ℤ) : Type 0 where
  pub beside : IsBeside n.stride a b
  pub from_height : ℤ
  pub to_height : ℤ
  pub from_cell : cell_at n a ≡ Some from_height
  pub to_cell : cell_at n b ≡ Some to_height
  pub greater : int_max to_height from_height ≡ height

-- The eight nodes around node a, which is not on the border.
abbrev pub cells_around : ℕ → ℕ → List ℕ
cells_around stride a =
    (a - stride - 1) ∷ (a - stride) ∷ (a - stride + 1) ∷ (a - 1) ∷ (a + 1) ∷ (a + stride - 1)
    ∷ (a + stride) ∷ (a + stride + 1) ∷ []

-- At least one of the eight nodes around the node has no data.
abbrev pub has_gap_around : Cells → ℕ → Bool
has_gap_around n a = list_any (λ b. is_none (cell_at n b)) (cells_around n.stride a)

-- Node a is a sink, by the list `sinks`.
abbrev pub is_sink : List Bool → ℕ → Bool
is_sink sinks a = slice_index_or sinks a false

-- The height of a source: a data cell that is a sink or is beside a cell without data. Else None.
abbrev pub source_of : Cells → ℕ → Option ℤ
source_of n a = if has_gap_around n a || is_sink n.sinks a then cell_at n a else None

-- All eight nodes around a data cell are in the list, which has at most 4098 by 4098 cells.
pub record IsBordered (n : Cells) : Type 0 where
  pub narrow : n.stride ≤ 4098
  pub few : length n.cells ≤ 16793604
  pub border : (a : ℕ) → IsSome (cell_at n a) → (n.stride < a) × (a + n.stride + 1 < length n.cells)

-- Each cell from index `first` on and before `end` has data.
abbrev pub HaveData : List (Option ℤ) → ℕ → ℕ → Type 0
HaveData cells first end =
    (index : ℕ) → first ≤ index → index < end → IsSome (slice_index_or cells index None)

-- The arc from a cell of this height to node b, None if b has no data.
abbrev pub arc_to : List (Option ℤ) → ℤ → ℕ → Option Spill
arc_to cells height b = elim (slice_index_or cells b None) [
  | None ↦ None
  | Some other ↦ Some (record { to = b; height = int_max other height })
]

-- The node of a place of the rectangle.
abbrev pub node_at : Bounds → Place → ℕ
node_at w p = (p.row - w.top + 1) * (w.cols + 2) + (p.col - w.left + 1)

-- By the list `sinks`, a place's node is a sink exactly if the place is one of `places`.
abbrev pub HasSinks : Bounds → List Place → List Bool → Type 0
HasSinks w places sinks =
    (p : Place) → IsInBounds w p → (is_sink sinks (node_at w p) ≡ true) ↔ Contains places p

-- The net has the cells and the sinks of this rectangle of the terrain.
pub record IsNetOf (t : Terrain) (w : Bounds) (n : Cells) : Type 0 where
  pub stride : n.stride ≡ w.cols + 2
  pub inside : (p : Place) → IsInBounds w p → cell_at n (node_at w p) ≡ height_at t p
  pub only : (a : ℕ) → IsSome (cell_at n a) → (p : Place) × IsInBounds w p × (node_at w p ≡ a)
  pub size : length n.cells ≡ (w.rows + 2) * (w.cols + 2)
  pub sinks : HasSinks w t.sinks n.sinks

-- The rectangle that is the whole terrain.
abbrev pub whole : Terrain → Bounds
whole t = record { top = 0; left = 0; rows = t.rows; cols = t.cols }

-- The first `count` rows, of `cols` entries each, inside the border of a list.
abbrev pub inner_rows : {X : Type 0} → List X → ℕ → ℕ → List X
inner_rows list cols zero = []
inner_rows list cols (suc count) =
    inner_rows list cols count
    ++ slice_range list ((count + 1) * (cols + 2) + 1) ((count + 1) * (cols + 2) + 1 + cols)

-- The place of a node of a rectangle with this first row, first column and width.
abbrev pub place_of_node : ℕ → ℕ → ℕ → ℕ → Place
place_of_node top left cols node =
    record { row = top + node / (cols + 2) - 1; col = left + node % (cols + 2) - 1 }

-- The cell at which the path from p through these cells ends.
abbrev pub last_cell : Place → List Place → Place
last_cell p [] = p
last_cell p (q ∷ rest) = last_cell q rest
