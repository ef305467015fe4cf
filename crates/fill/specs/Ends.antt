-- The heights of labels that are end cells, in a list by node. A node is a place's index in row
-- order of the grid.
-- Private.
use Rattle.std.specs.Prelude.{◌≡◌, ℕ, ◌⊎◌, ℤ, List, length, set, Option, None, Some, IsSome, slice_index_or}
use Rattle.terrain.specs.Neighbours.{index_of}
use Rattle.terrain.specs.declared.place.Place.{Place}
use Rattle.tiles.specs.Cutting.{Cutting, IsWithin}
use Rattle.cell_floods.specs.TileFlood.{Flood}

-- The list with height `h` written at the node of place `p`; unchanged if either is None.
abbrev pub put_end : ℕ → Option Place → Option ℤ → List (Option ℤ) → List (Option ℤ)
put_end cols (Some p) (Some h) heights = set heights (index_of cols p) (Some h)
put_end cols (Some p) None heights = heights
put_end cols None end heights = heights

-- A label of the flood that is an end cell has node `a`, and its height is `height`.
pub record IsEndAt (c : Cutting) (f : Flood) (a : ℕ) (height : Option ℤ) : Type 0 where
  pub entry : ℕ
  pub place : Place
  pub listed : slice_index_or f.table.places entry None ≡ Some place
  pub within : IsWithin c place
  pub node : index_of c.cols place ≡ a
  pub some : IsSome (slice_index_or f.ends entry None)
  pub is : height ≡ slice_index_or f.ends entry None

-- `new` is `old` with the height of each label of the flood that is an end cell written at its
-- node.
pub record PutsEnds (c : Cutting) (f : Flood) (old new : List (Option ℤ)) : Type 0 where
  pub size : length new ≡ length old
  pub only : (a : ℕ)
      → (slice_index_or new a None ≡ slice_index_or old a None)
      ⊎ IsEndAt c f a (slice_index_or new a None)
  pub every : (k : ℕ) (p : Place)
      → slice_index_or f.table.places k None ≡ Some p → IsSome (slice_index_or f.ends k None)
      → IsEndAt c f (index_of c.cols p) (slice_index_or new (index_of c.cols p) None)
