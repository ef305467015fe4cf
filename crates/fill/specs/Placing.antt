-- Joins with labels given by number become joins with labels given by node. A node is a place's
-- index in row order of the grid. `nodes` has the node of each number's label.
-- Private.
use Rattle.std.specs.Prelude.{◌≡◌, ◌≢◌, ℕ, ◌==◌, if◌then◌else◌, ◌⊎◌, List, [], ◌∷◌, slice_index_or}
use Rattle.std.specs.List.{Contains}
use Rattle.fill.specs.Gathering.{turned}
use Rattle.fill.specs.declared.spill_graph.Join.{Join}

-- Join `j` with nodes for the numbers of its labels.
abbrev pub join_at : List ℕ → Join → Join
join_at nodes j = record {
  from = slice_index_or nodes j.from 0;
  to = slice_index_or nodes j.to 0;
  height = j.height;
}

-- Join `j` with nodes for numbers, or no join if both nodes are the same.
abbrev pub placed_joins_of : List ℕ → Join → List Join
placed_joins_of nodes j =
    if (join_at nodes j).from == (join_at nodes j).to then [] else join_at nodes j ∷ []

-- Join `j` is one of `joins` with nodes for numbers, in either direction, and its nodes differ.
abbrev pub IsPlacedOf : List ℕ → List Join → Join → Type 0
IsPlacedOf nodes joins j = (k : Join) × Contains joins k
    × ((join_at nodes k).from ≢ (join_at nodes k).to)
    × ((j ≡ join_at nodes k) ⊎ (j ≡ turned (join_at nodes k)))

-- The joins of `joins` whose nodes differ have been added, with nodes for numbers, in both
-- directions.
pub record AddsPlaced (nodes : List ℕ) (joins old new : List Join) : Type 0 where
  pub kept : (j : Join) → Contains old j → Contains new j
  pub only : (j : Join) → Contains new j → Contains old j ⊎ IsPlacedOf nodes joins j
  pub every : (j : Join) → IsPlacedOf nodes joins j → Contains new j
