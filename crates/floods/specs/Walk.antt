-- A net has nodes, joins between nodes, and sources among the nodes; each join and source has a
-- height. A walk follows joins from a node to a source; its crest is its greatest height. The
-- level of a node is the least crest of its walks.
-- Public.
use Rattle.std.specs.Prelude.{◌≡◌, ℕ, ◌<◌, ◌≤◌, ℤ, pos, ◌≤ℤ◌, List, [], ◌∷◌, length, Option, None, Some, IsSome, MatchOption, slice_index_or, unwrap_or}
use Rattle.std.specs.List.{Contains, All}
use Rattle.std.specs.Int.{int_max}
use Rattle.floods.specs.declared.net.Spill.{Spill}

-- Joins, as a relation of a, b and h: node a is joined to node b at height h.
abbrev pub Joins : Type 1
Joins = ℕ → ℕ → ℤ → Type 0

-- Sources: the height of a source, None for any other node.
abbrev pub Sources : Type 0
Sources = ℕ → Option ℤ

-- No node from `first` on and before `end` is a source.
abbrev pub HasNoSource : Sources → ℕ → ℕ → Type 0
HasNoSource source first end = (a : ℕ) → first ≤ a → a < end → source a ≡ None

-- The arcs are a walk from node a: each leads to a joined node at the join's height, and the last
-- node is a source.
abbrev pub IsWalk : Joins → Sources → ℕ → List Spill → Type 0
IsWalk joins source a [] = IsSome (source a)
IsWalk joins source a (step ∷ rest) = joins a step.to step.height × IsWalk joins source step.to rest

-- The crest of a walk: the greatest of the heights of its joins and its source.
abbrev pub walk_crest : Sources → ℕ → List Spill → ℤ
walk_crest source a [] = unwrap_or (source a) (pos 0)
walk_crest source a (step ∷ rest) = int_max step.height (walk_crest source step.to rest)

-- The last node of a walk.
abbrev pub last_node : ℕ → List Spill → ℕ
last_node a [] = a
last_node a (step ∷ rest) = last_node step.to rest

-- The level of node a is the least crest of its walks. Its label is a source where a walk of that
-- crest ends. A source whose level is its own height is its own label.
pub record IsLevel (joins : Joins) (source : Sources) (a : ℕ) (level : ℤ) (label : ℕ) : Type 0 where
  pub reached : (walk : List Spill) × IsWalk joins source a walk
      × (walk_crest source a walk ≡ level)
      × (last_node a walk ≡ label)
  pub least : (walk : List Spill) → IsWalk joins source a walk → level ≤ℤ walk_crest source a walk
  pub own : source a ≡ Some level → label ≡ a

-- Node a has no walk to a source.
abbrev pub HasNoWalk : Joins → Sources → ℕ → Type 0
HasNoWalk joins source a = (walk : List Spill) → IsWalk joins source a walk → ⊥

-- Each node has its level and its label, or no walk and neither of them.
pub record IsFlooded (joins : Joins) (source : Sources) (nodes : ℕ) (levels : List (Option ℤ))
    (labels : List (Option ℕ)) : Type 0 where
  pub levels_size : length levels ≡ nodes
  pub labels_size : length labels ≡ nodes
  pub each : (a : ℕ) → a < nodes →
      MatchOption (slice_index_or levels a None)
      (HasNoWalk joins source a × (slice_index_or labels a None ≡ None))
      (λ level. (label : ℕ) × (slice_index_or labels a None ≡ Some label)
      × IsLevel joins source a level label)

-- There is an arc to node b at height h exactly if `joins b h`.
pub record HasJust (joins : ℕ → ℤ → Type 0) (arcs : List Spill) : Type 0 where
  pub only : All (λ arc. joins arc.to arc.height) arcs
  pub every : (b : ℕ) (h : ℤ) → joins b h → Contains arcs (record { to = b; height = h })
