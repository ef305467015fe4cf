-- The spill graph as a list of joins in order, with each label given by its node. A node is a
-- place's index in row order of the grid.
-- Public.
use Rattle.std.specs.Prelude.{◌≡◌, ℕ, ◌*◌, ◌<◌, ◌≤◌, ℤ, List, length, Option, slice_index_or}
use Rattle.std.specs.List.{Contains, All}
use Rattle.tiles.specs.Cutting.{Cutting}
use Rattle.fill.specs.Gathering.{AreRising, turned}
use Rattle.fill.specs.SpillGraph.{Graph}
use Rattle.fill.specs.declared.spill_graph.Join.{Join}

-- The joins from nodes before `node` are those before index `start`.
pub record BeginAt (joins : List Join) (node start : ℕ) : Type 0 where
  pub few : start ≤ length joins
  pub below : (k : ℕ) (d : Join) → k < start → (slice_index_or joins k d).from < node
  pub above : (k : ℕ) (d : Join) → start ≤ k → k < length joins →
      node ≤ (slice_index_or joins k d).from

-- The graph with these joins and sources. Its nodes are the places of the grid.
abbrev pub graph_with : Cutting → List Join → List (Option ℤ) → Graph
graph_with c joins sources = record { nodes = c.cols * c.rows; joins = joins; sources = sources }

-- `sources` has an entry for each node, None where the node is no source. The joins, between nodes,
-- are in order and in both directions.
pub record IsGraph (g : Graph) : Type 0 where
  pub sources : length g.sources ≡ g.nodes
  pub ends : All (λ j. (j.from < g.nodes) × (j.to < g.nodes)) g.joins
  pub back : (j : Join) → Contains g.joins j → Contains g.joins (turned j)
  pub rising : AreRising g.joins
