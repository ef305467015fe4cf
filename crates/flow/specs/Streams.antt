-- Nodes numbered from 0, each linked to the next one downstream. An end is linked to itself. A
-- node's path follows links from the node. A node's total is the sum of the weights of all nodes
-- whose paths contain it.
-- Source: textbook forests, given by the parent of each node.
-- Public.
use Rattle.std.specs.Prelude.{◌≡◌, ℕ, zero, suc, ◌+◌, ◌<◌, Bool, not, ◌&&◌, ◌==◌, if◌then◌else◌, List, length, slice_index}
use Rattle.tile_jobs.specs.Sums.{sum_below}

-- The node to which a node is linked.
abbrev pub next_node : List ℕ → ℕ → ℕ
next_node links i = slice_index links i

-- The node after k moves along links.
abbrev pub node_after : List ℕ → ℕ → ℕ → ℕ
node_after links i zero = i
node_after links i (suc k) = next_node links (node_after links i k)

-- The end of a node's path: the node after as many moves as there are nodes.
abbrev pub end_of : List ℕ → ℕ → ℕ
end_of links i = node_after links i (length links)

-- Each link leads to a node, and each path ends.
pub record AreStreams (links : List ℕ) : Type 0 where
  pub inside : (i : ℕ) → i < length links → next_node links i < length links
  pub ends : (i : ℕ) → i < length links → next_node links (end_of links i) ≡ end_of links i

-- Node j is linked to i, another node.
abbrev pub leads_to : List ℕ → ℕ → ℕ → Bool
leads_to links j i = next_node links j == i && not (j == i)

-- The sum of f over all other nodes linked to node i.
abbrev pub upstream_sum : List ℕ → (ℕ → ℕ) → ℕ → ℕ
upstream_sum links f i = sum_below (λ j. if leads_to links j i then f j else 0) (length links)

-- The sum of the weights of all nodes that reach node i in fewer than k moves. Node i reaches
-- itself in 0 moves.
abbrev pub total_within : List ℕ → List ℕ → ℕ → ℕ → ℕ
total_within links weights zero i = 0
total_within links weights (suc k) i =
    slice_index weights i + upstream_sum links (total_within links weights k) i

-- The sum of the weights of all nodes whose paths contain node i, node i included.
abbrev pub total : List ℕ → List ℕ → ℕ → ℕ
total links weights i = total_within links weights (length links) i

-- Entry i of `totals` is the total of node i.
pub record AreSums (links weights totals : List ℕ) : Type 0 where
  pub size : length totals ≡ length links
  pub each : (i : ℕ) → i < length links → slice_index totals i ≡ total links weights i

-- The number of the end of each node's path.
pub record AreEndNumbers (links : List ℕ) (number : ℕ → ℕ) (numbers : List ℕ) : Type 0 where
  pub size : length numbers ≡ length links
  pub each : (i : ℕ) → i < length links → slice_index numbers i ≡ number (end_of links i)

-- The end of each node's path.
abbrev pub AreEnds : List ℕ → List ℕ → Type 0
AreEnds links ends = AreEndNumbers links (λ e. e) ends
