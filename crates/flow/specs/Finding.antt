-- Lists that have for each node the number of the node where its path along links ends, or 2^32 - 1
-- while this number is unknown.
-- Private.
use Rattle.std.specs.Prelude.{◌≡◌, ◌≢◌, ℕ, ◌<◌, ◌≤◌, List, length, slice_index}
use Rattle.terrain.specs.StoredCells.{uncounted}
use Rattle.flow.specs.Streams.{AreStreams, end_of}
use Rattle.flow.specs.Numbering.{EndNumbers}

-- All paths along the links end, and each node has a number below `uncounted`, 2^32 - 1.
pub record HaveNumbers (links : List ℕ) (n : EndNumbers) : Type 0 where
  pub streams : AreStreams links
  pub cells : length links ≤ n.cells
  pub few : (i : ℕ) → i < length links → n.number i < uncounted

abbrev pub IsKnown : List ℕ → ℕ → Type 0
IsKnown found i = slice_index found i ≢ uncounted

-- Each known entry is the number of the end of its node's path.
pub record AreKnown (links : List ℕ) (number : ℕ → ℕ) (found : List ℕ) : Type 0 where
  pub size : length found ≡ length links
  pub right : (i : ℕ) → i < length links → IsKnown found i →
      slice_index found i ≡ number (end_of links i)
