-- Totals sent along links: a node sends its total, its weight and what it got, once all its donors,
-- the other nodes linked to it, have sent theirs.
-- Private.
use Rattle.std.specs.Prelude.{◌≡◌, ◌≢◌, ℕ, ◌+◌, ◌^◌, ◌<◌, ◌≤◌, Bool, true, false, not, ◌&&◌, ◌==◌, if◌then◌else◌, List, length, slice_index}
use Rattle.tile_jobs.specs.Sums.{sum_below}
use Rattle.flow.specs.Streams.{AreStreams, leads_to, total}

-- The entry in `waits` of a node that has sent. A node linked to itself, an end, sends nothing, and
-- gets it when the sending comes to it and all its donors have sent.
abbrev pub sent_entry : ℕ
sent_entry = 4294967295

abbrev pub has_sent : List ℕ → ℕ → Bool
has_sent waits i = slice_index waits i == sent_entry

-- 1 if node j is a donor of node i, that is another node linked to i; 0 otherwise.
abbrev pub donor : List ℕ → ℕ → ℕ → ℕ
donor links i j = if leads_to links j i then 1 else 0

-- 1 if node j is a donor of node i and has not sent; 0 otherwise.
abbrev pub waiting : List ℕ → List ℕ → ℕ → ℕ → ℕ
waiting links waits i j = if leads_to links j i && not (has_sent waits j) then 1 else 0

-- The total that node j has sent to node i. It is 0 if j is no donor of i or has not sent.
abbrev pub sent_on : List ℕ → List ℕ → List ℕ → ℕ → ℕ → ℕ
sent_on links waits totals i j =
    if leads_to links j i && has_sent waits j then slice_index totals j else 0

-- A node's entry in `totals` is its weight and what its donors have sent. Until it sends, `waits`
-- counts its donors that have not. The donors of a node that has sent have all sent.
pub record IsSending (links weights waits totals : List ℕ) : Type 0 where
  pub streams : AreStreams links
  pub few : length links ≤ 2 ^ 30
  pub fits : (i : ℕ) → i < length links → total links weights i < 2 ^ 32
  pub waits_size : length waits ≡ length links
  pub totals_size : length totals ≡ length links
  pub counts : (i : ℕ) → i < length links → has_sent waits i ≡ false →
      slice_index waits i ≡ sum_below (waiting links waits i) (length links)
  pub sums : (i : ℕ) → i < length links → slice_index totals i
      ≡ slice_index weights i + sum_below (sent_on links waits totals i) (length links)
  pub closed : (i j : ℕ) → i < length links → j < length links → leads_to links j i ≡ true →
      has_sent waits i ≡ true → has_sent waits j ≡ true

abbrev pub IsMarked : List ℕ → ℕ → Type 0
IsMarked waits i = slice_index waits i ≢ sent_entry

-- How many marked donors a node's entry has counted.
abbrev pub noted : List ℕ → ℕ → ℕ
noted waits i = if has_sent waits i then 0 else slice_index waits i

-- A marked node is one that has not sent. Entries count marked donors, except that `node` has
-- `donors` more than its entry says. So no unmarked node but `node` has a marked donor.
pub record AreMarks (links waits : List ℕ) (node donors : ℕ) : Type 0 where
  pub size : length waits ≡ length links
  pub each : (i : ℕ) → i < length links → noted waits i + (if node == i then donors else 0)
      ≡ sum_below (waiting links waits i) (length links)

pub record AreUnmarked (count : ℕ) (waits : List ℕ) : Type 0 where
  pub size : length waits ≡ count
  pub each : (i : ℕ) → i < count → slice_index waits i ≡ sent_entry

-- A list of `count` zeros.
pub record AreZeros (count : ℕ) (list : List ℕ) : Type 0 where
  pub size : length list ≡ count
  pub zeros : (i : ℕ) → slice_index list i ≡ 0

-- The number of donors of each node.
pub record AreDonorCounts (links counts : List ℕ) : Type 0 where
  pub size : length counts ≡ length links
  pub each : (i : ℕ) → i < length links →
      slice_index counts i ≡ sum_below (donor links i) (length links)
