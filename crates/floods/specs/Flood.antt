-- The queue of a flood has entries: a node, and the crest and end of a walk from it. A step takes a
-- lowest entry of an unlabelled node and labels the node. An unlabelled neighbour is queued if its
-- crest, the greater of the entry's and the arc's heights, is below its level, if any. An arc is a
-- join seen from a node. A walk follows joins from a node to a source (`Walk`).
-- Private.
use Rattle.std.specs.Prelude.{◌≡◌, ℕ, ◌<◌, ◌≤◌, ◌⊎◌, ℤ, ◌≤ℤ◌, List, ◌∷◌, length, Option, None, Some, IsSome, slice_index_or}
use Rattle.std.specs.Ordering.{int_cmp}
use Rattle.std.specs.declared.cmp.Ordering.{Ordering}
use Rattle.floods.specs.declared.queue.Candidate.{Candidate}
use Rattle.floods.specs.declared.queue.Queue.{Queue}
use Rattle.std.specs.BinaryHeap.{IsHeap, heap_items}
use Rattle.std.specs.Int.{int_max}
use Rattle.std.specs.List.Sorted.{IsPermutation}
use Rattle.std.specs.List.{Contains, All}
use Rattle.floods.specs.Walk.{Joins, Sources, HasJust}
use Rattle.floods.specs.declared.net.Spill.{Spill}

-- The order of the heap: the entry of least height is the greatest.
abbrev pub candidate_order : Candidate → Candidate → Ordering
candidate_order x y = int_cmp y.height.0 x.height.0

-- All entries of a queue.
abbrev pub candidates_in : Queue → List Candidate
candidates_in w = heap_items w.heap

-- The queue's heap is in order.
abbrev pub InOrder : Queue → Type 0
InOrder w = IsHeap candidate_order (candidates_in w)

-- The new entries are the old ones and w, in any order.
abbrev pub PutsIn : Candidate → List Candidate → List Candidate → Type 0
PutsIn w old new = IsPermutation (w ∷ old) new

-- There is no entry.
abbrev pub HasNone : List Candidate → Type 0
HasNone waiting = (w : Candidate) → Contains waiting w → ⊥

-- Element a of the list, None past its end.
abbrev pub entry_of : {X : Type 0} → List (Option X) → ℕ → Option X
entry_of xs a = slice_index_or xs a None

-- The entry's node has a label. In a flood, a node's level is final once the node has a label;
-- before, it is the least crest found so far.
abbrev pub HasLabel : List (Option ℕ) → Candidate → Type 0
HasLabel labels w = IsSome (entry_of labels w.node)

-- w is a lowest of the entries of unlabelled nodes. No entry is added. At most w and entries of
-- labelled nodes are gone.
pub record TakesLowest (labels : List (Option ℕ)) (old : List Candidate) (w : Candidate)
    (new : List Candidate) : Type 0 where
  pub was_open : entry_of labels w.node ≡ None
  pub was : Contains old w
  pub lowest : All (λ x. HasLabel labels x ⊎ (w.height.0 ≤ℤ x.height.0)) old
  pub left : All (Contains old) new
  pub kept : All (λ x. HasLabel labels x ⊎ (x ≡ w) ⊎ Contains new x) old

-- The entry of node `arc.to`, reached by `arc` from the node of `from`. The entry's height is the
-- greater of the heights of `arc` and `from`, and its label that of `from`.
abbrev pub candidate_by : Candidate → Spill → Candidate
candidate_by from arc = record {
  height = record { 0 = int_max arc.height from.height.0 };
  node = arc.to;
  label = from.label;
}

-- The entries are those of the sources below `nodes`. Each has the source's height, and the source
-- as label.
pub record AreSourcesQueued (nodes : ℕ) (source : Sources) (waiting : List Candidate) : Type 0 where
  pub only : All (λ w. (w.node < nodes) × (source w.node ≡ Some w.height.0) × (w.label ≡ w.node))
      waiting
  pub every : (a : ℕ) (h : ℤ) → a < nodes → source a ≡ Some h →
      (w : Candidate) × Contains waiting w × (w.node ≡ a) × (w.height.0 ≡ h)

-- Each source below `count` has its height as level, and no other node has a level.
pub record HasSourcesNoted (count : ℕ) (source : Sources) (levels : List (Option ℤ)) : Type 0 where
  pub each : (a : ℕ) → a < count → entry_of levels a ≡ source a
  pub rest : (a : ℕ) → count ≤ a → entry_of levels a ≡ None

-- If an entry's node is a source of the entry's height, the entry's label is that node. Each source
-- of the net without a label has a level, at most the source's height.
pub record AreOwn (source : Sources) (labels : List (Option ℕ)) (levels : List (Option ℤ))
    (waiting : List Candidate) : Type 0 where
  pub own : All (λ w. source w.node ≡ Some w.height.0 → w.label ≡ w.node) waiting
  pub low : (a : ℕ) (h : ℤ) → a < length labels → source a ≡ Some h → entry_of labels a ≡ None →
      (l : ℤ) × (entry_of levels a ≡ Some l) × (l ≤ℤ h)

-- Some entry of node a is at most at height h.
abbrev pub HasCandidate : List Candidate → ℕ → ℤ → Type 0
HasCandidate waiting a h = (w : Candidate) × Contains waiting w × (w.node ≡ a) × (w.height.0 ≤ℤ h)

-- Entry w is `candidate_by` of `from` and one of `arcs`.
abbrev pub IsCandidateBy : Candidate → List Spill → Candidate → Type 0
IsCandidateBy from arcs w = (arc : Spill) × Contains arcs arc × (w ≡ candidate_by from arc)

-- Old entries stay, and each added entry is `candidate_by` of `from` and one of `arcs`. An arc's
-- end has a label, or an entry at most at the greater of the heights of the arc and `from`.
pub record Queues (labels : List (Option ℕ)) (from : Candidate) (arcs : List Spill)
    (old : List Candidate) (new : List Candidate) : Type 0 where
  pub kept : All (Contains new) old
  pub made : All (λ w. Contains old w ⊎ IsCandidateBy from arcs w) new
  pub reached : All (λ arc. entry_of labels arc.to ≡ None →
      HasCandidate new arc.to (int_max arc.height from.height.0)) arcs

-- Each node with a level and without a label has an entry at most at that level.
pub record AreNoted (labels : List (Option ℕ)) (levels : List (Option ℤ))
    (waiting : List Candidate) : Type 0 where
  pub size : length levels ≡ length labels
  pub queue : (a : ℕ) (h : ℤ) → entry_of labels a ≡ None → entry_of levels a ≡ Some h →
      HasCandidate waiting a h

-- Nodes with labels keep their levels.
abbrev pub KeepsDone : List (Option ℕ) → List (Option ℤ) → List (Option ℤ) → Type 0
KeepsDone labels old new = (a : ℕ) → IsSome (entry_of labels a) → entry_of new a ≡ entry_of old a

-- The arcs `arcs` of `from` were relaxed as in Dijkstra's algorithm: nodes are queued as `Queues`
-- says. The new queue is in order, and nodes with labels keep their levels. A node with a level and
-- without a label has an entry at most at that level. `AreOwn` holds after if it held before.
pub record Relaxes (labels : List (Option ℕ)) (from : Candidate) (arcs : List Spill)
    (levels after : List (Option ℤ)) (old new : Queue) : Type 0 where
  pub order : InOrder new
  pub noted : AreNoted labels after (candidates_in new)
  pub kept : KeepsDone labels levels after
  pub own : (source : Sources) → AreOwn source labels levels (candidates_in old) →
      AreOwn source labels after (candidates_in new)
  pub queue : Queues labels from arcs (candidates_in old) (candidates_in new)

-- `Relaxes` holds for a list of all arcs of the node of `from`.
abbrev pub Spreads : Joins → List (Option ℕ) → Candidate → List (Option ℤ) → List (Option ℤ) →
    Queue → Queue → Type 0
Spreads joins labels from levels after old new =
    (arcs : List Spill) × HasJust (joins from.node) arcs
    × Relaxes labels from arcs levels after old new
