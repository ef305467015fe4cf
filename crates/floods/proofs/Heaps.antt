-- The invariant of a flood, `IsFlooding`, says which nodes have final levels and which have entries
-- in the queue. Sources are queued one by one, each at its height, its first level. Takes drop the
-- entries of labelled nodes, up to a lowest entry of an unlabelled node or until none is left.
use Rattle.std.proofs.Common.{[], ◌≡◌, ℕ, ◌<◌, ◌⊎◌, ℤ, List, length, Option, None, Some, IsSome, zero, suc, ◌+◌, ◌∷◌, get_or, set, replicate, ◌≤ℤ◌, sym, ap, subst, refl, ◌∙◌, arith, inl, inr}
use Rattle.std.specs.Int.{int_max}
use Rattle.std.specs.List.{Contains, All}
use Rattle.floods.specs.Walk.{Joins, Sources, IsWalk, walk_crest, last_node, IsLevel}
use Rattle.floods.specs.Flood.{entry_of, HasLabel, HasCandidate, TakesLowest, PutsIn, HasNone, AreSourcesQueued, HasSourcesNoted}
use Rattle.floods.specs.declared.net.Spill.{Spill}
use Rattle.floods.specs.declared.queue.Candidate.{Candidate}
use Rattle.std.proofs.lemmas.Int.{ints}
use Rattle.std.proofs.lemmas.Bool.{cases_eq}
use Rattle.std.proofs.lemmas.List.{get_or-set_same, get_or-set_other}
use Rattle.std.proofs.lemmas.List.Elements.{All-contains, All-contains_itself}
use Rattle.std.proofs.lemmas.List.Sorted.{Contains-permutation, IsPermutation-sym}
use Rattle.std.proofs.lemmas.Option.{same_Some}

-- Some walk from the entry's node has the entry's height as crest and ends at the entry's label.
abbrev pub HasWalk : Joins → Sources → Candidate → Type 0
HasWalk joins source w = (walk : List Spill) × IsWalk joins source w.node walk ×
    (walk_crest source w.node walk ≡ w.height.0) × (last_node w.node walk ≡ w.label)

-- The invariant of a flood: nodes with labels have final levels, and each entry has a walk. Each
-- source without a label has an entry, at most at its height. Each unlabelled neighbour of a node
-- with a label has an entry, at most at the greater of the join's height and that node's level.
pub record IsFlooding (joins : Joins) (source : Sources) (nodes : ℕ) (levels : List (Option ℤ))
    (labels : List (Option ℕ)) (waiting : List Candidate) : Type 0 where
  pub levels_size : length levels ≡ nodes
  pub labels_size : length labels ≡ nodes
  pub settled : (a b : ℕ) → entry_of labels a ≡ Some b → (l : ℤ) × (entry_of levels a ≡ Some l)
      × IsLevel joins source a l b
  pub queue : All (λ w. (w.node < nodes) × HasWalk joins source w) waiting
  pub sources : (a : ℕ) (h : ℤ) → a < nodes → source a ≡ Some h → entry_of labels a ≡ None →
      HasCandidate waiting a h
  pub frontier : (a b : ℕ) (l h : ℤ) → a < nodes → joins a b h → IsSome (entry_of labels b) →
      entry_of levels b ≡ Some l → entry_of labels a ≡ None → HasCandidate waiting a (int_max h l)

-- Only entries of nodes with labels left the queue, and none was added.
pub record OnlyDoneLeft (labels : List (Option ℕ)) (old new : List Candidate) : Type 0 where
  pub left : All (Contains old) new
  pub kept : All (λ x. HasLabel labels x ⊎ Contains new x) old

pub all_by_contains : {X : Type 0} (P : X → Type 0) (xs : List X) → ((x : X) → Contains xs x → P x) → All P xs
all_by_contains P xs h k d below = h (get_or xs k d) (All-contains_itself xs k d below)

pub cons_head : {X : Type 0} (x : X) (xs : List X) → Contains (x ∷ xs) x
cons_head x xs = (0, omega arith, refl)

pub cons_cases : {X : Type 0} (x : X) (xs : List X) (y : X) → Contains (x ∷ xs) y → (y ≡ x) ⊎ Contains xs y
cons_cases x xs y h = go h.0 h.1 h.2 where
  go : (k : ℕ) → k < length (x ∷ xs) → get_or (x ∷ xs) k y ≡ y → (y ≡ x) ⊎ Contains xs y
  go zero below e = inl (sym e)
  go (suc k) below e = inr (k, omega arith, e)

pub one_held : {X : Type 0} (x y : X) → Contains (x ∷ []) y → y ≡ x
one_held x y h = elim (cons_cases x [] y h) [ inl same ↦ same | inr none ↦ absurd (omega arith) ]

pub cons_tail : {X : Type 0} (x : X) (xs : List X) (y : X) → Contains xs y → Contains (x ∷ xs) y
cons_tail x xs y h = (suc h.0, omega arith, h.2)

pub replicated : {X : Type 0} (x : X) (n k : ℕ) → get_or (replicate n x) k x ≡ x
replicated x zero k = refl
replicated x (suc n) zero = refl
replicated x (suc n) (suc k) = replicated x n k

module _ {x : Candidate} {old new : List Candidate} (perm : PutsIn x old new) (y : Candidate) where
  pub held_in : Contains (x ∷ old) y → Contains new y
  held_in h = Contains-permutation _ new y perm h

  pub held_cases : Contains new y → (y ≡ x) ⊎ Contains old y
  held_cases h = cons_cases x old y (Contains-permutation new _ y (IsPermutation-sym _ _ perm) h)

pub nothing_left : (labels : List (Option ℕ)) (xs : List Candidate) → OnlyDoneLeft labels xs xs
nothing_left labels xs = record {
  left = All-contains_itself xs;
  kept = λ k d below. inr (All-contains_itself xs k d below);
}

module _ {labels : List (Option ℕ)} {old now : List Candidate} (s : OnlyDoneLeft labels old now) where
  pub one_left : (rest : List Candidate) (x : Candidate) → PutsIn x rest now → HasLabel labels x →
      OnlyDoneLeft labels old rest
  one_left rest x perm done = record {
    left = all_by_contains (Contains old) rest
        (λ y h. All-contains (Contains old) now y s.left (held_in perm y (cons_tail x rest y h)));
    kept = all_by_contains (λ y. HasLabel labels y ⊎ Contains rest y) old
        (λ y h. elim (All-contains (λ z. HasLabel labels z ⊎ Contains now z) old y s.kept h) [
          | inl d ↦ inl d
          | inr held ↦ elim (held_cases perm y held) [
            | inl same ↦ inl (subst (λ (z : Candidate). HasLabel labels z) (sym same) done)
            | inr still ↦ inr still
          ]
        ]);
  }

  pub first_open : (rest : List Candidate) (x : Candidate) → PutsIn x rest now →
      All (λ y. x.height.0 ≤ℤ y.height.0) rest → entry_of labels x.node ≡ None → TakesLowest labels old x rest
  first_open rest x perm bound is_open = record {
    was_open = is_open;
    was = All-contains (Contains old) now x s.left (held_in perm x (cons_head x rest));
    lowest = all_by_contains (λ y. HasLabel labels y ⊎ (x.height.0 ≤ℤ y.height.0)) old
        (λ y h. elim (All-contains (λ z. HasLabel labels z ⊎ Contains now z) old y s.kept h) [
          | inl d ↦ inl d
          | inr held ↦ elim (held_cases perm y held) [
            | inl same ↦ inr (omega (arith, ints, ap (λ (z : Candidate). z.height.0) same))
            | inr still ↦ inr (All-contains (λ z. x.height.0 ≤ℤ z.height.0) rest y bound still)
          ]
        ]);
    left = all_by_contains (Contains old) rest
        (λ y h. All-contains (Contains old) now y s.left (held_in perm y (cons_tail x rest y h)));
    kept = all_by_contains (λ y. HasLabel labels y ⊎ (y ≡ x) ⊎ Contains rest y) old
        (λ y h. elim (All-contains (λ z. HasLabel labels z ⊎ Contains now z) old y s.kept h) [
          | inl d ↦ inl d
          | inr held ↦ inr (held_cases perm y held)
        ]);
  }

  pub all_done : HasNone now → All (HasLabel labels) old
  all_done none =
      all_by_contains (HasLabel labels) old
      (λ y h. elim (All-contains (λ z. HasLabel labels z ⊎ Contains now z) old y s.kept h) [
        | inl d ↦ d
        | inr held ↦ absurd (none y held)
      ])

pub no_sources : (source : Sources) (waiting : List Candidate) → HasNone waiting → AreSourcesQueued 0 source waiting
no_sources source waiting none = record {
  only = all_by_contains (λ w. (w.node < 0) × (source w.node ≡ Some w.height.0) × (w.label ≡ w.node)) waiting
      (λ w h. absurd (none w h));
  every = λ a h below e. absurd (omega arith);
}

pub source_passed : (source : Sources) (n : ℕ) (waiting : List Candidate) → AreSourcesQueued n source waiting →
    source n ≡ None → AreSourcesQueued (n + 1) source waiting
source_passed source n waiting s none = record {
  only = λ k d below. let o = s.only k d below in (omega arith, o.1, o.2);
  every = λ a h below e. elim (cases_eq a n) [
    | inl same ↦ absurd cc
    | inr other ↦ s.every a h (omega arith) e
  ];
}

-- If `now` has the entries of the sources below n, `new` has those of the sources below n + 1. Here
-- w is the entry of source n, and `new` is `now` with w added.
pub source_more : (source : Sources) {n : ℕ} {h : ℤ} (now new : List Candidate) (w : Candidate) →
    AreSourcesQueued n source now → source n ≡ Some h → w.node ≡ n → w.label ≡ n → w.height.0 ≡ h → PutsIn w now new →
    AreSourcesQueued (n + 1) source new
source_more source {n} {h} now new w s is node label height perm = record {
  only = all_by_contains (λ x. (x.node < n + 1) × (source x.node ≡ Some x.height.0) × (x.label ≡ x.node)) new
      (λ x held. elim (held_cases perm x held) [
        | inl same ↦
            subst (λ (x : Candidate). (x.node < n + 1) × (source x.node ≡ Some x.height.0) × (x.label ≡ x.node))
            (sym same) (omega arith, ap source node ∙ is ∙ ap Some (sym height), label ∙ sym node)
        | inr was ↦ let o =
            All-contains (λ x. (x.node < n) × (source x.node ≡ Some x.height.0) × (x.label ≡ x.node)) now x s.only
            was in (omega (arith, o.0), o.1, o.2)
      ]);
  every = λ a k below e. elim (cases_eq a n) [
    | inl same ↦ (
      w,
      held_in perm w (cons_head w now),
      node ∙ sym same,
      height ∙ same_Some h k (sym is ∙ subst (λ (j : ℕ). source j ≡ Some k) same e),
    )
    | inr other ↦ let x = s.every a k (omega arith) e in
        (x.0, held_in perm x.0 (cons_tail w now x.0 x.1), x.2, x.3)
  ];
}

pub none_noted : (source : Sources) (nodes : ℕ) → HasSourcesNoted 0 source (replicate nodes None)
none_noted source nodes = record { each = λ a below. absurd (omega arith); rest = λ a _. replicated None nodes a }

module _ {source : Sources} {n : ℕ} {levels : List (Option ℤ)} (s : HasSourcesNoted n source levels) where
  pub noted_past : source n ≡ None → HasSourcesNoted (n + 1) source levels
  noted_past none = record {
    each = λ a below. elim (cases_eq a n) [
      | inl same ↦ subst (λ k. entry_of levels k ≡ source k) (sym same) (s.rest n (omega arith) ∙ sym none)
      | inr other ↦ s.each a (omega arith)
    ];
    rest = λ a past. s.rest a (omega arith);
  }

  pub noted_more : {h : ℤ} → n < length levels → source n ≡ Some h →
      HasSourcesNoted (n + 1) source (set levels n (Some h))
  noted_more {h} inside is = record {
    each = λ a below. elim (cases_eq a n) [
      | inl same ↦
          subst (λ k. entry_of (set levels n (Some h)) k ≡ source k) (sym same)
          (get_or-set_same levels n _ None inside ∙ sym is)
      | inr other ↦ get_or-set_other levels n a _ None other ∙ s.each a (omega arith)
    ];
    rest = λ a past. get_or-set_other levels n a _ None (λ same. omega arith) ∙ s.rest a (omega arith);
  }
