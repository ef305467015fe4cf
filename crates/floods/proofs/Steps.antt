-- A flood's invariants (`IsFlooding`, `AreNoted`, `AreOwn`) hold once the sources are queued and
-- have levels, and as nodes are taken and labelled. When no unlabelled node is queued, each node
-- with a walk has its level and its label.
use Rattle.std.proofs.Common.{◌≡◌, ◌≢◌, ℕ, ◌<◌, List, [], ◌∷◌, length, set, replicate, ℤ, ◌≤ℤ◌, Option, None, Some, is_some, IsSome, sym, ap, subst, refl, ◌∙◌, arith, ◌⊎◌, inl, inr}
use Rattle.std.specs.Int.{int_max}
use Rattle.std.specs.List.{Contains, All}
use Rattle.std.proofs.lemmas.Int.{ints, clamps}
use Rattle.std.proofs.lemmas.List.{length-set, get_or-set_same, get_or-set_other, length-replicate}
use Rattle.std.proofs.lemmas.List.Elements.{All-contains}
use Rattle.std.proofs.lemmas.Option.{same_Some}
use Rattle.std.proofs.lemmas.Bool.{cases_eq, cases_lt}
use Rattle.terrain.proofs.Orders.{max_right, trans, le_of_same}
use Rattle.terrain.proofs.Options.{cases_option, none_some, none_done}
use Rattle.floods.specs.declared.net.Spill.{Spill}
use Rattle.floods.specs.declared.queue.Candidate.{Candidate}
use Rattle.floods.specs.Walk.{Joins, Sources, IsWalk, walk_crest, last_node, IsLevel, HasNoWalk, IsFlooded, HasJust}
use Rattle.floods.specs.Flood.{entry_of, HasLabel, TakesLowest, candidate_by, AreSourcesQueued, HasSourcesNoted, AreOwn, HasCandidate, IsCandidateBy, Queues, AreNoted, KeepsDone}
use Rattle.floods.proofs.Heaps.{HasWalk, IsFlooding, all_by_contains, replicated}

max_below : (h x y : ℤ) → x ≤ℤ y → int_max h x ≤ℤ int_max h y
max_below h x y e = omega (arith, ints, clamps)

-- By `AreNoted`, a node without a label has no level if the nodes of all entries have labels.
pub none_left : (labels : List (Option ℕ)) (levels : List (Option ℤ)) (waiting : List Candidate) (a : ℕ) →
    AreNoted labels levels waiting → All (HasLabel labels) waiting → entry_of labels a ≡ None → entry_of levels a ≡ None
none_left labels levels waiting a s all none = elim (cases_option (entry_of levels a)) [
  | inl unnoted ↦ unnoted
  | inr some ↦
      let w = s.queue a some.0 none some.1 in
      none_done (entry_of labels w.0.node) (cc) (All-contains (HasLabel labels) waiting w.0 all w.1)
]

module _ {source : Sources} {nodes : ℕ} {levels : List (Option ℤ)} {waiting : List Candidate}
    (s : AreSourcesQueued nodes source waiting) where
  pub begun : (joins : Joins) → length levels ≡ nodes →
      IsFlooding joins source nodes levels (replicate nodes None) waiting
  begun joins size = record {
    levels_size = size;
    labels_size = length-replicate nodes None;
    settled = λ a b e. none_some (entry_of (replicate nodes None) a) b (replicated None nodes a) e;
    queue = λ k d lt. let o = s.only k d lt in
        (o.0, ([], cc, cc, cc));
    sources = λ a h below e _. let w = s.every a h below e in
        (w.0, w.1, w.2, le_of_same w.0.height.0 h w.3);
    frontier =
        λ a b l h below joined done e _.
        none_done (entry_of {X = ℕ} (replicate nodes None) b) (replicated None nodes b) done;
  }

  pub sources_noted : HasSourcesNoted nodes source levels → length levels ≡ nodes →
      AreNoted (replicate nodes None) levels waiting
  sources_noted noted size = record {
    size = size ∙ sym (length-replicate nodes None);
    queue = λ a h _ e. elim (cases_lt a nodes) [
      | inl below ↦ let w = s.every a h below (sym (noted.each a below) ∙ e) in
          (w.0, w.1, w.2, le_of_same _ h w.3)
      | inr past ↦ none_some _ h (noted.rest a past) e
    ];
  }

  pub sources_own : HasSourcesNoted nodes source levels → AreOwn source (replicate nodes None) levels waiting
  sources_own noted = record {
    own = λ k d lt _. (s.only k d lt).2;
    low = λ a h below e _. (
      h,
      noted.each a (omega (arith, below, length-replicate {A = Option ℕ} nodes None)) ∙ e,
      le_of_same h h refl,
    );
  }

level_of_lowest : (joins : Joins) (source : Sources) (w : Candidate) → HasWalk joins source w →
    ((walk : List Spill) → IsWalk joins source w.node walk → w.height.0 ≤ℤ walk_crest source w.node walk) →
    (source w.node ≡ Some w.height.0 → w.label ≡ w.node) → IsLevel joins source w.node w.height.0 w.label
level_of_lowest joins source w walk least own = record { reached = walk; least = least; own = own }

-- If entry w was taken, any node a but w's, without a label, still has an entry at most at h, if it
-- had one.
still_waits : (labels : List (Option ℕ)) (old new : List Candidate) (w : Candidate) {a : ℕ} (h : ℤ) →
    TakesLowest labels old w new → a ≢ w.node → entry_of labels a ≡ None → HasCandidate old a h → HasCandidate new a h
still_waits labels old new w h t n none x =
    elim (All-contains (λ y. HasLabel labels y ⊎ (y ≡ w) ⊎ Contains new y) old x.0 t.kept x.1) [
      | inl done ↦ none_done (entry_of labels x.0.node) (cc) done
      | inr open_still ↦ elim open_still [
        | inl same ↦ absurd (n (cc))
        | inr held ↦ (x.0, held, x.2, x.3)
      ]
    ]

other_open : (labels : List (Option ℕ)) (n label a : ℕ) → n < length labels →
    entry_of (set labels n (Some label)) a ≡ None → a ≢ n
other_open labels n label a below none e = none_some _ label (rw e at none) (get_or-set_same labels n _ None below)

module _ {labels : List (Option ℕ)} {levels : List (Option ℤ)} {old new : List Candidate} {w : Candidate} (level : ℤ)
    (label : ℕ) (below : w.node < length labels) (t : TakesLowest labels old w new) where
  -- `AreNoted` still holds after the lowest entry w is taken and its node gets a level and a label.
  pub noted_still : AreNoted labels levels old →
      AreNoted (set labels w.node (Some label)) (set levels w.node (Some level)) new
  noted_still s = record {
    size = cc (length-set levels _ _, length-set labels _ _);
    queue = λ a h none noted.
        let n = other_open labels _ label a below none in
        let was = sym (get_or-set_other labels _ a _ None n) ∙ none in
        still_waits labels old new w h t n was (s.queue a h was (sym (get_or-set_other levels _ a _ None n) ∙ noted));
  }

  -- `AreOwn` still holds after the lowest entry w is taken and its node gets a level and a label.
  pub own_still : (source : Sources) → AreOwn source labels levels old →
      AreOwn source (set labels w.node (Some label)) (set levels w.node (Some level)) new
  own_still source s = record {
    own = all_by_contains (λ x. source x.node ≡ Some x.height.0 → x.label ≡ x.node) new (λ x h.
        All-contains (λ x. source x.node ≡ Some x.height.0 → x.label ≡ x.node) old x s.own
        (All-contains (Contains old) new x t.left h));
    low = λ a h inside is none.
        let n = other_open labels w.node label a below none in
        let was =
        s.low a h (omega (arith, inside, length-set labels w.node (Some label))) is
        (sym (get_or-set_other labels w.node a (Some label) None n) ∙ none) in
        (was.0, get_or-set_other levels w.node a (Some level) None n ∙ was.1, was.2);
  }

pub ends_inside : (joins : Joins) (source : Sources) (nodes : ℕ) → ((a b : ℕ) (h : ℤ) → joins a b h → b < nodes) →
    (walk : List Spill) (a : ℕ) → a < nodes → IsWalk joins source a walk → last_node a walk < nodes
ends_inside joins source nodes inside [] a below walk = below
ends_inside joins source nodes inside (step ∷ rest) a below walk =
    ends_inside joins source nodes inside rest step.to (inside a step.to step.height walk.0) walk.1

module _ {joins : Joins} {source : Sources} {nodes : ℕ} {levels : List (Option ℤ)} {labels : List (Option ℕ)}
    {waiting : List Candidate} (inside : (a b : ℕ) (h : ℤ) → joins a b h → b < nodes)
    (s : IsFlooding joins source nodes levels labels waiting) where
  -- If an unlabelled node has a walk, some unlabelled node's entry is at most at the walk's crest.
  pub open_walk : (walk : List Spill) (a : ℕ) → a < nodes → entry_of labels a ≡ None → IsWalk joins source a walk →
      (w : Candidate) × Contains waiting w × (entry_of labels w.node ≡ None) × (w.height.0 ≤ℤ walk_crest source a walk)
  open_walk [] a below none walk = elim (cases_option (source a)) [
    | inl none_here ↦ none_done (source a) none_here walk
    | inr found ↦
        let w = s.sources a found.0 below found.1 none in (w.0, w.1, cc, trans _ _ _ w.3 (le_of_same _ _ (cc)))
  ]
  open_walk (step ∷ rest) a below none walk =
      let next = inside a step.to step.height walk.0 in
      elim (cases_option (entry_of labels step.to)) [
        | inl open_next ↦
            let w = open_walk rest step.to next open_next walk.1 in
            (w.0, w.1, w.2, trans _ _ _ w.3 (max_right step.height (walk_crest source step.to rest)))
        | inr found ↦
            let level = s.settled step.to found.0 found.1 in
            let w = s.frontier a step.to level.0 step.height below walk.0 (cc) level.1 none in (
              w.0,
              w.1,
              ap (λ n. entry_of labels n) w.2 ∙ none,
              trans _ _ _ w.3
                  (max_below step.height level.0 (walk_crest source step.to rest) (level.2.least rest walk.1)),
            )
      ]

  -- The lowest entry of nodes without labels is no higher than the crest of any walk from its node.
  pub lowest_is_least : {new : List Candidate} (w : Candidate) → TakesLowest labels waiting w new →
      (walk : List Spill) → IsWalk joins source w.node walk → w.height.0 ≤ℤ walk_crest source w.node walk
  lowest_is_least w t walk is_walk =
      let here = All-contains (λ x. (x.node < nodes) × HasWalk joins source x) waiting w s.queue t.was in
      let found = open_walk walk w.node here.0 t.was_open is_walk in
      elim (All-contains (λ x. HasLabel labels x ⊎ (w.height.0 ≤ℤ x.height.0)) waiting found.0 t.lowest found.1) [
        | inl done ↦ none_done (entry_of labels found.0.node) found.2 done
        | inr low ↦ trans _ _ _ low found.3
      ]

  -- If the nodes of all entries have labels, a node without a label has no walk.
  pub no_walk : All (HasLabel labels) waiting → (a : ℕ) → a < nodes → entry_of labels a ≡ None →
      HasNoWalk joins source a
  no_walk all a below none walk is_walk =
      let found = open_walk walk a below none is_walk in
      none_done (entry_of labels found.0.node) found.2 (All-contains (HasLabel labels) waiting found.0 all found.1)

  pub flooded : AreNoted labels levels waiting → All (HasLabel labels) waiting →
      IsFlooded joins source nodes levels labels
  flooded noted all = record {
    levels_size = s.levels_size;
    labels_size = s.labels_size;
    each = λ a below. elim (cases_option (entry_of labels a)) [
      | inl none ↦ rw (none_left labels levels waiting a noted all none) (no_walk all a below none, none)
      | inr some ↦
          let level = s.settled a some.0 some.1 in
          rw level.1 (some.0, some.1, level.2)
    ];
  }

  -- `IsFlooding` is kept when the node of the lowest entry w gets the height and the label of w, and
  -- its neighbours are queued.
  pub settle : (after : List (Option ℤ)) (new more : List Candidate) {w : Candidate} {arcs : List Spill} →
      ((a b : ℕ) (h : ℤ) → joins a b h → joins b a h) → TakesLowest labels waiting w new → HasJust (joins w.node) arcs →
      Queues (set labels w.node (Some w.label)) w arcs new more → length after ≡ length levels →
      KeepsDone (set labels w.node (Some w.label)) (set levels w.node (Some w.height.0)) after →
      (source w.node ≡ Some w.height.0 → w.label ≡ w.node) →
      IsFlooding joins source nodes after (set labels w.node (Some w.label)) more
  settle after new more {w} {arcs} back t just spread size keeps labelled =
      let here = All-contains (λ x. (x.node < nodes) × HasWalk joins source x) waiting w s.queue t.was in
      let least = lowest_is_least w t in
      let inside_labels : w.node < length labels = omega arith in
      let label_here : entry_of (set labels w.node (Some w.label)) w.node ≡ Some w.label =
      get_or-set_same labels w.node (Some w.label) None inside_labels in
      let label_there : (a : ℕ) → a ≢ w.node → entry_of (set labels w.node (Some w.label)) a ≡ entry_of labels a =
      λ a n. get_or-set_other labels w.node a (Some w.label) None n in
      let level_here : entry_of after w.node ≡ Some w.height.0 =
      keeps w.node (ap is_some label_here) ∙ get_or-set_same levels w.node (Some w.height.0) None (omega arith) in
      let level_there : (a : ℕ) → a ≢ w.node → IsSome (entry_of (set labels w.node (Some w.label)) a) →
      entry_of after a ≡ entry_of levels a =
      λ a n done. keeps a done ∙ get_or-set_other levels w.node a (Some w.height.0) None n in
      let still : (a : ℕ) (h : ℤ) → a ≢ w.node → entry_of labels a ≡ None → HasCandidate waiting a h →
      HasCandidate more a h = λ a h n none x.
      let y = still_waits labels waiting new w h t n none x in
      (y.0, All-contains (Contains more) new y.0 spread.kept y.1, y.2, y.3) in
      record {
        levels_size = cc;
        labels_size = length-set labels w.node (Some w.label) ∙ s.labels_size;
        settled = λ a b e. elim (cases_eq a w.node) [
          | inl same ↦
              let is : w.label ≡ b =
              same_Some _ _
              (sym label_here ∙ subst (λ (n : ℕ). entry_of (set labels w.node (Some w.label)) n ≡ Some b) same e) in
              subst (λ (n : ℕ). (l : ℤ) × (entry_of after n ≡ Some l) × IsLevel joins source n l b) (sym same) (
                w.height.0,
                level_here,
                rw is at (level_of_lowest joins source w here.1 least labelled),
              )
          | inr n ↦
              let was = s.settled a b (sym (label_there a n) ∙ e) in
              (was.0, level_there a n (ap is_some e) ∙ was.1, was.2)
        ];
        queue = all_by_contains (λ x. (x.node < nodes) × HasWalk joins source x) more
            (λ x h. elim (All-contains (λ y. Contains new y ⊎ IsCandidateBy w arcs y) more x spread.made h) [
              | inl held ↦
                  All-contains (λ y. (y.node < nodes) × HasWalk joins source y) waiting x s.queue
                  (All-contains (Contains waiting) new x t.left held)
              | inr made ↦
                  let arc = made.0 in
                  let joined = All-contains (λ z. joins w.node z.to z.height) arcs arc just.only made.1 in
                  let walk : HasWalk joins source (candidate_by w arc) = (
                    record { to = w.node; height = arc.height } ∷ here.1.0,
                    (back w.node arc.to arc.height joined, here.1.1),
                    cc,
                    here.1.3,
                  ) in
                  subst (λ (y : Candidate). (y.node < nodes) × HasWalk joins source y) (cc)
                  (inside w.node arc.to arc.height joined, walk)
            ]);
        sources = λ a h below e none.
            let n = other_open labels w.node w.label a inside_labels none in
            let was = sym (label_there a n) ∙ none in
            still a h n was (s.sources a h below e was);
        frontier = λ a b l h below joined done e none.
            let n = other_open labels w.node w.label a inside_labels none in
            let was = sym (label_there a n) ∙ none in
            elim (cases_eq b w.node) [
              | inl same ↦
                  let back_here : joins w.node a h = rw same at (back a b h joined) in
                  let level_is : w.height.0 ≡ l =
                  same_Some _ _ (sym level_here ∙ subst (λ (k : ℕ). entry_of after k ≡ Some l) same e) in
                  let x =
                  All-contains (λ arc. entry_of (set labels w.node (Some w.label)) arc.to ≡ None →
                  HasCandidate more arc.to (int_max arc.height w.height.0)) arcs
                  (record { to = a; height = h }) spread.reached (just.every a h back_here) none in (
                    x.0,
                    x.1,
                    x.2,
                    trans _ _ _ x.3 (max_below h w.height.0 l (le_of_same _ _ level_is)),
                  )
              | inr m ↦
                  still a (int_max h l) n was
                  (s.frontier a b l h below joined (rw (label_there b m) at done) (sym (level_there b m done) ∙ e) was)
            ];
      }
