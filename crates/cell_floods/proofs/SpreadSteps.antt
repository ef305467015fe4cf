-- A flood whose nodes take turns by height (`IsPart`): it begins with no labels, each step keeps it,
-- and at its end each node has its level and its label.
use Rattle.std.proofs.Common.{◌≡◌, ◌≢◌, ℕ, ◌+◌, ◌<◌, ◌≤◌, inl, inr, ℤ, ◌≤ℤ◌, Bool, true, false, leb, List, [], ◌∷◌, length, get_or, set, Option, None, Some, is_some, cond, if◌then◌else◌, ◌||◌, replicate, unwrap_or, pos, ◌∙◌, sym, ap, subst, refl, arith}
use Rattle.std.specs.Int.{int_max}
use Rattle.std.specs.List.{count_by}
use Rattle.std.proofs.lemmas.Bool.{cases_eq, cases_lt, le-leb, lt-leb, ne_eqb}
use Rattle.std.proofs.lemmas.Int.{ints, clamps}
use Rattle.std.proofs.Math.ListN.{get_or-map}
use Rattle.std.proofs.lemmas.List.{length-map, length-set, get_or-set_same, get_or-set_other, get_or_past, length-replicate}
use Rattle.std.proofs.lemmas.List.Elements.{All-contains}
use Rattle.std.proofs.lemmas.List.Sums.{sum_by-set}
use Rattle.std.proofs.lemmas.Option.{same_Some}
use Rattle.terrain.specs.StoredCells.{no_data}
use Rattle.terrain.proofs.Options.{cases_option, none_done, none_some, some_inside}
use Rattle.floods.specs.declared.net.Spill.{Spill}
use Rattle.floods.specs.Flood.{entry_of}
use Rattle.floods.specs.Notes.{label_of, no_label, numbered_labels}
use Rattle.floods.specs.Walk.{HasNoSource, IsFlooded, IsWalk, walk_crest}
use Rattle.floods.proofs.Heaps.{replicated}
use Rattle.floods.proofs.LabelNumbers.{is_label}
use Rattle.cell_floods.specs.Cells.{Cells, IsBeside, IsBordered, IsCellJoin, cell_at, cells_around, has_gap_around, is_sink, source_of}
use Rattle.cell_floods.specs.Spreading.{AreLabelled, AreMeetings, HasLabel, HasSources, HasWalkTo, IsBesideLabel, IsHeld, IsNodeMeeting, IsNoneBelow, IsPart, IsSound, Keeps, Spreads, number_of, source_number, waiting}
use Rattle.cell_floods.specs.declared.spreading.Spreading.{Spreading}
use Rattle.cell_floods.specs.declared.tile.Meeting.{Meeting}
use Rattle.cell_floods.proofs.CellArcs.{beside_around}

pub turned : (s a b : ℕ) → IsBeside s a b → IsBeside s b a
turned s a b (inl after) = inr after
turned s a b (inr before) = inl before

-- A source has a height, as cell.
pub source_cell : (n : Cells) (a : ℕ) (h : ℤ) → source_of n a ≡ Some h → cell_at n a ≡ Some h
source_cell n a h is = here (has_gap_around n a) (is_sink n.sinks a) is where
  here : (gap sink : Bool) → (if gap || sink then cell_at n a else None) ≡ Some h →
      cell_at n a ≡ Some h
  here true sink e = e
  here false true e = e
  here false false e = none_some None h refl e

-- A node with a walk has data, a height of at most the walk's crest.
pub walk_cell : (n : Cells) (a : ℕ) (walk : List Spill) → IsWalk (IsCellJoin n) (source_of n) a walk
    → (h : ℤ) × (cell_at n a ≡ Some h) × (h ≤ℤ walk_crest (source_of n) a walk)
walk_cell n a [] source = elim (cases_option (source_of n a)) [
  | inl none ↦ none_done (source_of n a) none source
  | inr found ↦ (
    found.0,
    source_cell n a found.0 found.1,
    omega (arith, ints, ap (λ o. unwrap_or o (pos 0)) found.1),
  )
]
walk_cell n a (step ∷ rest) walk =
    (walk.0.from_height, walk.0.from_cell, omega (arith, ints, clamps, walk.0.greater))

-- A walk from node `to` by way of node p, beside it.
pub walk_by : (now height level : ℤ) (n : Cells) (p to label : ℕ) → HasWalkTo n p level label →
    IsBeside n.stride p to → cell_at n to ≡ Some height → int_max height level ≡ now →
    HasWalkTo n to now label
walk_by now height level n p to label w beside cell greater =
    let from = walk_cell n p w.0 w.1 in (
      record { to = p; height = int_max from.0 height } ∷ w.0,
      (
        record {
          beside = turned n.stride p to beside;
          from_height = height;
          to_height = from.0;
          from_cell = cell;
          to_cell = from.1;
          greater = refl;
        },
        w.1,
      ),
      omega (arith, ints, clamps, w.2, from.2, greater),
      w.3,
    )

-- A node with a number of its own lies in the net.
pub number_inside : (labels : List ℕ) (a : ℕ) → number_of labels a < no_label → a < length labels
number_inside labels a has = elim (cases_lt a (length labels)) [
  | inl low ↦ low
  | inr high ↦ absurd (omega (arith, has, get_or_past labels a no_label high))
]

-- The label of a node by its number.
pub stored : (labels : List ℕ) (a : ℕ) →
    get_or (numbered_labels labels) a None ≡ label_of (number_of labels a)
stored labels a = get_or-map label_of labels a no_label

-- The number of a labelled node stores its label.
pub label_stored : (labels : List ℕ) (a : ℕ) → HasLabel labels a →
    get_or (numbered_labels labels) a None ≡ Some (number_of labels a)
label_stored labels a has = stored labels a ∙ is_label (number_of labels a) (omega (arith, has))

-- A later level changes nothing.
pub later : (now next : ℤ) (x : Spreading) → now ≤ℤ next → IsSound now x → IsSound next x
later now next x up s = record {
  meetings = s.meetings;
  part = record {
    levels_size = s.part.levels_size;
    labels_size = s.part.labels_size;
    few = s.part.few;
    rest = s.part.rest;
    sources = s.part.sources;
    only = s.part.only;
    reached = λ a has.
        let is = s.part.reached a has in (is.0, is.1, omega (arith, ints, is.2, up), is.3);
  };
}

module _ (now : ℤ) (n : Cells) (levels : List (Option ℤ)) (labels : List ℕ) (to label : ℕ)
    (s : IsPart now n levels labels) (free : waiting ≤ number_of labels to)
    (walk : HasWalkTo n to now label) (low : label < waiting)
    (own : (h : ℤ) → source_of n to ≡ Some h → (label ≡ to) × (h ≡ now)) where
  abbrev pub levels_after : List (Option ℤ)
  levels_after = set levels to (Some now)

  abbrev pub labels_after : List ℕ
  labels_after = set labels to label

  inside : to < length n.cells
  inside =
      let cell = walk_cell n to walk.0 walk.1 in
      some_inside n.cells to cell.0 cell.1

  level_here : entry_of levels_after to ≡ Some now
  level_here = get_or-set_same levels to (Some now) None (omega (arith, inside, s.levels_size))

  label_here : number_of labels_after to ≡ label
  label_here = get_or-set_same labels to label no_label (omega (arith, inside, s.labels_size))

  level_there : (a : ℕ) → a ≢ to → entry_of levels_after a ≡ entry_of levels a
  level_there a other = get_or-set_other levels to a (Some now) None other

  label_there : (a : ℕ) → a ≢ to → number_of labels_after a ≡ number_of labels a
  label_there a other = get_or-set_other labels to a label no_label other

  -- Node `to`, which had no label, gets this label and the level `now`.
  pub labelled : IsPart now n levels_after labels_after
  labelled = record {
    levels_size = length-set levels to (Some now) ∙ s.levels_size;
    labels_size = length-set labels to label ∙ s.labels_size;
    few = s.few;
    reached = λ a has. elim (cases_eq a to) [
      | inl same ↦ rw (same, level_here, label_here) (now, refl, omega (arith, ints), walk)
      | inr other ↦ rw (level_there a other, label_there a other)
          (s.reached a (subst (λ k. k < waiting) (label_there a other) has))
    ];
    rest = λ a none. elim (cases_eq a to) [
      | inl same ↦ absurd (omega (arith, none, low, ap (number_of labels_after) same, label_here))
      | inr other ↦ level_there a other ∙ s.rest a (omega (arith, none, label_there a other))
    ];
    sources = λ a h is. elim (cases_eq a to) [
      | inl same ↦
          let mine = own h (subst (λ k. source_of n k ≡ Some h) same is) in
          rw (same, level_here, label_here) (ap Some (sym mine.1), inl mine.0)
      | inr other ↦ rw (level_there a other, label_there a other) (s.sources a h is)
    ];
    only = λ a is. elim (cases_eq a to) [
      | inl same ↦ absurd (omega (arith, is, low, ap (number_of labels_after) same, label_here))
      | inr other ↦ s.only a (sym (label_there a other) ∙ is)
    ];
  }

  -- A labelled node keeps its level and its label.
  pub kept : (a : ℕ) → HasLabel labels a → (entry_of levels_after a ≡ entry_of levels a)
      × (number_of labels_after a ≡ number_of labels a)
  kept a has =
      let other : a ≢ to = λ same. absurd (omega (arith, has, free, ap (number_of labels) same)) in
      (level_there a other, label_there a other)

  -- One node without a label less is left.
  pub fewer : count_by (leb waiting) labels_after + 1 ≡ count_by (leb waiting) labels
  fewer =
      let counted = sum_by-set (λ (k : ℕ). cond (leb waiting k) 1 0) labels to label no_label
      (omega (arith, inside, s.labels_size)) in
      omega (
        arith,
        counted,
        ap {B = ℕ} (λ t. cond t 1 0) (le-leb waiting (number_of labels to) free),
        ap {B = ℕ} (λ t. cond t 1 0) (lt-leb waiting label low),
      )

-- A node that waits, or that has had no turn, is no source.
pub no_source : (now : ℤ) (n : Cells) (levels : List (Option ℤ)) (labels : List ℕ) (a : ℕ) →
    IsPart now n levels labels → waiting ≤ number_of labels a → number_of labels a ≢ source_number →
    (h : ℤ) → source_of n a ≡ Some h → ⊥
no_source now n levels labels a s free other h is = elim (s.sources a h is).1 [
  | inl own ↦
      omega (arith, free, own, s.few, some_inside n.cells a h (source_cell n a h is))
  | inr before ↦ other before
]

module _ (now : ℤ) (n : Cells) (levels : List (Option ℤ)) (labels : List ℕ) (to : ℕ)
    (s : IsPart now n levels labels) (free : waiting ≤ number_of labels to)
    (other : number_of labels to ≢ source_number) (low : to < length labels) where
  abbrev pub numbers : List ℕ
  numbers = set labels to waiting

  waits_here : number_of numbers to ≡ waiting
  waits_here = get_or-set_same labels to waiting no_label low

  number_there : (a : ℕ) → a ≢ to → number_of numbers a ≡ number_of labels a
  number_there a apart = get_or-set_other labels to a waiting no_label apart

  -- Node `to`, neither a labelled node nor a source, begins to wait.
  waits : IsPart now n levels numbers
  waits = record {
    levels_size = s.levels_size;
    labels_size = length-set labels to waiting ∙ s.labels_size;
    few = s.few;
    reached = λ a has. elim (cases_eq a to) [
      | inl same ↦ absurd (omega (arith, has, ap (number_of numbers) same, waits_here))
      | inr apart ↦ rw (number_there a apart)
          (s.reached a (subst (λ k. k < waiting) (number_there a apart) has))
    ];
    rest = λ a none. elim (cases_eq a to) [
      | inl same ↦ rw same (s.rest to free)
      | inr apart ↦ s.rest a (omega (arith, none, number_there a apart))
    ];
    sources = λ a h is. elim (cases_eq a to) [
      | inl same ↦ absurd (no_source now n levels labels to s free other h
          (subst (λ k. source_of n k ≡ Some h) same is))
      | inr apart ↦ rw (number_there a apart) (s.sources a h is)
    ];
    only = λ a is. elim (cases_eq a to) [
      | inl same ↦ absurd (omega (arith, is, ap (number_of numbers) same, waits_here))
      | inr apart ↦ s.only a (sym (number_there a apart) ∙ is)
    ];
  }

  number_kept : (a : ℕ) → HasLabel labels a → number_of numbers a ≡ number_of labels a
  number_kept a has = number_there a (λ same. absurd (omega (arith, has, free, ap (number_of labels) same)))

  as_many : count_by (leb waiting) numbers ≡ count_by (leb waiting) labels
  as_many = omega (
    arith,
    sum_by-set (λ (k : ℕ). cond (leb waiting k) 1 0) labels to waiting no_label low,
    ap {B = ℕ} (λ t. cond t 1 0) (le-leb waiting (number_of labels to) free),
    ap {B = ℕ} (λ t. cond t 1 0) (le-leb waiting waiting (omega arith)),
  )

-- What a number stores as label is the number.
label_number : (number label : ℕ) → label_of number ≡ Some label → number ≡ label
label_number number label is = elim (cases_eq number no_label) [
  | inl same ↦ none_some (label_of number) label (ap label_of same) is
  | inr other ↦
      let stored_as = ap (λ (b : Bool). if b then None else Some number) (ne_eqb number no_label other) in
      same_Some number label (sym stored_as ∙ is)
]

-- The labels of a meeting stay those of its nodes, whose levels stay too.
meeting_kept : (x y : Spreading) (m : Meeting) → y.net.now ≡ x.net.now → Keeps x y →
    m.from < waiting → m.to < waiting → IsNodeMeeting x.net.now x.levels.items (numbered_labels x.labels.items) m →
    IsNodeMeeting y.net.now y.levels.items (numbered_labels y.labels.items) m
meeting_kept x y m net kept from_low to_low is = rw net (record {
  from = is.from;
  to = is.to;
  height = is.height;
  from_level = is.from_level;
  to_level = is.to_level;
  join = is.join;
  from_label = label is.from m.from is.from_label from_low;
  to_label = label is.to m.to is.to_label to_low;
  from_is = level is.from m.from is.from_label from_low ∙ is.from_is;
  to_is = level is.to m.to is.to_label to_low ∙ is.to_is;
  greater = is.greater;
}) where
  has : (a l : ℕ) → get_or (numbered_labels x.labels.items) a None ≡ Some l → l < waiting →
      HasLabel x.labels.items a
  has a l is low = omega (
    arith,
    low,
    label_number (number_of x.labels.items a) l (sym (stored x.labels.items a) ∙ is),
  )

  label : (a l : ℕ) → get_or (numbered_labels x.labels.items) a None ≡ Some l → l < waiting →
      get_or (numbered_labels y.labels.items) a None ≡ Some l
  label a l is low = stored y.labels.items a ∙ ap label_of (kept a (has a l is low)).1
      ∙ sym (stored x.labels.items a) ∙ is

  level : (a l : ℕ) → get_or (numbered_labels x.labels.items) a None ≡ Some l → l < waiting →
      entry_of y.levels.items a ≡ entry_of x.levels.items a
  level a l is low = (kept a (has a l is low)).0

-- Meetings stay where labelled nodes keep their levels and labels.
pub meetings_kept : (x y : Spreading) → y.net.now ≡ x.net.now → Keeps x y →
    y.meetings.items ≡ x.meetings.items → AreMeetings x → AreMeetings y
meetings_kept x y net kept same met = rw same (λ k d low.
    let is = met k d low in (is.0, is.1, meeting_kept x y _ net kept is.0 is.1 is.2))

-- Node `to`, which had no label, gets this label and the level `now`: what holds after.
pub spreads_label : (now : ℤ) (to label : ℕ) (x y : Spreading) → IsSound now x →
    waiting ≤ number_of x.labels.items to → HasWalkTo x.net.now to now label → label < waiting →
    ((h : ℤ) → source_of x.net.now to ≡ Some h → (label ≡ to) × (h ≡ now)) →
    y.net.now ≡ x.net.now → y.levels.items ≡ set x.levels.items to (Some now) →
    y.labels.items ≡ set x.labels.items to label → y.meetings.items ≡ x.meetings.items →
    length y.woken.items ≤ length x.woken.items + 1 → Spreads now x y
spreads_label now to label x y s free walk low own net levels labels meetings woken =
    let n = x.net.now in
    let part = labelled now n _ _ to label s.part free walk low own in
    let keeps : Keeps x y = rw (levels, labels) (kept now n _ _ to label s.part free walk low own) in
    record {
      net = net;
      sound = record {
        part = rw (net, levels, labels) part;
        meetings = meetings_kept x y net keeps meetings s.meetings;
      };
      kept = keeps;
      work = omega (
        arith,
        ap (count_by (leb waiting)) labels,
        fewer now n _ _ to label s.part free walk low own,
        woken,
      );
    }

-- Node `to`, neither a labelled node nor a source, begins to wait: what holds after.
pub spreads_waiting : (now : ℤ) (to : ℕ) (x y : Spreading) → IsSound now x →
    waiting ≤ number_of x.labels.items to → number_of x.labels.items to ≢ source_number →
    to < length x.labels.items → y.net.now ≡ x.net.now → y.levels.items ≡ x.levels.items →
    y.labels.items ≡ set x.labels.items to waiting → y.meetings.items ≡ x.meetings.items →
    y.woken.items ≡ x.woken.items → Spreads now x y
spreads_waiting now to x y s free other low net levels labels meetings woken =
    let n = x.net.now in
    let keeps : Keeps x y = rw (levels, labels)
    (λ a has. (refl, number_kept now n _ _ to s.part free other low a has)) in
    record {
      net = net;
      sound = record {
        part = rw (net, levels, labels) (waits now n _ _ to s.part free other low);
        meetings = meetings_kept x y net keeps meetings s.meetings;
      };
      kept = keeps;
      work = omega (
        arith,
        ap (count_by (leb waiting)) labels,
        as_many now n _ _ to s.part free other low,
        ap length woken,
      );
    }

module _ (now : ℤ) (label to : ℕ) (x : Spreading) (s : IsSound now x)
    (by : IsBesideLabel now label to x) where
  -- The node beside `to` has a walk of the level `now` to its label.
  pub walk_beside : HasWalkTo x.net.now by.node now label
  walk_beside =
      let reached = s.part.reached by.node by.labelled in
      let level = same_Some reached.0 now (sym reached.1 ∙ by.level_is) in
      subst (λ l. HasWalkTo x.net.now by.node now l) by.label_is
      (subst (λ z. HasWalkTo x.net.now by.node z (number_of x.labels.items by.node)) level reached.3)

  -- Node `to`, a labelled one, meets the node beside it.
  pub meeting : HasLabel x.labels.items to → IsNodeMeeting x.net.now x.levels.items
      (numbered_labels x.labels.items)
      (record { from = label; to = number_of x.labels.items to; level = now })
  meeting has =
      let from = walk_cell x.net.now by.node walk_beside.0 walk_beside.1 in
      let other = s.part.reached to has in
      let there = walk_cell x.net.now to other.3.0 other.3.1 in
      record {
        from = by.node;
        to = to;
        height = int_max there.0 from.0;
        from_level = now;
        to_level = other.0;
        join = record {
          beside = by.beside;
          from_height = from.0;
          to_height = there.0;
          from_cell = from.1;
          to_cell = there.1;
          greater = refl;
        };
        from_label = label_stored x.labels.items by.node by.labelled ∙ ap Some by.label_is;
        to_label = label_stored x.labels.items to has;
        from_is = by.level_is;
        to_is = other.1;
        greater = omega (arith, ints, clamps, other.2);
      }

-- No node changes.
pub spreads_none : (now : ℤ) (x : Spreading) → IsSound now x → Spreads now x x
spreads_none now x sound = record {
  net = refl;
  sound = sound;
  kept = λ a has. (refl, refl);
  work = omega arith;
}

pub spreads_then : (now : ℤ) (x y z : Spreading) → Spreads now x y → Spreads now y z →
    Spreads now x z
spreads_then now x y z one other = record {
  net = other.net ∙ one.net;
  sound = other.sound;
  kept = λ a has.
      let first = one.kept a has in
      let second = other.kept a (omega (arith, has, first.1)) in
      (second.0 ∙ first.0, second.1 ∙ first.1);
  work = omega (arith, one.work, other.work);
}

module _ (now : ℤ) (n : Cells) (levels : List (Option ℤ)) (labels : List ℕ)
    (bordered : IsBordered n) (s : IsPart now n levels labels) (all : AreLabelled n labels)
    (held : (a : ℕ) → a < length n.cells → IsHeld n levels a) where
  -- A node with data has a level.
  level_at : (a : ℕ) (h : ℤ) → cell_at n a ≡ Some h → (level : ℤ) × (entry_of levels a ≡ Some level)
  level_at a h cell = elim (all a (some_inside n.cells a h cell)) [
    | inl has ↦ let is = s.reached a has in (is.0, is.1)
    | inr gap ↦ none_some (cell_at n a) h gap.0 cell
  ]

  -- The level of a node with a walk is at most the walk's crest.
  walked : (walk : List Spill) (a : ℕ) (level : ℤ) → IsWalk (IsCellJoin n) (source_of n) a walk →
      entry_of levels a ≡ Some level → level ≤ℤ walk_crest (source_of n) a walk
  walked [] a level source e = elim (cases_option (source_of n a)) [
    | inl none ↦ none_done (source_of n a) none source
    | inr found ↦
        let same = same_Some level found.0 (sym e ∙ (s.sources a found.0 found.1).0) in
        omega (arith, ints, same, ap (λ o. unwrap_or o (pos 0)) found.1)
  ]
  walked (step ∷ rest) a level walk e =
      let join = walk.0 in
      let next = level_at step.to join.to_height join.to_cell in
      let crest = walked rest step.to next.0 walk.1 next.1 in
      elim (held a (some_inside n.cells a join.from_height join.from_cell)) [
        | inl own ↦
            let same = same_Some level join.from_height (sym e ∙ own ∙ join.from_cell) in
            omega (arith, ints, clamps, same, join.greater)
        | inr none_below ↦
            let above = (bordered.border a (ap is_some join.from_cell)).0 in
            let not_below = All-contains (IsNoneBelow (unwrap_or (entry_of levels a) no_data) levels)
            (cells_around n.stride a) step.to none_below
            (beside_around n.stride a step.to above join.beside) in
            omega (
              arith,
              ints,
              clamps,
              not_below,
              crest,
              ap (λ o. unwrap_or o no_data) e,
              ap (λ o. unwrap_or o no_data) next.1,
            )
      ]

  -- The certificate: each node has its level and its label.
  pub flooded : IsFlooded (IsCellJoin n) (source_of n) (length n.cells) levels
      (numbered_labels labels)
  flooded = record {
    levels_size = s.levels_size;
    labels_size = length-map labels label_of ∙ s.labels_size;
    each = λ a below. elim (all a below) [
      | inl has ↦
          let is = s.reached a has in
          rw is.1 (
            number_of labels a,
            label_stored labels a has,
            record {
              reached = is.3;
              least = λ walk ok. walked walk a is.0 ok is.1;
              own = λ source. elim (s.sources a is.0 source).1 [
                | inl own ↦ own
                | inr waits ↦ absurd (omega (arith, has, waits))
              ];
            },
          )
      | inr gap ↦
          rw (s.rest a (omega (arith, gap.1)) ∙ gap.0) (
            λ walk is.
                let cell = walk_cell n a walk is in none_some (cell_at n a) cell.0 gap.0 cell.1,
            stored labels a ∙ ap label_of gap.1,
          )
    ];
  }

-- At first no node has a label.
pub unlabelled : (n : Cells) (labels : List ℕ) → labels ≡ replicate (length n.cells) no_label →
    HasSources 0 n labels
unlabelled n labels none_yet = rw none_yet (record {
  size = length-replicate (length n.cells) no_label;
  none = λ a. omega (arith, replicated no_label (length n.cells) a);
  every = λ a h below is. absurd (omega (arith, below));
  only = λ a is. absurd (omega (arith, is, replicated no_label (length n.cells) a));
})

pub source_stored : (c : ℕ) (h : ℤ) (n : Cells) (labels : List ℕ) → HasSources c n labels →
    source_of n c ≡ Some h → HasSources (c + 1) n (set labels c source_number)
source_stored c h n labels s is = record {
  size = length-set labels c source_number ∙ s.size;
  none = λ a. elim (cases_eq a c) [
    | inl same ↦ omega (arith, ap (number_of (set labels c source_number)) same, here)
    | inr other ↦ omega (arith, s.none a, there a other)
  ];
  every = λ a k below e. elim (cases_eq a c) [
    | inl same ↦ ap (number_of (set labels c source_number)) same ∙ here
    | inr other ↦ there a other ∙ s.every a k (omega (arith, below, other)) e
  ];
  only = λ a e. elim (cases_eq a c) [
    | inl same ↦ rw (same, is) refl
    | inr other ↦ s.only a (sym (there a other) ∙ e)
  ];
} where
  here : number_of (set labels c source_number) c ≡ source_number
  here =
      let inside = some_inside n.cells c h (source_cell n c h is) in
      get_or-set_same labels c source_number no_label (omega (arith, inside, s.size))

  there : (a : ℕ) → a ≢ c → number_of (set labels c source_number) a ≡ number_of labels a
  there a other = get_or-set_other labels c a source_number no_label other

pub sources_passed : (c d : ℕ) (n : Cells) (labels : List ℕ) → HasSources c n labels →
    HasNoSource (source_of n) c d → HasSources d n labels
sources_passed c d n labels s none = record {
  size = s.size;
  none = s.none;
  every = λ a h below is. elim (cases_lt a c) [
    | inl early ↦ s.every a h early is
    | inr past ↦ none_some (source_of n a) h (none a past below) is
  ];
  only = s.only;
}

-- The state before the first turn, whatever the level.
pub begun : (now : ℤ) (n : Cells) (levels : List (Option ℤ)) (labels : List ℕ) → IsBordered n →
    levels ≡ n.cells → HasSources (length n.cells) n labels → IsPart now n levels labels
begun now n levels labels bordered heights s = record {
  levels_size = ap length heights;
  labels_size = s.size;
  few = omega (arith, bordered.few);
  reached = λ a has. absurd (omega (arith, has, s.none a));
  rest = λ a none. ap (λ z. entry_of z a) heights;
  sources = λ a h is.
      let cell = source_cell n a h is in (
        ap (λ z. entry_of z a) heights ∙ cell,
        inr (s.every a h (some_inside n.cells a h cell) is),
      );
  only = s.only;
}
