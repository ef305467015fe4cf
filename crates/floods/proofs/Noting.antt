-- Relaxing a node's arcs, the joins seen from it, queues each unlabelled neighbour whose crest is
-- below its level, if any. That crest, the greater height of arc and node entry, becomes its level.
use Rattle.std.proofs.Common.{◌≡◌, ℕ, ◌<◌, List, [], ◌∷◌, ◌++◌, length, get_or, set, map, take, drop, ℤ, ◌≤ℤ◌, Option, None, Some, IsSome, ◌+◌, sym, subst, refl, ◌∙◌, arith, ◌⊎◌, inl, inr, to_z, of_z}
use Rattle.std.specs.Int.{int_max}
use Rattle.std.specs.Int.Signed.{≤ℤ_refl}
use Rattle.terrain.proofs.Orders.{trans, le_of_same}
use Rattle.terrain.proofs.Options.{none_done}
use Rattle.terrain.proofs.Heights.{height_width}
use Rattle.std.specs.List.{Contains}
use Rattle.std.proofs.lemmas.Int.{ints, to_z-of_z}
use Rattle.std.proofs.lemmas.Int.{by_lt_z}
use mir.Val.{SFits}
use Rattle.std.proofs.lemmas.Bool.{cases_eq}
use Rattle.std.proofs.lemmas.List.{length-set, get_or-set_same, get_or-set_other, map_more}
use Rattle.std.proofs.lemmas.List.Elements.{All-contains, All-contains_itself, Contains-append_left, Contains-append_right, Contains-append_cases}
use Rattle.std.proofs.Math.Seq.{take-append_seam}
use Rattle.std.proofs.lemmas.Option.{same_Some}
use Rattle.floods.specs.declared.net.Spill.{Spill}
use Rattle.floods.specs.declared.queue.Candidate.{Candidate}
use Rattle.floods.specs.declared.queue.Queue.{Queue}
use Rattle.floods.specs.Walk.{Sources}
use Rattle.floods.specs.Flood.{AreOwn, InOrder, PutsIn, candidates_in, entry_of, HasCandidate, IsCandidateBy, candidate_by, Queues, AreNoted, KeepsDone, Relaxes}
use Rattle.floods.proofs.Heaps.{all_by_contains, cons_head, cons_tail, held_in, held_cases, one_held}

module _ {labels : List (Option ℕ)} (from : Candidate) (arc : Spill) where
  -- If an arc's end has a label, or an entry at most at its crest by the arc, `Queues` holds without
  -- a new entry.
  pub passed : (waiting : List Candidate) →
      (entry_of labels arc.to ≡ None → HasCandidate waiting arc.to (int_max arc.height from.height.0)) →
      Queues labels from (arc ∷ []) waiting waiting
  passed waiting reached = record {
    kept = All-contains_itself waiting;
    made = λ k d below. inl (All-contains_itself waiting k d below);
    reached =
        all_by_contains (λ y. entry_of labels y.to ≡ None → HasCandidate waiting y.to (int_max y.height from.height.0))
        (arc ∷ []) (λ y h. rw (one_held arc y h) reached);
  }

  pub passed_done : (waiting : List Candidate) → IsSome (entry_of labels arc.to) →
      Queues labels from (arc ∷ []) waiting waiting
  passed_done waiting done = passed waiting (λ none. none_done (entry_of labels arc.to) none done)

  pub no_entry_if_low : {levels : List (Option ℤ)} (waiting : List Candidate) {h : ℤ} → AreNoted labels levels waiting →
      entry_of levels arc.to ≡ Some h → h ≤ℤ int_max arc.height from.height.0 →
      Queues labels from (arc ∷ []) waiting waiting
  no_entry_if_low waiting {h} s noted low = passed waiting (λ none.
      let x = s.queue arc.to h none noted in
      (x.0, x.1, x.2, trans _ _ _ x.3 low))

  module _ {old new : List Candidate} (perm : PutsIn (candidate_by from arc) old new) where
    -- `Queues` holds of an arc once the neighbour's entry by this arc is added to the queue.
    pub neighbour_queued : Queues labels from (arc ∷ []) old new
    neighbour_queued = record {
      kept = all_by_contains (Contains new) old (λ y h. held_in perm y (cons_tail (candidate_by from arc) old y h));
      made = all_by_contains (λ y. Contains old y ⊎ IsCandidateBy from (arc ∷ []) y) new
          (λ y h. elim (held_cases perm y h) [
            | inl same ↦ inr (arc, cons_head arc [], same)
            | inr held ↦ inl held
          ]);
      reached =
          all_by_contains (λ y. entry_of labels y.to ≡ None → HasCandidate new y.to (int_max y.height from.height.0))
          (arc ∷ []) (λ y h. rw (one_held arc y h) (λ _. here));
    } where
      here : HasCandidate new arc.to (int_max arc.height from.height.0)
      here = (candidate_by from arc, held_in perm _ (cons_head (candidate_by from arc) old), refl, ≤ℤ_refl _)

    -- `AreNoted` is kept when a neighbour is queued and its crest by the arc becomes its level. By
    -- `AreNoted`, each unlabelled node with a level has an entry at most at that level.
    pub noted : (levels : List (Option ℤ)) → arc.to < length labels → AreNoted labels levels old →
        AreNoted labels (set levels arc.to (Some (int_max arc.height from.height.0))) new
    noted levels below s = record {
      size = length-set levels _ _ ∙ s.size;
      queue = λ a h none found. elim (cases_eq a _) [
        | inl same ↦
            let is : crest ≡ h =
            same_Some _ _ (sym (get_or-set_same levels arc.to (Some crest) None (omega (arith, below, s.size))) ∙
            rw same at found) in (
              candidate_by from arc,
              held_in perm _ (cons_head _ old),
              sym same,
              le_of_same crest h is,
            )
        | inr n ↦
            let x = s.queue a h none (sym (get_or-set_other levels _ a _ None n) ∙ found) in
            (x.0, held_in perm x.0 (cons_tail _ old _ x.1), x.2, x.3)
      ];
    } where
      crest : ℤ
      crest = int_max arc.height from.height.0

    -- `AreOwn` is kept when an unlabelled neighbour is queued at a crest below its level, if any, and
    -- the crest becomes its level. By `AreOwn`, a source's entry at the source's height has the source
    -- as label; an unlabelled source has a level, at most its height.
    pub own_by_arc : (source : Sources) (levels : List (Option ℤ)) → arc.to < length labels →
        length levels ≡ length labels → entry_of labels arc.to ≡ None →
        ((h : ℤ) × (entry_of levels arc.to ≡ Some h) × (h ≤ℤ int_max arc.height from.height.0) → ⊥) →
        AreOwn source labels levels old →
        AreOwn source labels (set levels arc.to (Some (int_max arc.height from.height.0))) new
    own_by_arc source levels below size none lower s = record {
      own = all_by_contains (λ y. source y.node ≡ Some y.height.0 → y.label ≡ y.node) new
          (λ y h. elim (held_cases perm y h) [
            | inl same ↦
                subst (λ (y : Candidate). source y.node ≡ Some y.height.0 → y.label ≡ y.node) (sym same)
                (λ is. absurd (lower (s.low arc.to crest below is none)))
            | inr held ↦ All-contains (λ y. source y.node ≡ Some y.height.0 → y.label ≡ y.node) old y s.own held
          ]);
      low = λ a h inside is open_here.
          let was = s.low a h inside is open_here in
          elim (cases_eq a arc.to) [
            | inl same ↦
                let there : entry_of levels arc.to ≡ Some was.0 =
                subst (λ (n : ℕ). entry_of levels n ≡ Some was.0) same was.1 in (
                  crest,
                  subst (λ (n : ℕ). entry_of (set levels arc.to (Some crest)) n ≡ Some crest) (sym same)
                      (get_or-set_same levels arc.to (Some crest) None (omega arith)),
                  high was.0 h there was.2,
                )
            | inr n ↦ (was.0, get_or-set_other levels arc.to a (Some crest) None n ∙ was.1, was.2)
          ];
    } where
      crest : ℤ
      crest = int_max arc.height from.height.0

      high : (l h : ℤ) → entry_of levels arc.to ≡ Some l → l ≤ℤ h → crest ≤ℤ h
      high l h there low = by_lt_z crest l (λ less. omega (arith, ints)) (λ up. absurd (lower (l, there, up)))

pub keeps_done : (labels : List (Option ℕ)) (levels : List (Option ℤ)) (a : ℕ) (level : Option ℤ) →
    entry_of labels a ≡ None → KeepsDone labels levels (set levels a level)
keeps_done labels levels a level none = λ b done. elim (cases_eq b a) [
  | inl same ↦ none_done _ none (rw same at done)
  | inr n ↦ get_or-set_other levels a b level None n
]

-- If `height`, `level` and `greater` fit in 64 bits, the maximum computed in 64 bits is exact.
pub kept_crest : (height level : ℤ) {greater : ℤ} → SFits height_width height → SFits height_width level →
    SFits height_width greater →
    greater ≡ int_max (to_z height_width (of_z height_width height)) (to_z height_width (of_z height_width level)) →
    to_z height_width (of_z height_width greater) ≡ int_max height level
kept_crest height level {greater} fits_height fits_level fits_greater e = to_z-of_z height_width greater fits_greater ∙
    (rw (to_z-of_z height_width height fits_height, to_z-of_z height_width level fits_level) at e)

module _ {labels : List (Option ℕ)} {from : Candidate} where
  pub no_arcs : (waiting : List Candidate) → Queues labels from [] waiting waiting
  no_arcs waiting = record {
    kept = All-contains_itself waiting;
    made = λ k d below. inl (All-contains_itself waiting k d below);
    reached = λ k d below. absurd (omega arith);
  }

  -- If `Queues` holds for `arcs` from `old` to `now`, and for `last` from `now` to `new`, it holds
  -- for both together from `old` to `new`.
  pub more_arcs : (arcs last : List Spill) {old now new : List Candidate} → Queues labels from arcs old now →
      Queues labels from last now new → Queues labels from (arcs ++ last) old new
  more_arcs arcs last {old} {now} {new} s t = record {
    kept = all_by_contains (Contains new) old
        (λ y h. All-contains (Contains new) now y t.kept (All-contains (Contains now) old y s.kept h));
    made = all_by_contains (λ y. Contains old y ⊎ IsCandidateBy from (arcs ++ last) y) new
        (λ y h. elim (All-contains (λ z. Contains now z ⊎ IsCandidateBy from last z) new y t.made h) [
          | inl held ↦ elim (All-contains (λ z. Contains old z ⊎ IsCandidateBy from arcs z) now y s.made held) [
            | inl was ↦ inl was
            | inr by ↦ inr (by.0, Contains-append_left arcs last by.0 by.1, by.2)
          ]
          | inr by ↦ inr (by.0, Contains-append_right arcs last by.0 by.1, by.2)
        ]);
    reached =
        all_by_contains (λ y. entry_of labels y.to ≡ None → HasCandidate new y.to (int_max y.height from.height.0))
        (arcs ++ last) (λ y h none. elim (Contains-append_cases arcs last y h) [
          | inl early ↦
              let x =
              All-contains (λ z. entry_of labels z.to ≡ None → HasCandidate now z.to (int_max z.height from.height.0))
              arcs y s.reached early none in
              (x.0, All-contains (Contains new) now x.0 t.kept x.1, x.2, x.3)
          | inr late ↦
              All-contains (λ z. entry_of labels z.to ≡ None → HasCandidate new z.to (int_max z.height from.height.0))
              last y t.reached late none
        ]);
  }

  module _ {levels : List (Option ℤ)} {queue : Queue} (order : InOrder queue)
      (noted : AreNoted labels levels (candidates_in queue)) where
    -- If the queue is in order, and `AreNoted` and `Queues` hold without a new entry, `Relaxes` holds
    -- with levels and queue unchanged.
    pub stays : {arcs : List Spill} → Queues labels from arcs (candidates_in queue) (candidates_in queue) →
        Relaxes labels from arcs levels levels queue queue
    stays passed = record { order = order; noted = noted; kept = λ a done. refl; own = λ source s. s; queue = passed }

    pub none_relaxed : Relaxes labels from [] levels levels queue queue
    none_relaxed = stays (no_arcs (candidates_in queue))

  pub more_relaxed : (arcs last : List Spill) {levels between after : List (Option ℤ)} {old now new : Queue} →
      Relaxes labels from arcs levels between old now → Relaxes labels from last between after now new →
      Relaxes labels from (arcs ++ last) levels after old new
  more_relaxed arcs last s t = record {
    order = t.order;
    noted = t.noted;
    kept = λ a done. t.kept a done ∙ s.kept a done;
    own = λ source o. t.own source (s.own source o);
    queue = more_arcs arcs last s.queue t.queue;
  }

pub written_back : {X : Type 0} (n : ℕ) (xs items : List X) → length xs ≡ n → take n (xs ++ drop (length xs) items) ≡ xs
written_back n xs items e =
    subst (λ k. take k (xs ++ drop (length xs) items) ≡ xs) e (take-append_seam xs (drop (length xs) items))

pub mapped_more : {X Y : Type 0} (f : X → Y) (xs : List X) (i : ℕ) (d : X) (now next : List Y) (y : Y) → i < length xs →
    now ≡ map f (take i xs) → next ≡ now ++ y ∷ [] → y ≡ f (get_or xs i d) → next ≡ map f (take (i + 1) xs)
mapped_more f xs i d now next y low is more here = cc (map_more f xs i d low)
