-- As nodes send totals downstream, each node's total stays its weight and what its donors, the other
-- nodes linked to it, have sent. Its entry in `waits` counts the donors that have not sent, and
-- becomes `sent_entry` when the node itself sends. If no entry is 0, all are `sent_entry`.
use Rattle.std.proofs.Common.{◌≡◌, ◌≢◌, ℕ, ◌+◌, ◌<◌, Bool, true, false, not, ◌&&◌, cond, eqb, ◌⊎◌, inl, inr, List, length, get_or, set, sym, ap, refl, ◌∙◌, arith, ◌^◌, ◌≤◌, ◌-◌}
use Rattle.std.proofs.lemmas.Bool.{cases_eq, cases_Bool, eq-eqb, eqb-true, ne_eqb, cond-true, cond-false, and_left, and_right, and_parts, not-true, not_from_true, not_from_false, true_from_ne_false, false≢true, false_from_ne_true}
use Rattle.std.proofs.lemmas.List.{get_or-set_same, get_or-set_other}
use Rattle.std.proofs.Math.ListN.{length-set}
use Rattle.tile_jobs.specs.Sums.{sum_below}
use Rattle.flow.specs.Streams.{next_node, leads_to, AreStreams, AreSums, total}
use Rattle.flow.specs.Sending.{donor, sent_entry, has_sent, waiting, sent_on, IsSending, AreDonorCounts, IsMarked, noted, AreMarks, AreUnmarked}
use Rattle.flow.proofs.Totals.{leads_from, each_downstream, totals_le, totals_are, total_is, leads_self, leads_end, upstream}
use Rattle.tile_jobs.proofs.Sums.{bit_le, cond_same, sum_below-none, sum_below-few, sum_below-same, sum_below-le, sum_below-except, some_term, term-le-sum_below}

pub and_on : (a : Bool) {b : Bool} → b ≡ true → (a && b) ≡ a
and_on true t = t
and_on false t = refl

waiting-open : (links waits : List ℕ) (i j : ℕ) → has_sent waits j ≡ false → waiting links waits i j ≡ donor links i j
waiting-open links waits i j f = cc (and_on (leads_to links j i) (not_from_false _ f))

waiting-sent : (links waits : List ℕ) (i j : ℕ) → has_sent waits j ≡ true → waiting links waits i j ≡ 0
waiting-sent links waits i j t = cond-false _ _ _ (and_right _ _ (not_from_true _ t))

sent_on-open : (links waits totals : List ℕ) (i j : ℕ) → has_sent waits j ≡ false → sent_on links waits totals i j ≡ 0
sent_on-open links waits totals i j f = cond-false _ _ _ (and_right _ _ f)

sent_on-all : (links waits totals : List ℕ) (i j : ℕ) → has_sent waits j ≡ true →
    sent_on links waits totals i j ≡ upstream links j i (get_or totals j 0)
sent_on-all links waits totals i j t = cc (and_on (leads_to links j i) t)

awaited_from : (links waits : List ℕ) (i j : ℕ) → 0 < waiting links waits i j → (leads_to links j i ≡ true) ×
    (has_sent waits j ≡ false)
awaited_from links waits i j h = elim (cases_Bool (leads_to links j i && not (has_sent waits j))) [
  | inl y ↦ let w = and_parts _ _ y in (w.0, not-true _ w.1)
  | inr n ↦ absurd (omega (arith, cond-false {A = ℕ}))
]

open_from_count : (waits : List ℕ) (i : ℕ) → get_or waits i 0 < sent_entry → has_sent waits i ≡ false
open_from_count waits i l = ne_eqb _ _ (λ e. omega arith)

-- A node that is no end leads to its link and to no other node.
pub leads_test : (links : List ℕ) (node : ℕ) {next : ℕ} (i : ℕ) → next ≡ next_node links node → next ≢ node →
    leads_to links node i ≡ eqb next i
leads_test links node {next} i is ne = elim (cases_eq next i) [
  | inl e ↦ leads_from links node (cc) (λ z. ne (cc)) ∙ sym (eq-eqb next i e)
  | inr off ↦ and_left _ _ (ne_eqb _ _ (λ z. off (is ∙ z))) ∙ sym (ne_eqb next i off)
]

-- Raising entry k by v adds v to entry k and nothing to any other.
pub added_at : (xs : List ℕ) (k v i : ℕ) → k < length xs → get_or (set xs k (get_or xs k 0 + v)) i 0 ≡ get_or xs i 0 +
    cond (eqb k i) v 0
added_at xs k v i h = elim (cases_eq k i) [
  | inl e ↦ omega (
    arith,
    ap (λ n. get_or (set xs k (get_or xs k 0 + v)) n 0) e,
    get_or-set_same xs k (get_or xs k 0 + v) 0 h,
    ap (λ n. get_or xs n 0) e,
    cond-true _ v 0 (eq-eqb k i e),
  )
  | inr ne ↦ omega (
    arith,
    get_or-set_other xs k i (get_or xs k 0 + v) 0 (λ e. ne (cc)),
    cond-false _ v 0 (ne_eqb k i ne),
  )
]

-- Bounds on totals while nodes send; the state before any node has sent, and after all have.

part_le : (a b : Bool) (n : ℕ) → cond (a && b) n 0 ≤ cond a n 0
part_le true true n = omega arith
part_le true false n = omega arith
part_le false b n = omega arith

-- If no entry of `waits` is 0, every node has sent.
all_sent : {links weights waits totals : List ℕ} → IsSending links weights waits totals →
    ((i : ℕ) → i < length links → get_or waits i 0 ≢ 0) → (i : ℕ) → i < length links → has_sent waits i ≡ true
all_sent {links = links} {waits = waits} s some =
    each_downstream s.streams (λ _ i. has_sent waits i ≡ true) (λ _ i h before. true_from_ne_false _
    (λ f. (let above : 0 < sum_below (waiting links waits i) (length links) = omega (arith, some i h, s.counts i h f) in
    let j = some_term _ _ above in
    let a = awaited_from links waits i _ j.2 in
    false≢true (sym a.1 ∙ before _ j.1 a.0))))

pub sums_from : (links weights waits totals : List ℕ) → IsSending links weights waits totals →
    ((i : ℕ) → i < length links → get_or waits i 0 ≢ 0) → AreSums links weights totals
sums_from links weights waits totals s some = record {
  size = s.totals_size;
  each = λ i h. sym (total_is {f = λ j. get_or totals j 0} s.streams (record {
    each = λ i h. omega (
      arith,
      sum_below-same _ (λ j. upstream links j i (get_or totals j 0)) _ (λ j l. sent_on-all links waits totals i j
          (all_sent s some j l)),
    );
  }) i h);
}

abbrev unsent_one : List ℕ → ℕ → ℕ
unsent_one waits i = cond {A = ℕ} (has_sent waits i) 0 1

-- The number of nodes below n that have not sent.
abbrev pub unsent : List ℕ → ℕ → ℕ
unsent waits n = sum_below (unsent_one waits) n

-- If all nodes with a weight are marked, sending may begin.
pub marks_begin : (links weights waits : List ℕ) → AreStreams links → length links ≤ 2 ^ 30 →
    length weights ≡ length links → ((i : ℕ) → i < length links → total links weights i < 2 ^ 32) → (node : ℕ) →
    AreMarks links waits node 0 → ((i : ℕ) → i < length links → get_or weights i 0 ≢ 0 → IsMarked waits i) →
    IsSending links weights waits weights
marks_begin links weights waits streams few size fits node m marked = record {
  streams = streams;
  few = few;
  fits = fits;
  waits_size = m.size;
  totals_size = size;
  counts = λ i h f. omega (arith, cond-false _ 0 (get_or waits i 0) f, cond_same);
  sums = λ i h. omega (arith, sum_below-none _ _ (none i));
  closed = λ i j h l on t. true_from_ne_false _ (λ f. omega (
    arith,
    cond-true _ 0 (get_or waits i 0) t,
    cond_same,
    term-le-sum_below (waiting links waits i) _ j l,
    waiting-open,
    cond-true {A = ℕ},
  ));
}
  where
    none : (i j : ℕ) → j < length links → sent_on links waits weights i j ≡ 0
    none i j l = elim (cases_Bool (has_sent waits j)) [
      | inr f ↦ sent_on-open links waits weights i j f
      | inl t ↦ elim (cases_eq (get_or weights j 0) 0) [
        | inl e ↦ sent_on-all links waits weights i j t ∙ ap (λ n. upstream links j i n) e ∙
            cond_same (leads_to links j i)
        | inr ne ↦ absurd (marked j l ne (eqb-true _ _ t))
      ]
    ]

pub donors_begin : (links weights waits : List ℕ) → AreStreams links → length links ≤ 2 ^ 30 →
    length weights ≡ length links → ((i : ℕ) → i < length links → total links weights i < 2 ^ 32) →
    AreDonorCounts links waits → IsSending links weights waits weights
donors_begin links weights waits streams few size fits d =
    let low : (i : ℕ) → i < length links → has_sent waits i ≡ false = λ i h. open_from_count waits i (omega (
      arith,
      sum_below-few (donor links i) (length links) (λ j l. bit_le _),
    )) in
    marks_begin links weights waits streams few size fits 0 (record {
      size = d.size;
      each = λ i h. omega (
        arith,
        cond-false _ 0 (get_or waits i 0) (low i h),
        cond_same,
        sum_below-same _ _ _ (λ j l. sym (waiting-open links waits i j (low j l))),
      );
    }) (λ i h ne e. false≢true (sym (low i h) ∙ eq-eqb _ _ e))

-- Marking the nodes of a path.
module _ {links waits : List ℕ} (few : length links ≤ 2 ^ 30) {node donors : ℕ} (m : AreMarks links waits node donors)
    (inside : node < length links) where
  donors_few : noted waits node + donors ≤ length links
  donors_few = omega (
    arith,
    cond-true _ donors 0 (eq-eqb node node refl),
    sum_below-few (waiting links waits node) (length links) (λ j l. bit_le _),
  )

  pub entry_new : get_or waits node 0 ≡ sent_entry → donors ≡ noted waits node + donors
  entry_new new = omega (arith, cond-true _ 0 (get_or waits node 0) (eq-eqb _ _ new))

  pub entry_added : IsMarked waits node → get_or waits node 0 + donors ≡ noted waits node + donors
  entry_added was = omega (arith, cond-false _ 0 (get_or waits node 0) (ne_eqb _ _ was))

  pub entry_fits : IsMarked waits node → get_or waits node 0 + donors < 2 ^ 32
  entry_fits was = omega (arith, entry_added, donors_few)

  -- The entry of `node` becomes one that counts all its donors.
  module _ {entry : ℕ} (counts : entry ≡ noted waits node + donors) where
    open_now : has_sent (set waits node entry) node ≡ false
    open_now = open_from_count _ node (omega (arith, get_or-set_same waits node entry 0 (omega arith), donors_few))

    same_mark : (j : ℕ) → j ≢ node → has_sent (set waits node entry) j ≡ has_sent waits j
    same_mark j ne = cc (get_or-set_other waits node j entry 0 ne)

    set_marked : IsMarked (set waits node entry) node
    set_marked e = false≢true (sym open_now ∙ eq-eqb _ _ e)

    pub set_kept : (i : ℕ) → IsMarked waits i → IsMarked (set waits node entry) i
    set_kept i was = elim (cases_eq i node) [
      | inl e ↦ λ z. set_marked (cc)
      | inr ne ↦ λ z. was (cc (get_or-set_other waits node i entry 0 ne))
    ]

    pub set_from : (from : ℕ) → (node ≡ from) ⊎ IsMarked waits from → IsMarked (set waits node entry) from
    set_from from (inl e) = rw (← e) set_marked
    set_from from (inr was) = set_kept from was

    noted_all : (i : ℕ) → i < length links → noted (set waits node entry) i ≡ sum_below (waiting links waits i)
        (length links)
    noted_all i h = elim (cases_eq i node) [
      | inl e ↦ omega (
        arith,
        ap (noted (set waits node entry)) e,
        cond-false _ 0 (get_or (set waits node entry) node 0) open_now,
        get_or-set_same waits node entry 0 (omega arith),
        cond-true _ donors 0 (eq-eqb node node refl),
        ap (λ n. sum_below (waiting links waits n) (length links)) e,
      )
      | inr ne ↦ omega (
        arith,
        ap (λ b. cond b 0 (get_or (set waits node entry) i 0)) (same_mark i ne),
        ap (λ n. cond (has_sent waits i) 0 n) (get_or-set_other waits node i entry 0 ne),
        cond-false _ donors 0 (ne_eqb node i (λ e. ne (cc))),
      )
    ]

    -- A node that was marked keeps its mark.
    pub mark_added : IsMarked waits node → AreMarks links (set waits node entry) 0 0
    mark_added was =
        let same : (j : ℕ) → has_sent (set waits node entry) j ≡ has_sent waits j = λ j. elim (cases_eq j node) [
          | inl e ↦ ap (has_sent (set waits node entry)) e ∙ open_now ∙ sym (ap (has_sent waits) e ∙ ne_eqb _ _ was)
          | inr ne ↦ same_mark j ne
        ] in
        record {
          size = cc (length-set waits node entry);
          each = λ i h. omega (
            arith,
            noted_all,
            cond_same,
            sum_below-same (waiting links (set waits node entry) i) (waiting links waits i) (length links)
                (λ j l. cc (same j)),
          );
        }

    module _ (new : get_or waits node 0 ≡ sent_entry) where
      marked_sum : (i : ℕ) → i < length links → noted (set waits node entry) i + donor links i node ≡ sum_below
          (waiting links (set waits node entry) i) (length links)
      marked_sum i h = omega (
        arith,
        noted_all,
        sum_below-except (waiting links (set waits node entry) i) (waiting links waits i) _ node inside
            (λ j l ne. cc (same_mark j ne)),
        waiting-sent links waits i node (eq-eqb _ _ new),
        waiting-open links _ i node open_now,
      )

      pub mark_on : {next : ℕ} → next ≡ get_or links node 0 → next ≢ node → AreMarks links (set waits node entry) next 1
      mark_on {next} is ne = record {
        size = cc (length-set waits node entry);
        each = λ i h. omega (arith, marked_sum, ap (λ b. cond {A = ℕ} b 1 0) (leads_test links node i is ne));
      }

      pub mark_end : get_or links node 0 ≡ node → AreMarks links (set waits node entry) 0 0
      mark_end end = record {
        size = cc (length-set waits node entry);
        each = λ i h. omega (arith, marked_sum, cond-false {A = ℕ} _ 1 0 (leads_end links i end), cond_same);
      }

pub marks_none : (links waits : List ℕ) → AreUnmarked (length links) waits → AreMarks links waits 0 0
marks_none links waits none = record {
  size = none.size;
  each = λ i h. omega (
    arith,
    cond-true _ 0 (get_or waits i 0) (eq-eqb _ _ (none.each i h)),
    cond_same,
    sum_below-none _ _ (λ j l. waiting-sent links waits i j (eq-eqb _ _ (none.each j l))),
  );
}

pub marks_of : {links waits : List ℕ} {from : ℕ} (node : ℕ) → AreMarks links waits from 0 → AreMarks links waits node 0
marks_of {from = from} node m = record { size = m.size; each = λ i h. omega (arith, cond_same, cond_same) }

-- One node sends its total.

-- How `waits` and `totals` change as `node` sends. If `node` is an end, it gets the entry of a node
-- that has sent, and nothing else changes.
record MovesOn (links waits totals new_waits new_totals : List ℕ) (node : ℕ) : Type 0 where
  pub waits_size : length new_waits ≡ length waits
  pub totals_size : length new_totals ≡ length totals
  pub sent : get_or new_waits node 0 ≡ sent_entry
  pub fewer : (i : ℕ) → i ≢ node → get_or new_waits i 0 + donor links i node ≡ get_or waits i 0
  pub more : (i : ℕ) → get_or new_totals i 0 ≡ get_or totals i 0 + upstream links node i (get_or totals node 0)

module _ {links weights waits totals : List ℕ} (s : IsSending links weights waits totals) where
  -- A node's total so far is at most its total.
  so_far_le : (i : ℕ) → i < length links → get_or totals i 0 ≤ total links weights i
  so_far_le = totals_le s.streams (λ j. get_or weights j 0) (λ j. get_or totals j 0) _ (λ i h. omega (
    arith,
    sum_below-le _ (λ j. upstream links j i (get_or totals j 0)) (length links) (λ j l. part_le _ (has_sent waits j)
        (get_or totals j 0)),
  )) (λ i h. omega (arith, (totals_are weights s.streams).each i h))

  module _ (node : ℕ) (inside : node < length links) (ready : get_or waits node 0 ≡ 0) where
    node_open : has_sent waits node ≡ false
    node_open = open_from_count waits node (omega arith)

    donors_sent : (j : ℕ) → j < length links → leads_to links j node ≡ true → has_sent waits j ≡ true
    donors_sent j h on = elim (cases_Bool (has_sent waits j)) [
      | inl t ↦ t
      | inr f ↦ absurd (omega (
        arith,
        s.counts node inside node_open,
        waiting-open,
        cond-true {A = ℕ},
        term-le-sum_below (waiting links waits node) _ j h,
      ))
    ]

    -- The node downstream has not sent.
    next_open : (i : ℕ) → i < length links → leads_to links node i ≡ true → has_sent waits i ≡ false
    next_open i h on = false_from_ne_true _ (λ t. false≢true (sym node_open ∙ s.closed i node h inside on t))

    next_waits : (i : ℕ) → i < length links → leads_to links node i ≡ true → 1 ≤ get_or waits i 0
    next_waits i h on = omega (
      arith,
      s.counts i h (next_open i h on),
      waiting-open links waits i node node_open,
      cond-true {A = ℕ},
      term-le-sum_below (waiting links waits i) _ node inside,
    )

    next_few : (i : ℕ) → i < length links → leads_to links node i ≡ true → get_or waits i 0 ≤ length links
    next_few i h on = omega (
      arith,
      s.counts i h (next_open i h on),
      sum_below-few (waiting links waits i) (length links) (λ j l. bit_le _),
    )

    module _ {new_waits new_totals : List ℕ} (m : MovesOn links waits totals new_waits new_totals node) where
      sent_now : has_sent new_waits node ≡ true
      sent_now = eq-eqb _ _ m.sent

      other_sent : (j : ℕ) → j < length links → j ≢ node → has_sent new_waits j ≡ has_sent waits j
      other_sent j h ne = elim (cases_Bool (leads_to links node j)) [
        | inl on ↦ open_from_count new_waits j (omega (arith, next_few)) ∙ sym (next_open j h on)
        | inr off ↦ (let same : get_or new_waits j 0 ≡ get_or waits j 0 = omega (arith, cond-false {A = ℕ}) in cc)
      ]

      apart : (i : ℕ) → has_sent new_waits i ≡ false → i ≢ node
      apart i f e = false≢true (cc sent_now)

      new_counts : (i : ℕ) → i < length links → has_sent new_waits i ≡ false →
          get_or new_waits i 0 ≡ sum_below (waiting links new_waits i) (length links)
      new_counts i h f = omega (
        arith,
        m.fewer i (apart i f),
        s.counts i h (cc (other_sent i h (apart i f))),
        sum_below-except (waiting links new_waits i) (waiting links waits i) (length links) node inside
            (λ j l ne. cc (other_sent j l ne)),
        waiting-open links waits i node node_open,
        waiting-sent links new_waits i node sent_now,
      )

      totals_still : (j : ℕ) → leads_to links node j ≡ false → get_or new_totals j 0 ≡ get_or totals j 0
      totals_still j off = omega (arith, cond-false _ (get_or totals node 0) 0 off)

      same_sent : (i j : ℕ) → j < length links → j ≢ node → sent_on links new_waits new_totals i j ≡ sent_on links waits
          totals i j
      same_sent i j l ne = elim (cases_Bool (has_sent waits j)) [
        | inl t ↦
            sent_on-all links new_waits new_totals i j (other_sent j l ne ∙ t) ∙
            ap (λ n. upstream links j i n)
            (totals_still j (false_from_ne_true _ (λ on. false≢true (sym (next_open j l on) ∙ t)))) ∙
            sym (sent_on-all links waits totals i j t)
        | inr f ↦ sent_on-open links new_waits new_totals i j (other_sent j l ne ∙ f) ∙
            sym (sent_on-open links waits totals i j f)
      ]

      new_sums : (i : ℕ) → i < length links → get_or new_totals i 0 ≡ get_or weights i 0 + sum_below
          (sent_on links new_waits new_totals i) (length links)
      new_sums i h = omega (
        arith,
        sum_below-except _ _ _ node inside (same_sent i),
        sent_on-open links waits totals i node node_open,
        sent_on-all links new_waits new_totals i node sent_now,
        ap (λ n. upstream links node i n) (totals_still node (leads_self links node)),
      )

      new_closed : (i j : ℕ) → i < length links → j < length links → leads_to links j i ≡ true →
          has_sent new_waits i ≡ true → has_sent new_waits j ≡ true
      new_closed i j h l on t = elim (cases_eq j node) [
        | inl k ↦ cc sent_now
        | inr k ↦ other_sent j l k ∙ elim (cases_eq i node) [
          | inl b ↦ donors_sent j l (cc)
          | inr b ↦ s.closed i j h l on (cc (other_sent i h b))
        ]
      ]

      -- The invariant holds after the node has sent.
      sending_on : IsSending links weights new_waits new_totals
      sending_on = record {
        streams = s.streams;
        few = s.few;
        fits = s.fits;
        waits_size = cc;
        totals_size = cc;
        counts = new_counts;
        sums = new_sums;
        closed = new_closed;
      }

      falls : unsent new_waits (length links) < unsent waits (length links)
      falls = omega (
        arith,
        sum_below-except (unsent_one new_waits) (unsent_one waits) _ node inside (λ j l ne. cc (other_sent j l ne)),
        cond-false {A = ℕ} _ 0 1 node_open,
        cond-true {A = ℕ} _ 0 1 sent_now,
      )

-- The step of the loop that sends downstream.

abbrev pub next_waits_list : List ℕ → ℕ → ℕ → List ℕ
next_waits_list waits node next = set (set waits node sent_entry) next (get_or (set waits node sent_entry) next 0 - 1)

abbrev pub next_totals_list : List ℕ → ℕ → ℕ → List ℕ
next_totals_list totals node next = set totals next (get_or totals next 0 + get_or totals node 0)

module _ {links weights waits totals : List ℕ} (s : IsSending links weights waits totals) (node : ℕ) {next : ℕ}
    (inside : node < length links) (ready : get_or waits node 0 ≡ 0) (is : next ≡ get_or links node 0) where
  sent : get_or (set waits node sent_entry) node 0 ≡ sent_entry
  sent = get_or-set_same waits node sent_entry 0 (omega arith)

  others : (j : ℕ) → j ≢ node → get_or (set waits node sent_entry) j 0 ≡ get_or waits j 0
  others j ne = get_or-set_other waits node j sent_entry 0 ne

  module _ (on : next ≢ node) where
    pub next_inside : next < length links
    next_inside = omega arith

    pub step_waits : 1 ≤ get_or waits next 0
    step_waits = next_waits s node inside ready next next_inside (leads_from links node (sym is) (λ e. on (cc)))

    fewer : (i : ℕ) → i ≢ node → get_or (next_waits_list waits node next) i 0 + upstream links node i 1 ≡ get_or waits i
        0
    fewer i ne = elim (cases_eq next i) [
      | inl e ↦ omega (
        arith,
        ap (λ n. get_or (next_waits_list waits node next) n 0) e,
        get_or-set_same (set waits node sent_entry) next (get_or (set waits node sent_entry) next 0 - 1) 0
            (omega (arith, length-set waits node sent_entry)),
        others,
        ap (λ n. get_or waits n 0) e,
        step_waits,
        ap (λ b. cond {A = ℕ} b 1 0) (leads_test links node i is on),
        cond-true {A = ℕ} _ 1 0 (eq-eqb next i e),
      )
      | inr other ↦ omega (
        arith,
        get_or-set_other (set waits node sent_entry) next i (get_or (set waits node sent_entry) next 0 - 1) 0
            (λ e. other (cc)),
        others,
        ap (λ b. cond {A = ℕ} b 1 0) (leads_test links node i is on),
        cond-false {A = ℕ} _ 1 0 (ne_eqb next i other),
      )
    ]

    moves : MovesOn links waits totals (next_waits_list waits node next) (next_totals_list totals node next) node
    moves = record {
      waits_size = length-set (set waits node sent_entry) next _ ∙ length-set waits node sent_entry;
      totals_size = length-set totals next _;
      sent = get_or-set_other (set waits node sent_entry) next node _ 0 (λ e. on (cc)) ∙ sent;
      fewer = fewer;
      more = λ i. cc (added_at totals next (get_or totals node 0) i (omega arith), leads_test links node i is on);
    }

    pub step_sending : IsSending links weights (next_waits_list waits node next) (next_totals_list totals node next)
    step_sending = sending_on s node inside ready moves

    pub step_fits : get_or totals next 0 + get_or totals node 0 < 2 ^ 32
    step_fits = omega (
      arith,
      get_or-set_same totals next (get_or totals next 0 + get_or totals node 0) 0 (omega arith),
      so_far_le step_sending next next_inside,
    )

    pub step_falls : unsent (next_waits_list waits node next) (length links) < unsent waits (length links)
    step_falls = falls s node inside ready moves

    pub step_early : (from : ℕ) → ((i : ℕ) → i < from → i ≢ node → get_or waits i 0 ≢ 0) → (i : ℕ) → i < from →
        i ≢ next → get_or (next_waits_list waits node next) i 0 ≢ 0
    step_early from early i h ne = elim (cases_eq i node) [
      | inl e ↦ λ z. omega (arith, ap (λ n. get_or (next_waits_list waits node next) n 0) e, moves.sent)
      | inr other ↦ λ z. early i h other (cc (
        get_or-set_other (set waits node sent_entry) next i _ 0 ne,
        others i other,
      ))
    ]

  module _ (end : next ≡ node) where
    ended : MovesOn links waits totals (set waits node sent_entry) totals node
    ended = record {
      waits_size = length-set waits node sent_entry;
      totals_size = refl;
      sent = sent;
      fewer = λ i ne. omega (arith, others, cond-false {A = ℕ} _ 1 0 (leads_end links i (sym is ∙ end)));
      more = λ i. omega (arith, cond-false _ (get_or totals node 0) 0 (leads_end links i (sym is ∙ end)));
    }

    pub end_sending : IsSending links weights (set waits node sent_entry) totals
    end_sending = sending_on s node inside ready ended

    pub end_early : (from : ℕ) → ((i : ℕ) → i < from → i ≢ node → get_or waits i 0 ≢ 0) → (i : ℕ) → i < from →
        get_or (set waits node sent_entry) i 0 ≢ 0
    end_early from early i h = elim (cases_eq i node) [
      | inl e ↦ λ z. omega (arith, ap (λ n. get_or (set waits node sent_entry) n 0) e, sent)
      | inr other ↦ λ z. early i h other (cc (others i other))
    ]
