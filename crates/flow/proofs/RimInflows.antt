-- The amounts that exits into other tiles send to a place add up to the place's inflow.
use Rattle.std.proofs.Common.{◌≡◌, ◌≢◌, ℕ, ◌+◌, ◌-◌, ◌*◌, ◌<◌, ◌≤◌, ◌⊎◌, inl, inr, true, eqb, List, get_or, Option, None, Some, is_some, sym, ap, refl, ◌∙◌, arith}
use Rattle.std.specs.List.{list_any, range_with_len}
use Rattle.std.proofs.lemmas.Bool.{cases_eq, cases_Bool, and_from, and_left, and_right, eq-eqb, ne_eqb, eqb-true, cond-true, cond-false, false≢true}
use Rattle.terrain.specs.declared.place.Place.{Place}
use Rattle.tiles.specs.Cutting.{Cutting, IsWithin, bounds_of, tile_of_place}
use Rattle.tiles.proofs.Cut.{in_bounds, in_tile, tile_of_place_below}
use Rattle.drainage.specs.Following.{Directed, code_at, next, follow, moves}
use Rattle.terrain.proofs.Listed.{is_place_from, place_is}
use Rattle.terrain.specs.Neighbours.{is_place}
use Rattle.flow.specs.Counts.{drains_through}
use Rattle.tile_jobs.specs.Sums.{sum_below}
use Rattle.flow.specs.Streams.{AreSums}
use Rattle.flow.specs.TileFlow.{Flow, AreTileCounts, inflow_of}
use Rattle.tiles.specs.RimNumbers.{rim_number_count, rim_number, rim_place}
use Rattle.flow.specs.RimGraph.{AreFlowsOf, target_by, targets_by, rim_links_by}
use Rattle.flow.specs.Inflows.{rim_weights_by, sent_to, entering, AreEntering, inflow_by, AreInflows}
use Rattle.tile_jobs.proofs.Sums.{sum_below-same, sum_below-none, exchange, one_term, cond-sum}
use Rattle.terrain.proofs.Options.{cases_option}
use Rattle.flow.proofs.Coded.{IsCoded, coded_along, coded_from_some}
use Rattle.tiles.proofs.RimNumbered.{IsSide, number_below, number_back}
use Rattle.flow.proofs.RimFlows.{LeavesTile, within_of, back, target_on, target_from, to_below, links_size, target_listed}
use Rattle.flow.proofs.Reaching.{drains_at, drains_from, enters_from_one, one_move, enters, enters_from, enters_at}
use Rattle.flow.proofs.DrainedCells.{cell, drained, all_drained, entered, entered_few, inflow_sum, counted_on, counted_off, counted_none}
use Rattle.flow.proofs.Moved.{next_touches}
use Rattle.flow.proofs.RimTotals.{ending, total_drained}

pub sent-none : (t : Cutting) (k : ℕ) (o : Option Place) → sent_to t k o 0 ≡ 0
sent-none t k None = refl
sent-none t k (Some q) = cond-sum _ (λ c. 0) 0

pub sent-sum : (t : Cutting) (k : ℕ) (o : Option Place) (f : ℕ → ℕ) (n : ℕ) → sent_to t k o (sum_below f n) ≡ sum_below
    (λ c. sent_to t k o (f c)) n
sent-sum t k None f n = sym (sum_below-none (λ c. 0) n (λ c h. refl))
sent-sum t k (Some q) f n = cond-sum _ f n

module _ {d : Directed} {t : Cutting} {flows : List Flow} (s : AreFlowsOf d t flows) (counts : AreTileCounts d t flows)
  where
    entry_side : (p : Place) → LeavesTile s p → IsSide (bounds_of t (tile_of_place t (next d p))) (next d p)
    entry_side p c a b e =
        let coded = coded_along s.ends c.coded 1 in
        let w = within_of s coded in
        let i = in_bounds t _ _ s.cutting (w, refl) in
        let below = tile_of_place_below t _ s.cutting w in
        let touch = next_touches p (code_at d p) in
        elim (cases_eq ((next d p).col + 1) ((bounds_of t (tile_of_place t (next d p))).left +
        (bounds_of t (tile_of_place t (next d p))).cols)) [
          | inl y ↦ y
          | inr ne ↦ absurd (c.apart (sym (in_tile t _ p s.cutting below (omega arith)).1))
        ]

    pub entry_back : {p : Place} → LeavesTile s p → rim_place t (rim_number t (next d p)) ≡ next d p
    entry_back {p} c = number_back t s.cutting _ (within_of s (coded_along s.ends c.coded 1)) (entry_side p c)

    -- After `steps` moves, the next move of the flow path of q enters p from another tile.
    record Enters (p q : Place) : Type 0 where
      pub steps : ℕ
      pub crosses : LeavesTile s (follow d q steps)
      pub leads : next d (follow d q steps) ≡ p

    enters_from_exit : (p : Place) {q : Place} → IsCoded d q →
        list_any (enters d t p q) (range_with_len 0 (moves d - 1)) ≡ true → Enters p q
    enters_from_exit p {q} is y =
        let x = enters_from (ending s counts) t p q y in
        record { steps = x.0; leads = x.1; crosses = record { coded = coded_along s.ends is _; apart = λ e. x.2 (cc) } }

    -- A flow path enters p from at most one cell of another tile.
    enters_once : {p q : Place} → IsCoded d q → (a b : ℕ) → LeavesTile s (follow d q a) → next d (follow d q a) ≡ p →
        LeavesTile s (follow d q b) → next d (follow d q b) ≡ p → follow d q a ≡ follow d q b
    enters_once {p} {q} is a b c first x second =
        let e = ending s counts in
        ap (follow d q) (enters_from_one e (λ z. z ≡ p) is (cc) (one_move e q p a first (λ z. c.apart (cc)))
        (one_move e q p b second (λ z. x.apart (cc))))

    -- What the cell of row-order index c adds to the amount that rim number i sends to p's rim
    -- number. It is 1 if the cell of i flows into a place of p's rim number in another tile, and the
    -- flow path of cell c contains the cell of i; else 0.
    abbrev piece : Place → ℕ → ℕ → ℕ
    piece p c i = sent_to t (rim_number t p) (target_by t flows i) (drained d (rim_place t i) (cell d c))

    -- Rim number i has an exit into another tile, whose direction leads to p.
    record LeadsTo (p : Place) (i : ℕ) : Type 0 where
      pub crosses : LeavesTile s (rim_place t i)
      pub number : rim_number t (rim_place t i) ≡ i
      pub leads : next d (rim_place t i) ≡ p

    cases_lead : (p : Place) → rim_place t (rim_number t p) ≡ p → (i : ℕ) →
        ((amount : ℕ) → sent_to t (rim_number t p) (target_by t flows i) amount ≡ 0) ⊎ LeadsTo p i
    cases_lead p on i = elim (cases_option (target_by t flows i)) [
      | inl none ↦ inl (λ amount. cc)
      | inr q ↦ elim (cases_Bool (eqb (rim_number t q.0) (rim_number t p))) [
        | inr f ↦ inl (λ amount. cc (cond-false _ amount 0 f))
        | inl y ↦
            let x = target_from s i q.0 q.1 in
            inr (record { crosses = x.crosses; number = x.number; leads = cc (entry_back x.crosses, eqb-true _ _ y) })
      ]
    ]

    piece_off : (p : Place) → rim_place t (rim_number t p) ≡ p → (c i : ℕ) →
        ((m : ℕ) → follow d (cell d c) m ≡ rim_place t i → LeadsTo p i → ⊥) → piece p c i ≡ 0
    piece_off p on c i none = elim (cases_lead p on i) [
      | inl z ↦ z _
      | inr l ↦ elim (cases_Bool (drains_through d (rim_place t i) (cell d c))) [
        | inr n ↦ cc (counted_off d (cell d c) n, sent-none t (rim_number t p) (target_by t flows i))
        | inl through ↦ let m = drains_from (ending s counts) _ _ through in absurd (none _ m.1 l)
      ]
    ]

    pieces_are : (p : Place) → rim_place t (rim_number t p) ≡ p → (c : ℕ) → sum_below (piece p c) (rim_number_count t) ≡
        entered d t p (cell d c)
    pieces_are p on c = elim (cases_Bool (is_some (code_at d (cell d c)))) [
      | inr f ↦ sum_below-none (piece p c) (rim_number_count t)
          (λ i h. ap (sent_to t (rim_number t p) (target_by t flows i)) (counted_none d (cell d c) _ f) ∙
          sent-none t (rim_number t p) (target_by t flows i)) ∙ sym (cond-false {A = ℕ} _ 1 0 (and_left _ _ f))
      | inl some ↦
          let is = coded_from_some d (cell d c) some in
          elim (cases_Bool (list_any (enters d t p (cell d c)) (range_with_len 0 (moves d - 1)))) [
            | inl y ↦
                let x = enters_from_exit p is y in
                one_term (piece p c) (rim_number_count t) (rim_number t (follow d (cell d c) x.steps))
                (to_below s x.crosses) (λ i h ne. piece_off p on c i (λ m at l.
                let same = enters_once is m x.steps (rw (at) l.crosses) (ap (next d) at ∙ l.leads) x.crosses x.leads in
                ne (sym l.number ∙ ap (rim_number t) (sym at ∙ same)))) ∙
                ap (λ o. sent_to t (rim_number t p) o
                (drained d (rim_place t (rim_number t (follow d (cell d c) x.steps))) (cell d c)))
                (target_on s x.crosses) ∙
                cond-true _ (drained d (rim_place t (rim_number t (follow d (cell d c) x.steps))) (cell d c)) 0
                (eq-eqb _ _ (ap (rim_number t) x.leads)) ∙ ap (λ z. drained d z (cell d c)) (back s x.crosses) ∙
                counted_on is (drains_at (ending s counts) is x.steps refl) ∙
                sym (cond-true {A = ℕ} _ 1 0 (and_from _ _ some y))
            | inr n ↦
                sum_below-none (piece p c) (rim_number_count t)
                (λ i h. piece_off p on c i (λ m at l. false≢true (sym n ∙ enters_at (ending s counts) t p (cell d c) is
                m (ap (next d) at ∙ l.leads) (λ z. l.crosses.apart (ap (tile_of_place t) l.leads ∙ sym z ∙
                ap (tile_of_place t) at))))) ∙ sym (cond-false {A = ℕ} _ 1 0 (and_right _ _ n))
          ]
    ]

    inflow_none : (p : Place) → rim_place t (rim_number t p) ≢ p → inflow_of d t p ≡ 0
    inflow_none p off = inflow_sum d t p ∙ sum_below-none (λ c. entered d t p _) _
        (λ c h. elim (cases_Bool (is_some (code_at d (cell d c)))) [
          | inr f ↦ cond-false {A = ℕ} _ 1 0 (and_left _ _ f)
          | inl some ↦ elim (cases_Bool _) [
            | inr n ↦ cond-false _ 1 0 (and_right _ _ n)
            | inl y ↦
                let x = enters_from_exit p (coded_from_some d _ some) y in
                absurd (off (cc (entry_back x.crosses)))
          ]
        ])

    module _ {links weights totals : List ℕ} {targets : List (Option Place)} (asked : targets ≡ targets_by t flows)
        (made : links ≡ rim_links_by t flows) (weighed : weights ≡ rim_weights_by t flows)
        (summed : AreSums links weights totals) where
      -- The amount that rim number i sends to the rim number of its target is the number of cells
      -- whose flow paths contain the cell of i.
      sends : (k i : ℕ) → i < rim_number_count t → entering t targets totals k i ≡ sent_to t k (target_by t flows i)
          (all_drained d (rim_place t i))
      sends k i h =
          let at = summed.each i (omega (arith, links_size s made)) in
          ap (λ o. sent_to t k o (get_or totals i 0)) (target_listed t flows asked i h) ∙
          elim (cases_option (target_by t flows i)) [
            | inl none ↦ cc
            | inr q ↦ ap (sent_to t k (target_by t flows i)) (at ∙ total_drained s counts made weighed i _ h q.1)
          ]

      -- All amounts sent to a place on the rim add up to its inflow.
      entering_is : {p : Place} → rim_place t (rim_number t p) ≡ p →
          sum_below (entering t targets totals (rim_number t p)) (rim_number_count t) ≡ sum_below
          (λ c. entered d t p (cell d c)) (d.rows * d.cols)
      entering_is {p} on =
          sum_below-same _ (λ i. sum_below (λ c. piece p c i) (d.rows * d.cols)) _ (λ i h. sends _ i h ∙
          sent-sum t _ _ (λ c. drained d (rim_place t i) (cell d c)) _) ∙ exchange (λ i c. piece p c i) _ _ ∙
          sum_below-same (λ c. sum_below (piece p c) (rim_number_count t)) (λ c. entered d t p _) _
          (λ c h. pieces_are p on c)

      pub entering_few : (k : ℕ) → sum_below (entering t targets totals k) (rim_number_count t) ≤ 16777216
      entering_few k = elim (cases_eq (rim_number t (rim_place t k)) k) [
        | inl e ↦
            let same = ap (λ n. sum_below (entering t targets totals n) (rim_number_count t)) (sym e) in
            omega (arith, entering_is (ap (rim_place t) e), entered_few (ending s counts) t (rim_place t k))
        | inr ne ↦ omega (
          arith,
          sum_below-none _ _ (λ i h. ap (λ o. sent_to t k o (get_or totals i 0)) (target_listed t flows asked i h) ∙
              elim (cases_option (target_by t flows i)) [
                | inl none ↦ ap (λ (o : Option Place). sent_to t k o (get_or totals i 0)) none
                | inr q ↦
                    let x = target_from s i _ q.1 in
                    let back_at = ap (λ z. rim_place t (rim_number t z)) x.is ∙ entry_back x.crosses ∙ sym x.is in
                    ap (λ o. sent_to t k o (get_or totals i 0)) q.1 ∙
                    cond-false _ _ 0 (ne_eqb _ _ (λ e. ne (ap (λ n. rim_number t (rim_place t n)) (sym e) ∙
                    ap (rim_number t) back_at ∙ e)))
              ]),
        )
      ]

      module _ {listed : List ℕ} (are : AreEntering t targets totals listed) where
        pub inflow_at : (p : Place) → IsWithin t p → inflow_by t listed p ≡ inflow_of d t p
        inflow_at p w = elim (cases_Bool (is_place (rim_place t (rim_number t p)) p)) [
          | inr f ↦ cond-false _ _ 0 f ∙ sym (inflow_none p (λ e. false≢true (sym f ∙ is_place_from _ _ e)))
          | inl y ↦ cond-true _ _ 0 y ∙ are.each _ (number_below t s.cutting p w) ∙ entering_is (place_is _ _ y) ∙
              sym (inflow_sum d t p)
        ]

        pub inflows_are : AreInflows d t (record { cutting = t; listed = listed })
        inflows_are = record { cutting = refl; size = are.size; each = inflow_at }
