-- The total of an exit into another tile is the sum of its weight and all weights upstream along
-- links. It is the number of cells whose flow paths contain the exit. Exit i is the exit with rim
-- number i, its number among the rim cells of all tiles.
use Rattle.std.proofs.Common.{◌≡◌, ◌≢◌, ℕ, suc, ◌+◌, ◌-◌, ◌<◌, ◌≤◌, ◌⊎◌, inl, inr, true, false, ◌&&◌, eqb, List, length, get_or, None, Some, sym, ap, refl, ◌∙◌, arith, unwrap_or}
use Rattle.std.specs.Option.{option_and_then}
use Rattle.std.proofs.lemmas.Option.{none-some, MatchOption-at_some}
use Rattle.std.proofs.lemmas.List.FromFn.{get_or-map-range_with_len, length-map-range_with_len}
use Rattle.std.proofs.lemmas.Bool.{cases_eq, cases_lt, cases_Bool, and_from, and_parts, eqb-true, cond-true, cond-false, false_from_ne_true, false≢true}
use Rattle.terrain.specs.declared.place.Place.{Place}
use Rattle.tiles.specs.Cutting.{Cutting, tile_of_place}
use Rattle.drainage.specs.Following.{Directed, next, follow}
use Rattle.terrain.proofs.Listed.{is_place_from, place_is}
use Rattle.terrain.specs.Neighbours.{is_place}
use Rattle.flow.specs.Counts.{drains_through}
use Rattle.tile_jobs.specs.Sums.{sum_below}
use Rattle.flow.specs.Streams.{next_node, leads_to, upstream_sum, total, total_within}
use Rattle.flow.specs.TileFlow.{Flow, AreTileCounts, stays, reaches_inside, IsExitOf, through_in}
use Rattle.tiles.specs.RimNumbers.{rim_number_count, rim_number, rim_place}
use Rattle.flow.specs.RimGraph.{AreFlowsOf, target_by, rim_links_by}
use Rattle.flow.specs.Inflows.{rim_weight, rim_weights_by, weight_or, through_by}
use Rattle.tile_jobs.proofs.Sums.{sum_below-none, one_term}
use Rattle.flow.proofs.Ranges.{some_in_range, any_in_range, every_in_range}
use Rattle.flow.proofs.Totals.{each_downstream, totals_are, sums_same, leads_parts, leads_from, upstream}
use Rattle.terrain.proofs.Options.{cases_option}
use Rattle.flow.proofs.Coded.{IsCoded, coded_along, outlet_stays, follow_stays, follow_more, follow_first}
use Rattle.flow.proofs.RimFlows.{LeavesTile, NextExit, flow_of, within_of, back, target_on, target_from, exit_here, not_outlet, to_below, next_or_last_exit, untargeted, links_size, link_at, rim_streams}
use Rattle.flow.proofs.Reaching.{IsEnding, ending_of, still_at, still_from, reached_early, drains_at, drains_from, EntersRegion, stays_or_enters, never_enters, enters_from_one}
use Rattle.flow.proofs.DrainedCells.{drained, all_drained, drained_few, drained_inside, all_drained_inside, drained_inside_few, through_is, counted_on, counted_off, counted_none, counts_upstream}

module _ {d : Directed} {t : Cutting} {flows : List Flow} (s : AreFlowsOf d t flows) (counts : AreTileCounts d t flows)
  where
    pub ending : IsEnding d
    ending = ending_of d s.ends s.cutting s.of_tiles.size

    -- If q's flow path leaves a tile at c, c is q's exit e, or the path left q's tile by e earlier.
    leaves_at : (q e : Place) {c : Place} → IsExitOf d t q e → (m : ℕ) → follow d q m ≡ c → LeavesTile s c →
        (c ≡ e) ⊎ ((k : ℕ) × (k < m) × (follow d q k ≡ e) × (tile_of_place t (next d e) ≢ tile_of_place t e))
    leaves_at q e x m way cr = elim (cases_lt m x.0) [
      | inl l ↦ (let at : (j : ℕ) → j < x.0 + 1 → tile_of_place t (follow d q j) ≡ tile_of_place t q =
          λ j h. eqb-true _ _ (every_in_range (λ j. eqb (tile_of_place t (follow d q j)) (tile_of_place t q)) _ x.2 j
          h) in
          absurd (cr.apart (ap (λ p. tile_of_place t (next d p)) (sym way) ∙ at (suc m) (omega arith) ∙
          sym (at m (omega arith)) ∙ ap (tile_of_place t) way)))
      | inr far ↦ elim (cases_eq m x.0) [
        | inl same ↦ inl (cc)
        | inr ne ↦ elim x.4.1 [
          | inl out ↦ inl (sym way ∙ follow_stays d q _ m far (cc (outlet_stays d e out)) ∙ x.3)
          | inr apart ↦ inr (x.0, omega arith, x.3, apart)
        ]
      ]
    ]

    -- The weight of an exit into another tile is how many cells' flow paths, its own included, reach
    -- it without leaving their tile.
    pub weight_targeted : (j : ℕ) (q : Place) → target_by t flows j ≡ Some q →
        rim_weight t flows j ≡ all_drained_inside d t (rim_place t j)
    weight_targeted j q e =
        let x = (target_from s j q e).crosses in
        let w = within_of s x.coded in
        let f = flow_of s _ w in
        let entry = MatchOption-at_some _ _ _ x.coded.is ((counts.each _ _ f.is).each (rim_place t j) (w, refl)) in
        ap (weight_or (through_by t flows (rim_place t j))) e ∙
        ap (λ o. unwrap_or (option_and_then (λ z. through_in z (rim_place t j)) o) 0 + 1) f.is ∙
        ap (λ o. unwrap_or o 0 + 1) entry ∙ sym (through_is ending t x.coded)

    pub weight_untargeted : (j : ℕ) → target_by t flows j ≡ None → rim_weight t flows j ≡ 0
    weight_untargeted j e = cc

    pub weight_few : (j : ℕ) → rim_weight t flows j ≤ 16777216
    weight_few j = elim (cases_option (target_by t flows j)) [
      | inl none ↦ omega (arith, weight_untargeted)
      | inr q ↦ omega (arith, weight_targeted, drained_inside_few ending t (rim_place t j))
    ]

    module _ {links : List ℕ} (made : links ≡ rim_links_by t flows) where
      -- If exit j is linked to another exit i, water that leaves by j leaves the next tile by i.
      leads_out : (i j : ℕ) → j < rim_number_count t → leads_to links j i ≡ true →
          (g : NextExit s j) × (rim_number t g.to ≡ i) × (q : Place) × (target_by t flows j ≡ Some q)
      leads_out i j h y =
          let l = leads_parts links j i y in
          let at = link_at s made j h in
          elim (cases_option (target_by t flows j)) [
            | inl none ↦ absurd (l.1 (sym (at ∙ untargeted s j none) ∙ l.0))
            | inr q ↦ elim (next_or_last_exit s j _ q.1) [
              | inr stop ↦ absurd (l.1 (sym (at ∙ stop.link) ∙ l.0))
              | inl g ↦ (g, sym (at ∙ g.link) ∙ l.0, q.0, q.1)
            ]
          ]

      -- Exit e is linked to the exit of the place that e flows into, if both lead into other tiles.
      link_on : {e : Place} → LeavesTile s e → (is : IsCoded d (next d e)) → LeavesTile s (exit_here s is).0 →
          next_node links (rim_number t e) ≡ rim_number t (exit_here s is).0
      link_on {e} c is to =
          let x = exit_here s is in
          cc (
            link_at s made (rim_number t e) (to_below s c),
            target_on s c,
            cond-false _ None (Some x.0) (not_outlet s to),
          )

      -- A flow path from cell c to exit i stays in the tile of c, or passes exactly one other exit
      -- linked to i.
      module _ (i : ℕ) (q : Place) (target : target_by t flows i ≡ Some q) {c : Place} (is : IsCoded d c) where
        abbrev In : Place → Type 0
        In p = tile_of_place t p ≡ tile_of_place t (rim_place t i)

        abbrev term : ℕ → ℕ
        term j = upstream links j i (drained d (rim_place t j) c)

        term_off : (j : ℕ) → j < rim_number_count t → ((k : ℕ) → follow d c k ≡ rim_place t i →
            (x : EntersRegion ending In c k) → follow d c x.from ≡ rim_place t j → rim_number t (rim_place t j) ≡ j →
            ⊥) → term j ≡ 0
        term_off j h none = elim (cases_Bool (leads_to links j i)) [
          | inr n ↦ cond-false _ _ 0 n
          | inl y ↦ cond-true _ _ 0 y ∙ counted_off d c (false_from_ne_true _ (λ z. let m = drains_from ending c _ z in
              let o = leads_out i j h y in
              let x = target_from s j _ o.3 in
              crosses_over j _ m.1 o.0 (cc (back s o.0.crosses)) x.crosses.apart
              (λ k at comes from. none k at comes from x.number)))
        ]
          where
            crosses_over : (j m : ℕ) → follow d c m ≡ rim_place t j → (g : NextExit s j) → g.to ≡ rim_place t i →
                tile_of_place t (next d (rim_place t j)) ≢ tile_of_place t (rim_place t j) →
                ((k : ℕ) → follow d c k ≡ rim_place t i → (x : EntersRegion ending In c k) →
                follow d c x.from ≡ rim_place t j → ⊥) → ⊥
            crosses_over j m at g same apart none =
                let on : (l : ℕ) → follow d c (m + suc l) ≡ follow d (next d _) l =
                λ l. sym (follow_more d c m _) ∙ ap (λ p. follow d p (suc l)) at ∙ sym (follow_first d _ l) in
                let last = follow_first d _ _ ∙ g.way ∙ same in
                let still : (l : ℕ) → l ≤ g.steps → In _ =
                λ l le. still_at d t _ _ g.still l le ∙ sym (still_at d t _ g.steps g.still g.steps (omega arith)) ∙
                ap (tile_of_place t) last in
                none (m + suc g.steps) (on g.steps ∙ last) (record {
                  from = m;
                  before = omega arith;
                  outside = λ z. apart (still 0 (omega arith) ∙ sym z ∙ ap (tile_of_place t) at);
                  inside = λ l lt le. (let z : m + suc (l - suc m) ≡ l = omega arith in
                      rw z at (ap (tile_of_place t) (on (l - suc m)) ∙ still (l - suc m) (omega arith)));
                }) at

        reached : reaches_inside d t (rim_place t i) c ≡ true → (k : ℕ) × (follow d c k ≡ rim_place t i) ×
            ((l : ℕ) → l ≤ k → In (follow d c l))
        reached y =
            let r = some_in_range (λ k. is_place (rim_place t i) (follow d c k) && stays d t c k) _ y in
            let w = and_parts _ _ r.2 in
            let at = sym (place_is _ _ w.0) in (
              r.0,
              at,
              λ l le. still_at d t c _ w.1 l le ∙ sym (still_at d t c _ w.1 _ (omega arith)) ∙ ap (tile_of_place t) at,
            )

        parts : drained d (rim_place t i) c ≡ drained_inside d t (rim_place t i) c + sum_below term (length links)
        parts = elim (cases_Bool (drains_through d (rim_place t i) c)) [
          | inr n ↦ omega (
            arith,
            counted_off,
            counted_off d c (false_from_ne_true _ (λ y. let r = reached y in
                false≢true (sym n ∙ drains_at ending is _ r.1))),
            sum_below-none term (length links) (λ j l. term_off j (omega (arith, links_size s made))
                (λ k way _ _ _. false≢true (sym n ∙ drains_at ending is k way))),
          )
          | inl y ↦ let m = drains_from ending c _ y in
              elim (stays_or_enters ending In (λ p. cases_eq _ _) c _ (ap (tile_of_place t) m.1)) [
                | inl way ↦
                    let r = reached_early ending is _ m.1 in
                    omega (
                      arith,
                      counted_on,
                      counted_on is (any_in_range (λ k. is_place (rim_place t i) (follow d c k) && stays d t c k) _ _
                          r.1 (and_from _ _ (is_place_from _ _ (sym r.3))
                          (still_from d t c _ (λ l le. way l (omega arith) ∙ sym (way 0 (omega arith)))))),
                      sum_below-none term (length links) (λ j l. term_off j (omega (arith, links_size s made))
                          (λ k at x _ _. never_enters ending In is _ (m.1 ∙ sym at) way x)),
                    )
                | inr x ↦ from_outside y _ m.1 x
              ]
        ]
          where
            -- The exit by which the flow path of c last enters the tile of exit i, before it reaches
            -- i, is linked to i.
            linked : (k : ℕ) → follow d c k ≡ rim_place t i → (x : EntersRegion ending In c k) →
                (cr : LeavesTile s (follow d c x.from)) → next_node links (rim_number t (follow d c x.from)) ≡ i
            linked k at x cr =
                let coded = coded_along s.ends is (suc x.from) in
                let e = exit_here s coded in
                let here = target_from s i q target in
                let on : (l : ℕ) → follow d (next d _) l ≡ follow d c (suc x.from + l) = λ l. follow_more d c _ l in
                let all : suc x.from + (k - suc x.from) ≡ k = omega arith in
                let same : rim_place t i ≡ e.0 =
                elim (leaves_at _ _ e.1.leads _ (on _ ∙ ap (follow d c) all ∙ at) here.crosses) [
                  | inl y ↦ y
                  | inr far ↦ absurd (far.3 (ap (λ p. tile_of_place t (next d p)) (sym far.2) ∙
                      ap (tile_of_place t) (on (suc far.0)) ∙ x.inside (suc x.from + suc far.0) (omega arith)
                      (omega arith) ∙ sym (ap (tile_of_place t) (sym far.2 ∙ on far.0) ∙
                      x.inside (suc x.from + far.0) (omega arith) (omega arith))))
                ] in
                link_on cr coded (rw same at here.crosses) ∙ ap (rim_number t) (sym same) ∙ here.number

            from_outside : drains_through d (rim_place t i) c ≡ true → (k : ℕ) → follow d c k ≡ rim_place t i →
                (x : EntersRegion ending In c k) → drained d (rim_place t i) c ≡ drained_inside d t (rim_place t i) c +
                sum_below term (length links)
            from_outside y k at x =
                let entry = x.inside (suc x.from) (omega arith) (omega arith) in
                let cr : LeavesTile s (follow d c x.from) = record {
                  coded = coded_along s.ends is _;
                  apart = λ z. x.outside (sym z ∙ entry);
                } in
                let place = back s cr in
                let leads =
                leads_from links _ (linked k at x cr)
                (λ z. x.outside (ap (tile_of_place t) (sym place ∙ ap (rim_place t) z))) in
                omega (
                  arith,
                  counted_on,
                  counted_off d c (false_from_ne_true _ (λ z. let r = reached z in
                      never_enters ending In is _ (r.1 ∙ sym at) r.2 x)),
                  one_term term (length links) _ (omega (arith, to_below, links_size s made))
                      (λ j l ne. term_off j (omega (arith, links_size s made))
                      (λ m there z at_j number. ne (sym number ∙ ap (rim_number t) (sym at_j ∙
                      ap (follow d c) (enters_from_one ending In is (there ∙ sym at) z x))))),
                  cond-true _ (drained d (rim_place t (rim_number t (follow d c x.from))) c) 0 leads,
                  counted_on is (drains_at ending is _ (sym place)),
                )

      none_leads : (i j : ℕ) → target_by t flows i ≡ None → j < rim_number_count t → leads_to links j i ≡ false
      none_leads i j none h = false_from_ne_true _ (λ y. let o = leads_out i j h y in
          none-some (next d o.0.to) (cc (target_on s o.0.crosses)))

      -- As many cells drain through exit i as reach it inside its tile or by exits linked to it.
      tallied : (i : ℕ) (q : Place) → target_by t flows i ≡ Some q → all_drained d (rim_place t i) ≡ all_drained_inside
          d t (rim_place t i) + upstream_sum links (λ j. all_drained d (rim_place t j)) i
      tallied i q e = counts_upstream d links i (λ j. drains_through d (rim_place t j)) _ (λ c is. parts i q e is)
          (λ c none. counted_none d c _ none)

      module _ {weights : List ℕ} (weighed : weights ≡ rim_weights_by t flows) where
        pub weights_size : length weights ≡ rim_number_count t
        weights_size = ap length weighed ∙ length-map-range_with_len _ 0 _

        weight_at : (i : ℕ) → i < rim_number_count t → get_or weights i 0 ≡ rim_weight t flows i
        weight_at i h = cc (
          weighed,
          get_or-map-range_with_len (rim_weight t flows) 0 (rim_number_count t) i i 0 h (omega arith),
        )

        numbered : (i : ℕ) → i < length links → i < rim_number_count t
        numbered i h = omega (arith, links_size s made)

        linked : (i : ℕ) → i < rim_number_count t → i < length links
        linked i h = omega (arith, links_size s made)

        pub total_drained : (i : ℕ) (q : Place) → i < rim_number_count t → target_by t flows i ≡ Some q →
            total links weights i ≡ all_drained d (rim_place t i)
        total_drained i q h e =
            each_downstream (rim_streams s made) (λ k i. (q : Place) → target_by t flows i ≡ Some q →
            total_within links weights k i ≡ all_drained d (rim_place t i)) (λ k i l before q e. omega (
              arith,
              weight_at i (numbered i l),
              weight_targeted,
              tallied,
              sums_same links i _ (λ j. all_drained d (rim_place t j)) (λ j m on. let o = leads_out i j (numbered j m)
                  on in before j m on _ o.3),
            )) i (linked i h) q e

        pub total_few : (i : ℕ) → i < rim_number_count t → total links weights i ≤ 16777216
        total_few i h = elim (cases_option (target_by t flows i)) [
          | inr q ↦ omega (arith, total_drained i q.0 h q.1, drained_few ending (rim_place t i))
          | inl none ↦ omega (
            arith,
            (totals_are weights (rim_streams s made)).each i (linked i h),
            weight_at,
            weight_untargeted,
            sum_below-none (λ j. upstream links j i (total links weights j)) (length links)
                (λ j m. cond-false _ (total links weights j) 0 (none_leads i j none (numbered j m))),
          )
        ]
