-- `AddsPlaced` says that joins have been added with the nodes of their labels. It holds of a single
-- join, added in both directions, or not added if its labels have one node. If it holds of two
-- lists added in turn, it holds of both as one list.
use Rattle.std.proofs.Common.{◌≡◌, ◌≢◌, ℕ, inl, inr, ◌⊎◌, List, [], ◌∷◌, ◌++◌, Some, ◌∙◌, sym, ap, subst}
use Rattle.std.specs.List.{Contains}
use Rattle.std.specs.Option.{option_to_list}
use Rattle.std.proofs.lemmas.Bool.{cases_eq, cond-true, cond-false, eq-eqb, ne_eqb}
use Rattle.std.proofs.lemmas.List.Elements.{Contains-append_left, Contains-append_right, Contains-append_cases}
use Rattle.fill.specs.Gathering.{turned}
use Rattle.fill.specs.Placing.{AddsPlaced, IsPlacedOf, join_at, placed_joins_of}
use Rattle.fill.specs.declared.spill_graph.Join.{Join}
use Rattle.floods.proofs.Heaps.{cons_head, cons_cases}
use Rattle.fill.proofs.Adding.{no_join}

module _ (nodes : List ℕ) (first second : List Join) where
  of_both : {j : Join} → IsPlacedOf nodes (first ++ second) j → IsPlacedOf nodes first j ⊎ IsPlacedOf nodes second j
  of_both from = elim (Contains-append_cases first second _ from.1) [
    | inl early ↦ inl (from.0, early, from.2, from.3)
    | inr late ↦ inr (from.0, late, from.2, from.3)
  ]

  pub placed_then : {old now new : List Join} → AddsPlaced nodes first old now → AddsPlaced nodes second now new →
      AddsPlaced nodes (first ++ second) old new
  placed_then {old} s t = record {
    kept = λ j there. t.kept j (s.kept j there);
    only = λ j there. elim (t.only j there) [
      | inr late ↦ inr (late.0, Contains-append_right first second _ late.1, late.2, late.3)
      | inl was ↦ elim (s.only j was) [
        | inl old ↦ inl old
        | inr early ↦ inr (early.0, Contains-append_left first second _ early.1, early.2, early.3)
      ]
    ];
    every = λ j from. elim (of_both from) [
      | inl early ↦ t.kept j (s.every j early)
      | inr late ↦ t.every j late
    ];
  }

one_held : (j k : Join) → Contains (j ∷ []) k → k ≡ j
one_held j k held = elim (cons_cases j [] k held) [ inl same ↦ same | inr none ↦ absurd (no_join k none) ]

module _ {nodes : List ℕ} {j : Join} {placed : List Join} where
  pub one_placed : (x : Join) → placed_joins_of nodes j ≡ option_to_list (Some x) →
      AddsPlaced nodes (j ∷ []) placed ((placed ++ x ∷ []) ++ turned x ∷ [])
  one_placed x is = elim (cases_eq (join_at nodes j).from (join_at nodes j).to) [
    | inl same ↦
        absurd (no_join x
        (subst (λ (z : List Join). Contains z x) (sym is ∙ cond-true _ _ _ (eq-eqb _ _ same)) (cons_head x [])))
    | inr differ ↦
        let at : x ≡ join_at nodes j =
        one_held (join_at nodes j) x (rw (sym is ∙ cond-false _ _ _ (ne_eqb _ _ differ)) at (cons_head x [])) in
        record {
          kept = λ k there.
              Contains-append_left (placed ++ x ∷ []) (turned x ∷ []) k (Contains-append_left placed (x ∷ []) k there);
          only = λ k there. elim (Contains-append_cases (placed ++ x ∷ []) (turned x ∷ []) k there) [
            | inr turn ↦ inr (j, cons_head j [], differ, inr (one_held (turned x) k turn ∙ ap turned at))
            | inl before ↦ elim (Contains-append_cases placed (x ∷ []) k before) [
              | inl old ↦ inl old
              | inr own ↦ inr (j, cons_head j [], differ, inl (one_held x k own ∙ at))
            ]
          ];
          every = λ k from.
              let same = one_held j from.0 from.1 in
              elim from.3 [
                | inl own ↦
                    let k_is : k ≡ x = own ∙ ap (join_at nodes) same ∙ sym at in
                    Contains-append_left (placed ++ x ∷ []) (turned x ∷ []) k
                    (Contains-append_right placed (x ∷ []) k (subst (Contains (x ∷ [])) (sym k_is) (cons_head x [])))
                | inr turn ↦
                    let k_is : k ≡ turned x =
                    turn ∙ ap (λ (z : Join). turned (join_at nodes z)) same ∙ ap turned (sym at) in
                    Contains-append_right (placed ++ x ∷ []) (turned x ∷ []) k
                    (subst (Contains (turned x ∷ [])) (sym k_is) (cons_head (turned x) []))
              ];
        }
  ]

  pub not_placed : placed_joins_of nodes j ≡ [] → AddsPlaced nodes (j ∷ []) placed placed
  not_placed is = record {
    kept = λ k there. there;
    only = λ k there. inl there;
    every = λ k from.
        let same = one_held j _ from.1 in
        absurd (no_join _ (subst (λ z. Contains z (join_at nodes j))
        (sym (cond-false _ _ _ (ne_eqb _ _ (subst (λ z. (join_at nodes z).from ≢ (join_at nodes z).to) same from.2))) ∙
        is) (cons_head (join_at nodes j) [])));
  }
