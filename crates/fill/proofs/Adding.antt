-- `Adds` says that the joins of some pairs of cells have been added. If it holds of a cell and its
-- neighbours E, SE, S and SW, it holds of the cell and all cells after it.
use Rattle.std.proofs.Common.{◌≡◌, ◌≢◌, ◌↔◌, ℕ, zero, suc, ◌+◌, ◌<◌, ◌⊎◌, inl, inr, List, [], ◌∷◌, ◌++◌, Option, None, Some, ◌∙◌, sym, ap, subst, refl, arith}
use Rattle.std.specs.Int.{int_max}
use Rattle.std.specs.List.{Contains}
use Rattle.std.proofs.lemmas.Bool.{cases_eq, cases_order, cond-true, cond-false, eq-eqb, ne_eqb}
use Rattle.std.proofs.lemmas.Option.{same_Some}
use Rattle.std.proofs.lemmas.List.{get_or_default}
use Rattle.std.proofs.lemmas.List.Elements.{Contains-append_left, Contains-append_right, Contains-append_cases}
use Rattle.terrain.specs.Neighbours.{Touches}
use Rattle.terrain.specs.Ways.{before, place_if_both, place_on, ways_from}
use Rattle.terrain.specs.declared.place.Place.{Place}
use Rattle.terrain.proofs.EightWays.{Touches-from_ways}
use Rattle.terrain.proofs.Places.{same_place}
use Rattle.tiles.specs.Cutting.{Cutting}
use Rattle.cell_floods.specs.TileFlood.{Flood}
use Rattle.fill.specs.Gathering.{Adds, AddsMeetings, CellLabelling, IsLater, IsPairOn, Meets, cell_label_among, joins_of}
use Rattle.fill.specs.declared.spill_graph.Join.{Join}
use Rattle.fill.specs.declared.cell_labels.CellLabel.{CellLabel}
use Rattle.floods.proofs.Heaps.{cons_head, cons_cases}

abbrev join_between : CellLabel → CellLabel → Join
join_between from to = record { from = from.node; to = to.node; height = int_max from.level to.level }

joins_of_apart : (from to : CellLabel) → from.node ≢ to.node → joins_of from (Some to) ≡ join_between from to ∷ []
joins_of_apart from to differ = cond-false _ _ _ (ne_eqb _ _ (λ e. absurd (differ e)))

pub no_join : (j : Join) → Contains [] j → ⊥
no_join j h = omega arith

joins_of_is : (from : CellLabel) (o : Option CellLabel) (j : Join) → Contains (joins_of from o) j →
    (to : CellLabel) × (o ≡ Some to) × (from.node ≢ to.node) × (join_between from to ≡ j)
joins_of_is from None j h = absurd (no_join j h)
joins_of_is from (Some to) j h = elim (cases_eq from.node to.node) [
  | inl same ↦ absurd (no_join j (rw (cond-true _ _ _ (eq-eqb _ _ same)) at h))
  | inr differ ↦ elim (cons_cases _ [] j (subst (λ z. Contains z j) (joins_of_apart from to differ) h)) [
    | inl same ↦ (to, refl, differ, sym same)
    | inr none ↦ absurd (no_join j none)
  ]
]

pub west_of : {row : ℕ} (n : ℕ) (q : Place) → row ≡ q.row → q.col + 1 ≡ n → place_if_both (Some row) (before n) ≡ Some q
west_of zero q at next = absurd (omega arith)
west_of {row} (suc n) q at next = ap Some (same_place _ q at (omega arith))

-- A place that touches a cell and comes after it lies E, SE, S or SW of it.
after_way : (p q : Place) → Touches p q → IsLater p q → ((place_on 0 p ≡ Some q) ⊎ (place_on 1 p ≡ Some q)) ⊎
    ((place_on 2 p ≡ Some q) ⊎ (place_on 3 p ≡ Some q))
after_way p q t (inr beside) = inl (inl (ap Some (same_place _ q beside.0 (omega (arith, t.col_right, beside.1)))))
after_way p q t (inl down) =
    let row : p.row + 1 ≡ q.row = omega arith in
    elim (cases_order _ _) [
      | inl same ↦ inr (inl (ap Some (same_place _ q row same)))
      | inr other ↦ elim other [
        | inl east ↦ inl (inr (ap Some (same_place _ q row (omega (arith, t.col_right, east)))))
        | inr back ↦ inr (inr (west_of _ q row (omega arith)))
      ]
    ]

module _ {cell_labels : CellLabelling} {old new : List Join} where
  -- If the join of cell p with cell q, if any, has been appended, `Adds` holds of that pair.
  pub adds_on_way : (p : Place) {q : Place} (way : ℕ) {from : CellLabel} (o : Option CellLabel) →
      cell_labels p ≡ Some from → cell_labels q ≡ o → way < 8 → place_on way p ≡ Some q → new ≡ old ++ joins_of from o →
      Adds cell_labels (IsPairOn way p) old new
  adds_on_way p {q} way {from} o here there few on is = subst (Adds cell_labels (IsPairOn way p) old) (sym is) (record {
    kept = λ j h. Contains-append_left old (joins_of from o) j h;
    only = λ j h. elim (Contains-append_cases old (joins_of from o) j h) [
      | inl was ↦ inl was
      | inr made ↦
          let m = joins_of_is from o j made in
          inr (
            p,
            q,
            (refl, on),
            subst (Meets cell_labels p q) m.3 (record {
              touches =
                  (Touches-from_ways p q (
                    way,
                    few,
                    sym (get_or_default (ways_from p) way None (Some q) few) ∙
                        on,
                  )).0;
              from_level = from.level;
              to_level = m.0.level;
              from_is = here;
              to_is = cc;
              different = m.2;
              greater = refl;
            }),
          )
    ];
    every = λ x r j at after met.
        let m = subst (λ z. Meets cell_labels z r j) at.0 met in
        let to : CellLabel = record { level = m.to_level; node = j.to } in
        let own : CellLabel = record { level = m.from_level; node = j.from } in
        let to_is : o ≡ Some to = cc in
        let from_is = same_Some from own (cc) in
        Contains-append_right old _ j
        (subst (λ z. Contains z j)
        (sym (ap (λ z. joins_of z o) from_is ∙ ap (joins_of own) to_is ∙ joins_of_apart own to m.different
        ∙ ap (λ h. record { from = j.from; to = j.to; height = h } ∷ []) m.greater)) (cons_head j []));
  })

  pub adds_none : (pairs : Place → Place → Type 0) → new ≡ old →
      ((p q : Place) (j : Join) → pairs p q → Meets cell_labels p q j → ⊥) → Adds cell_labels pairs old new
  adds_none pairs same none = subst (Adds cell_labels pairs old) (sym same) (record {
    kept = λ j h. h;
    only = λ j h. inl h;
    every = λ p q j at after m. absurd (none p q j at m);
  })

  module _ {first both : Place → Place → Type 0} where
    -- Adding the joins of some pairs and then of others adds those of all.
    pub adds_then : {later : Place → Place → Type 0} {now : List Join} →
        ((p q : Place) → both p q ↔ (first p q ⊎ later p q)) → Adds cell_labels first old now →
        Adds cell_labels later now new → Adds cell_labels both old new
    adds_then split a b = record {
      kept = λ j h. b.kept j (a.kept j h);
      only = λ j h. elim (b.only j h) [
        | inr late ↦ inr (late.0, late.1, (split late.0 late.1).1 (inr late.2), late.3)
        | inl was ↦ elim (a.only j was) [
          | inl old ↦ inl old
          | inr early ↦ inr (early.0, early.1, (split early.0 early.1).1 (inl early.2), early.3)
        ]
      ];
      every = λ p q j at after m. elim ((split p q).0 at) [
        | inl early ↦ b.kept j (a.every p q j early after m)
        | inr late ↦ b.every p q j late after m
      ];
    }

    -- `Adds` of `first` gives `Adds` of `both`, if `both` has all pairs of `first` and each other pair
    -- of `both` does not touch or is not in row order.
    pub adds_as : ((p q : Place) → first p q → both p q) →
        ((p q : Place) (j : Join) → Meets cell_labels p q j → IsLater p q → both p q → first p q) →
        Adds cell_labels first old new → Adds cell_labels both old new
    adds_as wider narrower a = record {
      kept = a.kept;
      only = λ j h. elim (a.only j h) [
        | inl was ↦ inl was
        | inr made ↦ inr (made.0, made.1, wider made.0 made.1 made.2, made.3)
      ];
      every = λ p q j at after m. a.every p q j (narrower p q j m after at) after m;
    }

-- If a cell's joins to the E, SE, S and SW are added, so are all its joins with later cells.
pub adds_four : {cell_labels : CellLabelling} (p : Place) (old first second third new : List Join) →
    Adds cell_labels (IsPairOn 0 p) old first → Adds cell_labels (IsPairOn 1 p) first second →
    Adds cell_labels (IsPairOn 2 p) second third → Adds cell_labels (IsPairOn 3 p) third new →
    Adds cell_labels (λ q r. q ≡ p) old new
adds_four {cell_labels} p old first second third new east south_east south south_west = adds_as (λ q r at. elim at [
  | inl early ↦ elim early [ inl here ↦ here.0 | inr here ↦ here.0 ]
  | inr late ↦ elim late [ inl here ↦ here.0 | inr here ↦ here.0 ]
]) (λ q r j m after at.
    elim (after_way p r (subst (λ z. Touches z r) at m.touches) (subst (λ z. IsLater z r) at after)) [
      | inl early ↦ elim early [ inl here ↦ inl (inl (at, here)) | inr here ↦ inl (inr (at, here)) ]
      | inr late ↦ elim late [ inl here ↦ inr (inl (at, here)) | inr here ↦ inr (inr (at, here)) ]
    ]) (then (Any (on 0) (on 1)) (Any (on 2) (on 3)) old second new
    (then (on 0) (on 1) old first second east south_east)
    (then (on 2) (on 3) second third new south south_west))
  where
    on : ℕ → Place → Place → Type 0
    on way = IsPairOn way p

    Any : (Place → Place → Type 0) → (Place → Place → Type 0) → Place → Place → Type 0
    Any early late q r = early q r ⊎ late q r

    then : (early late : Place → Place → Type 0) (before now after : List Join) → Adds cell_labels early before now →
        Adds cell_labels late now after → Adds cell_labels (Any early late) before after
    then early late before now after a b = adds_then (λ q r. (λ at. at, λ at. at)) a b

module _ (c : Cutting) (floods : List Flood) (old now new : List Join) (before : AddsMeetings c floods old now) where
  -- Adding joins of cells adds meetings.
  pub meetings_added : {pairs : Place → Place → Type 0} → Adds (cell_label_among c floods) pairs now new →
      AddsMeetings c floods old new
  meetings_added adds j there = elim (adds.only j there) [
    | inl was ↦ before j was
    | inr made ↦ inr (made.0, made.1, made.3)
  ]

  pub meetings_then : AddsMeetings c floods now new → AddsMeetings c floods old new
  meetings_then b j there = elim (b j there) [
    | inl was ↦ before j was
    | inr made ↦ inr made
  ]
