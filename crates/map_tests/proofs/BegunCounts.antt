-- The initial count of steps is `Some 0` at a cell that drains at once, else `None`. If the counts
-- of all cells are pushed in row order, the list has each cell's initial count
-- (`AreInitialCounts`). A cell has no lower neighbour if a search of all cells finds none.
use Rattle.std.proofs.Common.{◌≡◌, ◌↔◌, ℕ, ◌+◌, ◌*◌, ◌<◌, Bool, true, false, IsTrue, inl, inr, List, [], ◌∷◌, ◌++◌, length, get_or, Option, None, sym, ap, subst, refl, ◌∙◌, arith}
use Rattle.std.proofs.lemmas.Bool.{cases_eq, false≢true}
use Rattle.std.proofs.lemmas.List.{get_or_append_left, get_or_push, length_push}
use Rattle.std.proofs.lemmas.Option.{none-some, same_Some}
use Rattle.std.specs.Bool.{then_some}
use Rattle.terrain.proofs.Places.{index_below, index_injective, entry-inside}
use Rattle.terrain.specs.Raster.{Terrain}
use Rattle.terrain.specs.Neighbours.{IsInside, index_of}
use Rattle.terrain.specs.declared.place.Place.{Place}
use Rattle.drain.specs.Beginning.{IsInitialCount, AreInitialCounts}
use Rattle.drain.specs.Steps.{IsLower, HasLower, DrainsAtOnce}
use Rattle.drainage.proofs.Reach.{data_inside}

-- No cell before index `end` in row order is a lower neighbour of `p`.
abbrev pub HasNoLowerBelow : Terrain → Place → ℕ → Type 0
HasNoLowerBelow t p end = (q : Place) → IsInside t q → index_of t.cols q < end → IsLower t p q → ⊥

pub none_lower_next : (t : Terrain) (p here : Place) (index : ℕ) → IsInside t here →
    index_of t.cols here ≡ index → HasNoLowerBelow t p index → (IsLower t p here → ⊥) →
    HasNoLowerBelow t p (index + 1)
none_lower_next t p here index inside at before not q within below lower =
    elim (cases_eq (index_of t.cols q) index) [
      | inl e ↦ not (subst (λ (x : Place). IsLower t p x)
          (index_injective t.cols q here within.1 inside.1 (e ∙ sym at)) lower)
      | inr ne ↦ before q within (omega arith) lower
    ]

pub none_lower : (t : Terrain) (p : Place) → HasNoLowerBelow t p (t.cols * t.rows) → HasLower t p →
    ⊥
none_lower t p none (q, lower) =
    let within = data_inside t q lower.0.to_data in
    none q within (index_below t.cols t.rows q within.0 within.1) lower

begun_at : (t : Terrain) (p : Place) (drains : Bool) → IsTrue drains ↔ DrainsAtOnce t p →
    IsInitialCount (DrainsAtOnce t) p (then_some drains 0)
begun_at t p true is = record {
  zero = λ _. refl;
  only = λ n e. (is.0 refl, sym (same_Some _ _ e));
}
begun_at t p false is = record {
  zero = λ drains. absurd (false≢true (is.1 drains));
  only = λ n e. absurd (none-some n e);
}

-- `counts` are the initial counts of the cells before index `end` in row order.
pub record AreBegunBelow (t : Terrain) (end : ℕ) (counts : List (Option ℕ)) : Type 0 where
  pub size : length counts ≡ end
  pub each : (p : Place) → IsInside t p → index_of t.cols p < end →
      IsInitialCount (DrainsAtOnce t) p (get_or counts (index_of t.cols p) None)

push_begun : (t : Terrain) (here : Place) (index : ℕ) (counts : List (Option ℕ)) (x : Option ℕ) →
    IsInside t here → index_of t.cols here ≡ index → AreBegunBelow t index counts →
    IsInitialCount (DrainsAtOnce t) here x → AreBegunBelow t (index + 1) (counts ++ x ∷ [])
push_begun t here index counts x within at before begun = record {
  size = length_push counts x ∙ ap (λ n. n + 1) before.size;
  each = λ p inside below. elim (cases_eq (index_of t.cols p) index) [
    | inl e ↦
        subst (λ (o : Option ℕ). IsInitialCount (DrainsAtOnce t) p o) (sym (ap (λ (n : ℕ).
        get_or (counts ++ x ∷ []) n None) e ∙ get_or_push counts x None index before.size))
        (subst (λ (q : Place). IsInitialCount (DrainsAtOnce t) q x)
        (index_injective t.cols here p within.1 inside.1 (at ∙ sym e)) begun)
    | inr ne ↦ (let lower : index_of t.cols p < index = omega arith in
        subst (λ (o : Option ℕ). IsInitialCount (DrainsAtOnce t) p o) (sym
        (get_or_append_left counts (x ∷ []) None (index_of t.cols p) (omega (arith, before.size))))
        (before.each p inside lower))
  ];
}

pub begun_next : (t : Terrain) (here : Place) (index : ℕ) (counts : List (Option ℕ)) (drains :
    Bool) → IsInside t here → index_of t.cols here ≡ index → AreBegunBelow t index counts →
    IsTrue drains ↔ DrainsAtOnce t here →
    AreBegunBelow t (index + 1) (counts ++ then_some drains 0 ∷ [])
begun_next t here index counts drains within at before is =
    push_begun t here index counts (then_some drains 0) within at before (begun_at t here drains is)

pub all_begun : (t : Terrain) (counts : List (Option ℕ)) →
    AreBegunBelow t (t.cols * t.rows) counts → AreInitialCounts t counts
all_begun t counts begun = record {
  size = begun.size;
  each = λ p inside. subst (λ (o : Option ℕ). IsInitialCount (DrainsAtOnce t) p o)
      (sym (entry-inside t.cols t.rows counts p inside.0 inside.1))
      (begun.each p inside (index_below t.cols t.rows p inside.0 inside.1));
}
