-- If all flow paths end, a data cell's path repeats no cell, and has fewer moves than the map of
-- directions has cells. A path that reaches a cell of a region was never outside the region, or has
-- one last move by which it entered the region (`EntersRegion`).
use Rattle.std.proofs.Common.{◌≡◌, ◌≢◌, ℕ, zero, suc, ◌+◌, ◌-◌, ◌*◌, ◌<◌, ◌≤◌, ◌⊎◌, Bool, true, ◌&&◌, not, eqb, inl, inr, sym, ap, ◌∙◌, arith}
use Rattle.std.specs.List.{list_any, range_with_len}
use Rattle.std.proofs.lemmas.Bool.{cases_eq, cases_lt, cases_order, and_from, and_parts, eq-eqb, ne_eqb, eqb-true, not-true, not_from_false, false≢true}
use Rattle.terrain.specs.Neighbours.{index_of, is_place}
use Rattle.terrain.specs.declared.place.Place.{Place}
use Rattle.terrain.proofs.Places.{index_below, index_injective}
use Rattle.tiles.specs.Cutting.{Cutting, IsCutting, IsInBounds, tile_of_place, place_in, index_in}
use Rattle.tiles.proofs.TileOrder.{place_in-index_in, index_in_below}
use Rattle.drainage.specs.Following.{Directed, next, follow, moves, last_of}
use Rattle.drainage.specs.Drained.{AllFlowEnds}
use Rattle.terrain.proofs.Listed.{place_is, is_place_from}
use Rattle.flow.specs.Counts.{drains_through}
use Rattle.flow.specs.TileFlow.{stays}
use Rattle.flow.proofs.Ranges.{some_in_range, any_in_range, every_in_range, all_in_range, grid_of}
use Rattle.flow.proofs.Ending.{early_stop}
use Rattle.flow.proofs.Coded.{IsCoded, coded_along, coded_inside, outlet_stays, follow_stays, follow_more, StopsAt, cycle_stops}

pub still_at : (d : Directed) (t : Cutting) (q : Place) (k : ℕ) → stays d t q k ≡ true → (l : ℕ) → l ≤ k →
    tile_of_place t (follow d q l) ≡ tile_of_place t q
still_at d t q k still l le = eqb-true _ _
    (every_in_range (λ j. eqb (tile_of_place t (follow d q j)) (tile_of_place t q)) _ still l (omega arith))

pub still_from : (d : Directed) (t : Cutting) (q : Place) (k : ℕ) →
    ((l : ℕ) → l ≤ k → tile_of_place t (follow d q l) ≡ tile_of_place t q) → stays d t q k ≡ true
still_from d t q k same = all_in_range (λ j. eqb (tile_of_place t (follow d q j)) (tile_of_place t q)) _
    (λ l lt. eq-eqb _ _ (same l (omega arith)))

-- A map of directions within the limits, whose flow paths all end.
pub record IsEnding (d : Directed) : Type 0 where
  pub ends : AllFlowEnds d
  pub some_col : 1 ≤ d.cols
  pub some_row : 1 ≤ d.rows
  pub few_cols : d.cols ≤ 4096
  pub few_rows : d.rows ≤ 4096

pub ending_of : (d : Directed) {t : Cutting} → AllFlowEnds d → IsCutting t → (d.cols ≡ t.cols) × (d.rows ≡ t.rows) →
    IsEnding d
ending_of d ends h size = record {
  ends = ends;
  some_col = omega arith;
  some_row = omega arith;
  few_cols = omega arith;
  few_rows = omega arith;
}

module _ {d : Directed} (s : IsEnding d) where
  pub again_stops : (c : Place) → IsCoded d c → (a b : ℕ) → a < b → follow d c a ≡ follow d c b → StopsAt d c a
  again_stops c is a b lt same =
      let coded = coded_along s.ends is a in
      let far : a + suc (b - a - 1) ≡ b = omega arith in
      cycle_stops d (moves d) (b - a - 1) (follow_more d c a (suc (b - a - 1)) ∙ ap (follow d c) far ∙ sym same)
      (outlet_stays d (last_of d (follow d c a)) (s.ends (follow d c a) coded.code coded.is))

  pub in_grid : {p : Place} → IsCoded d p → IsInBounds (grid_of d) p
  in_grid is = let i = coded_inside is in
      omega arith

  pub cell_below : (p : Place) → IsCoded d p → index_in (grid_of d) p < d.rows * d.cols
  cell_below p is = index_in_below _ p (in_grid is)

  pub cell_back : {p : Place} → IsCoded d p → place_in (grid_of d) (index_in (grid_of d) p) ≡ p
  cell_back {p} is = place_in-index_in _ p (in_grid is)

  path_stop : (c : Place) → IsCoded d c → (k : ℕ) × (k < moves d) × StopsAt d c k
  path_stop c is =
      let inside : (k : ℕ) → ((follow d c k).row < d.rows) × ((follow d c k).col < d.cols) =
      λ k. coded_inside (coded_along s.ends is k) in
      let same : (a b : ℕ) → index_of d.cols (follow d c a) ≡ index_of d.cols (follow d c b) →
      follow d c a ≡ follow d c b = λ a b. index_injective d.cols (follow d c a) (follow d c b) (inside a).1
      (inside b).1 in
      let r = early_stop (λ k. index_of d.cols (follow d c k)) (λ a b e. ap (λ p. index_of d.cols (next d p))
      (same a b e)) (moves d) (λ k. index_below d.cols d.rows (follow d c k) (inside k).0 (inside k).1) (moves d)
      (ap (index_of d.cols) (outlet_stays d (last_of d c) (s.ends c is.code is.is))) in
      (r.0, r.1, same (suc r.0) r.0 r.2)

  pub reached_early : {c p : Place} → IsCoded d c → (k : ℕ) → follow d c k ≡ p → (m : ℕ) × (m < moves d) × (m ≤ k) ×
      (follow d c m ≡ p)
  reached_early {c} is k way = elim (cases_lt k (moves d)) [
    | inl l ↦ (k, l, omega arith, way)
    | inr far ↦ let r = path_stop c is in (r.0, r.1, omega arith, cc (follow_stays d c r.0 k (omega arith) r.2))
  ]

  early_move : (c : Place) → IsCoded d c → (k : ℕ) → next d (follow d c k) ≢ follow d c k → k < moves d - 1
  early_move c is k goes =
      let r = path_stop c is in
      elim (cases_lt k r.0) [
        | inl l ↦ omega arith
        | inr far ↦ absurd (goes (follow_stays d c r.0 (suc k) (omega arith) r.2 ∙
            sym (follow_stays d c r.0 k far r.2)))
      ]

  pub drains_at : {c p : Place} → IsCoded d c → (k : ℕ) → follow d c k ≡ p → drains_through d p c ≡ true
  drains_at {c} {p} is k way =
      let m = reached_early is k way in
      any_in_range (λ k. is_place p (follow d c k)) _ _ m.1 (is_place_from p _ (cc))

  pub drains_from : (c p : Place) → drains_through d p c ≡ true → (k : ℕ) × (follow d c k ≡ p)
  drains_from c p y = let r = some_in_range (λ k. is_place p (follow d c k)) _ y in
      (r.0, sym (place_is p (follow d c r.0) r.2))

  -- The first k moves from q end in region `In`. The path was outside after `from` moves, and
  -- inside after each later one of these moves.
  pub record EntersRegion (In : Place → Type 0) (q : Place) (k : ℕ) : Type 0 where
    pub from : ℕ
    pub before : from < k
    pub outside : In (follow d q from) → ⊥
    pub inside : (l : ℕ) → from < l → l ≤ k → In (follow d q l)

  module _ (In : Place → Type 0) where
    pub stays_or_enters : ((p : Place) → In p ⊎ (In p → ⊥)) → (q : Place) (k : ℕ) → In (follow d q k) →
        ((l : ℕ) → l ≤ k → In (follow d q l)) ⊎ EntersRegion In q k
    stays_or_enters cases q zero here = inl (λ l le. (let z : 0 ≡ l = omega arith in rw (← z) here))
    stays_or_enters cases q (suc k) here = elim (cases _) [
      | inr out ↦ inr (record {
        from = k;
        before = omega arith;
        outside = out;
        inside = λ l lt le. (let z : suc k ≡ l = omega arith in rw (← z) here);
      })
      | inl y ↦ elim (stays_or_enters cases q k y) [
        | inl way ↦ inl (λ l le. last l le (λ less. way l less))
        | inr c ↦ inr (record {
          from = c.from;
          before = omega arith;
          outside = c.outside;
          inside = λ l lt le. last l le (λ less. c.inside l lt less);
        })
      ]
    ]
      where
        last : (l : ℕ) → l ≤ suc k → (l ≤ k → In (follow d q l)) → In (follow d q l)
        last l le way = elim (cases_eq l (suc k)) [
          | inl e ↦ rw e here
          | inr ne ↦ way (omega arith)
        ]

    module _ {q : Place} (is : IsCoded d q) where
      -- A path that has left the region returns to no place of the region where it was before.
      no_return : (f k a m : ℕ) → ((l : ℕ) → f ≤ l → l ≤ k → In (follow d q l)) → f ≤ k → f ≤ a →
          (In (follow d q a) → ⊥) → a < m → follow d q k ≡ follow d q m → ⊥
      no_return f k a m way some from out lt same = elim (cases_lt k a) [
        | inr near ↦ out (way a from near)
        | inl far ↦ out (rw (follow_stays d q k a (omega arith) (again_stops q is k m (omega arith) same))
            (way k some (omega arith)))
      ]

      pub never_enters : (k : ℕ) {m : ℕ} → follow d q k ≡ follow d q m → ((l : ℕ) → l ≤ k → In (follow d q l)) →
          EntersRegion In q m → ⊥
      never_enters k {m} same way c = no_return 0 k _ m (λ l _ le. way l le) (omega arith) (omega arith) c.outside
          c.before same

      pub enters_from_one : {k m : ℕ} → follow d q k ≡ follow d q m →
          (a : EntersRegion In q k) (b : EntersRegion In q m) → a.from ≡ b.from
      enters_from_one {k} {m} same a b = elim (cases_order a.from b.from) [
        | inl e ↦ e
        | inr r ↦ elim r [
          | inl l ↦ absurd (no_return _ k _ m a.inside (omega arith) l b.outside b.before same)
          | inr l ↦ absurd (no_return _ m _ k b.inside (omega arith) l a.outside a.before (cc))
        ]
      ]

  -- A path whose last move reaches p from another place enters the region that has only p.
  abbrev pub one_move : (q p : Place) (a : ℕ) → follow d q (suc a) ≡ p → follow d q a ≢ p →
      EntersRegion (λ z. z ≡ p) q (suc a)
  one_move q p a leads apart = record {
    from = a;
    before = omega arith;
    outside = apart;
    inside = λ l lt le. (let z : l ≡ suc a = omega arith in ap (follow d q) z ∙ leads);
  }

-- Counted from 0, move k of the flow path of q enters p from another tile.
abbrev pub enters : Directed → Cutting → Place → Place → ℕ → Bool
enters d t p q k = is_place p (follow d q (k + 1)) && not (eqb (tile_of_place t (follow d q k)) (tile_of_place t p))

module _ {d : Directed} (s : IsEnding d) (t : Cutting) (p q : Place) where
  one_on : (k : ℕ) → follow d q (k + 1) ≡ follow d q (suc k)
  one_on k = let e : k + 1 ≡ suc k = omega arith in cc

  pub enters_from : list_any (enters d t p q) (range_with_len 0 (moves d - 1)) ≡ true →
      (k : ℕ) × (follow d q (suc k) ≡ p) × (tile_of_place t (follow d q k) ≢ tile_of_place t p)
  enters_from y =
      let r = some_in_range (enters d t p q) (moves d - 1) y in
      let w = and_parts _ _ r.2 in (
        r.0,
        sym (one_on r.0) ∙ sym (place_is p (follow d q (r.0 + 1)) w.0),
        λ e. false≢true (sym (not-true _ w.1) ∙ eq-eqb _ _ e),
      )

  pub enters_at : IsCoded d q → (k : ℕ) → follow d q (suc k) ≡ p → tile_of_place t (follow d q k) ≢ tile_of_place t p →
      list_any (enters d t p q) (range_with_len 0 (moves d - 1)) ≡ true
  enters_at is k leads apart =
      any_in_range _ _ k (early_move s q is k (λ e. apart (ap (tile_of_place t) (sym e ∙ leads))))
      (and_from _ _ (is_place_from p _ (cc (one_on k))) (not_from_false _ (ne_eqb _ _ apart)))
