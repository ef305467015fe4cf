-- A cell of a tile is an edge cell or has a lower neighbour exactly if one of the spots around its
-- own has no data or is lower. Spots are the places of the tile's window: the tile and a border of
-- one cell around it.
use Rattle.std.proofs.Common.{◌≡◌, ◌≢◌, ℕ, ◌+◌, ◌-◌, ◌<◌, ◌<ℤ◌, inl, inr, get_or, false, Option, None, Some, is_some, ℤ, ◌⊎◌, lit<, sym, ap, refl, ◌∙◌, arith}
use Rattle.std.proofs.lemmas.Bool.{cases_eq, false≢true}
use Rattle.std.specs.Option.{option_and_then}
use Rattle.terrain.specs.Raster.{Terrain}
use Rattle.terrain.specs.Neighbours.{height_at, entry_at, IsDataCell, Touches, height_of}
use Rattle.terrain.specs.Ways.{around_index, before, place_if_both, place_on}
use Rattle.terrain.specs.declared.place.Place.{Place}
use Rattle.terrain.proofs.EightWays.{way_to, on_ways}
use Rattle.terrain.proofs.Heights.{height_is}
use Rattle.terrain.proofs.Options.{cases_option, none_some}
use Rattle.tiles.specs.declared.window.Window.{Window}
use Rattle.tiles.specs.Windows.{IsInner, Shows, spot_index}
use Rattle.tiles.proofs.SpotWays.{value_on_way}
use Rattle.drain.specs.Beginning.{IsEdgeOrHasLower, IsGapOrLower, HasGapOrLower}
use Rattle.drain.proofs.Counted.{height_is as data_height}
use Rattle.drain.proofs.Pointing.{next_on_way, on_way_beside}
use Rattle.drain.proofs.Spreading.{spot_from_inner}
use Rattle.drain.specs.Search.{AreEntriesShown}

-- from a place with a row and a column before it each way leads to a place
no_place : (p : Place) (way : ℕ) → way < 8 → place_on way p ≡ None → (p.row ≡ 0) ⊎ (p.col ≡ 0)
no_place p way below none = elim (cases_eq p.row 0) [
  | inl e ↦ inl e
  | inr row ↦ elim (cases_eq p.col 0) [
    | inl e ↦ inr e
    | inr col ↦
        (let q = on_ways 0 0 1 _ p (p.row - 1) (p.col - 1) (omega arith) (omega arith) (omega arith)
        (omega arith) refl way below in
        absurd (none_some (place_on way p) q.0 none q.1.on))
  ]
]

lower_at : (t : Terrain) (q : Place) (level : ℤ) (o : Option ℤ) → height_at t q ≡ o →
    height_of t q <ℤ level → IsGapOrLower level o
lower_at t q level None e less = tt
lower_at t q level (Some h) e less = rw (height_is t q h e) at less

gap_at : (level : ℤ) (o : Option ℤ) → is_some o ≡ false → IsGapOrLower level o
gap_at level None e = tt
gap_at level (Some h) e = absurd (false≢true (sym e))

module _ (t : Terrain) (w : Window (Option ℤ)) (on : AreEntriesShown t t.cells w.bounds w.values.items) {s : Place}
    (p : Place) (inner : IsInner w.bounds s) (shows : Shows w.bounds s p) where
  abbrev height_of_place : Option Place → Option ℤ
  height_of_place o = option_and_then (entry_at t.cols t.rows t.cells) o

  value_is : (way : ℕ) {o : Option Place} → way < 8 → place_on way p ≡ o →
      get_or w.values.items (get_or (around_index (w.bounds.cols + 2) (spot_index w.bounds s)) way 0) None ≡
      height_of_place o
  value_is way below e = rw e at (value_on_way w.bounds s p inner shows t.cols t.rows t.cells w.values.items
      (around_index (w.bounds.cols + 2) (spot_index w.bounds s)) on refl way below)

  own_is : get_or w.values.items (spot_index w.bounds s) None ≡ height_at t p
  own_is = (on s (spot_from_inner inner)).0 p shows

  pub shown_drains : HasGapOrLower w s → IsEdgeOrHasLower t p
  shown_drains (_, level, here, way, below, found) =
      let high = sym own_is ∙ here in
      elim (cases_option (place_on way p)) [
        | inl none ↦ inr (
          ap is_some high,
          elim (no_place p way below none) [ inl row ↦ inl row | inr col ↦ inr (inl col) ],
        )
        | inr (q, e) ↦ elim (cases_option (height_at t q)) [
          | inl gap ↦ inr (ap is_some high, inr (inr (q, (on_way_beside p q way below e).0, ap is_some gap)))
          | inr (h, there) ↦
              (let lower : h <ℤ level = rw (value_is way below e ∙ there) at found in
              inl (
                q,
                (
                  next_on_way t p q way below e (ap is_some high) (ap is_some there),
                  rw (height_is t q h there, height_is t p level high) lower,
                ),
              ))
        ]
      ]

  pub drains_shown : IsEdgeOrHasLower t p → HasGapOrLower w s
  drains_shown drains = found drains
    where
      level : ℤ
      level = height_of t p

      at : IsDataCell t p → (way : ℕ) (o : Option Place) → way < 8 → place_on way p ≡ o →
          IsGapOrLower level (height_of_place o) → HasGapOrLower w s
      at is way o below e bad = (
        inner,
        level,
        own_is ∙ data_height t p is,
        way,
        below,
        rw (value_is way below e) bad,
      )

      near : IsDataCell t p → (q : Place) → Touches p q → p ≢ q → IsGapOrLower level (height_at t q) →
          HasGapOrLower w s
      near is q touch differ bad = let way = way_to p q touch differ in at is way.0 (Some q) way.1 way.2 bad

      found : IsEdgeOrHasLower t p → HasGapOrLower w s
      found (inl (q, (next, less))) = near next.from_data q next.touches next.different
          (lower_at t q level (height_at t q) refl less)
      found (inr (has, inl row)) =
          at has 6 None (lit< tt) (ap (λ (n : ℕ). place_if_both (before n) (Some p.col)) row) tt
      found (inr (has, inr (inl col))) =
          at has 4 None (lit< tt) (ap (λ (n : ℕ). place_if_both (Some p.row) (before n)) col) tt
      found (inr (has, inr (inr (q, touch, gap)))) =
          near has q touch (λ e. false≢true (sym gap ∙ sym (ap (λ (s : Place). is_some (height_at t s)) e)
          ∙ has)) (gap_at level (height_at t q) gap)
