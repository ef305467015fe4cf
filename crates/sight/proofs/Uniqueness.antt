-- Terrain, observers, target height and radius have at most one viewshed. A map of viewshed values,
-- made tile by tile, is a viewshed.
use Rattle.std.proofs.Common.{arith, sym, ap, ◌∙◌, ◌≡◌, ◌*◌, ◌/◌, ◌%◌, ◌<◌, ℕ, ℤ, List, map, get_or, Option, None, Some, option_map, MatchOption}
use Rattle.std.specs.List.{range_with_len}
use Rattle.std.proofs.lemmas.List.FromFn.{fill_by_all}
use Rattle.std.proofs.lemmas.Nat.{div-add-mod', mod_below, div_below}
use Rattle.terrain.specs.Raster.{Terrain}
use Rattle.terrain.specs.Neighbours.{IsInside, entry_at}
use Rattle.terrain.specs.declared.place.Place.{Place}
use Rattle.terrain.proofs.Places.{entry-inside}
use Rattle.sight.specs.Viewshed.{IsViewshed}
use Rattle.sight.specs.Viewed.{value_at, HasValue}
use Rattle.terrain.specs.declared.observer.Observer.{Observer}
use Rattle.tiles.specs.Cutting.{Cutting, Cuts}
use Rattle.tile_maps.specs.Maps.{IsMadeMap}
use Rattle.tile_maps.proofs.Whole.{map_of_size}

abbrev pub place_of_index : ℕ → ℕ → Place
place_of_index cols k = record { row = k / cols; col = k % cols }

entry_is_value : (h : Option ℤ) (n : ℕ) (entry : Option ℕ) → MatchOption h (entry ≡ None) (λ _. entry ≡ Some n) →
    entry ≡ option_map (λ _. n) h
entry_is_value None n entry e = e
entry_is_value (Some x) n entry e = e

-- the entry at index k is that of the place of index k, which is inside
pub entry_of_index : (t : Terrain) (values : List (Option ℕ)) (k : ℕ) → k < t.cols * t.rows →
    IsInside t (place_of_index t.cols k) ×
    (entry_at t.cols t.rows values (place_of_index t.cols k) ≡ get_or values k None)
entry_of_index t values k below =
    let p = place_of_index t.cols k in
    let some = positive t.cols t.rows k below in
    let row = div_below k _ _ some (omega (arith, below)) in
    let col = mod_below k _ some in
    let at = div-add-mod' k t.cols in
    ((row, col), entry-inside _ _ values p row col ∙ ap (λ n. get_or values n None) at)
  where
    positive : (a b k : ℕ) → k < a * b → 0 < a
    positive a b k h = grind arith

-- the entry at index k is the viewshed value of the place of index k, or None for NODATA
entry_is : (t : Terrain) (observers : List Observer) (target radius : ℕ) (values : List (Option ℕ)) (k : ℕ) →
    IsViewshed t observers target radius values → k < t.cols * t.rows →
    get_or values k None ≡ value_at t observers target radius (place_of_index t.cols k)
entry_is t observers target radius values k is below =
    let at = entry_of_index t values k below in
    sym at.1 ∙ entry_is_value _ _ _ (is.each (place_of_index t.cols k) at.0)

all_are : (t : Terrain) (observers : List Observer) (target radius : ℕ) (values : List (Option ℕ)) →
    IsViewshed t observers target radius values →
    values ≡
    map (λ k. value_at t observers target radius (place_of_index t.cols k)) (range_with_len 0 (t.cols * t.rows))
all_are t observers target radius values is =
    fill_by_all (λ k. value_at t observers target radius (place_of_index t.cols k)) values (t.cols * t.rows) None
    is.size (λ k h. entry_is t observers target radius values k is h)

pub viewsheds_are_one :
    (t : Terrain) (observers : List Observer) (target radius : ℕ) (values others : List (Option ℕ)) →
    IsViewshed t observers target radius values → IsViewshed t observers target radius others → values ≡ others
viewsheds_are_one t observers target radius values others a b =
    all_are t observers target radius values a ∙ sym (all_are t observers target radius others b)

reported : (h : Option ℤ) (n : ℕ) (entry : Option ℕ) → entry ≡ option_map (λ _. n) h →
    MatchOption h (entry ≡ None) (λ _. entry ≡ Some n)
reported None n entry e = e
reported (Some x) n entry e = e

pub whole_viewed :
    (c : Cutting) (t : Terrain) (observers : List Observer) (target radius : ℕ) (values : List (Option ℕ)) → Cuts c t →
    IsMadeMap c (HasValue t observers target radius) values → IsViewshed t observers target radius values
whole_viewed c t observers target radius values cuts made =
    let all = map_of_size c _ _ _ values cuts.0 cuts.1 made in
    record { size = all.0; each = λ p i. reported _ _ _ (all.1 p i) }
