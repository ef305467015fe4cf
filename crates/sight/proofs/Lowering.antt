-- After each observer, a tile's values are the least heights at which one of the observers so far
-- sees a target.
use Rattle.std.proofs.Common.{arith, sym, ap, subst, inl, inr, ◌∙◌, ◌≡◌, ◌+◌, ◌*◌, ◌<◌, ◌≤◌, ℕ, Bool, true, false, ◌||◌, List, length, get_or, take, Option, None, Some, slice_get}
use Rattle.std.proofs.lemmas.Bool.{cases_lt, cond-true, cond-false, lt-ltb, le-ltb, or_from}
use Rattle.std.proofs.lemmas.List.{get_or_past}
use Rattle.std.proofs.lemmas.List.Folds.{list_any_more}
use Rattle.std.proofs.lemmas.Option.{get_or_from_slice_get, slice_get-get_or}
use Rattle.terrain.specs.Raster.{Terrain}
use Rattle.terrain.specs.declared.place.Place.{Place}
use Rattle.terrain.specs.declared.observer.Observer.{Observer}
use Rattle.tiles.specs.declared.bounds.Bounds.{Bounds}
use Rattle.tiles.specs.Cutting.{Cutting, Cuts, IsInBounds, index_in, place_in}
use Rattle.tile_maps.specs.Maps.{IsMadeUpTo, IsMadeMap}
use Rattle.tile_maps.proofs.Whole.{map_of_size}
use Rattle.sightlines.specs.Sight.{is_seen, highest_eye}
use Rattle.sight.specs.Rise.{is_seen_by_any, IsRiseAt, IsRise}
use Rattle.sight.specs.Lowered.{limit_of, IsLeast, IsLowered, AreLow, AreLowered}
use Rattle.tiles.proofs.TileOrder.{index_in-place_in, place_in-index_in}
use Rattle.sight.proofs.Indexed.{place_inside}

pub limit_low : (t : Terrain) (os : List Observer) (radius : ℕ) (p : Place) (value : Option ℕ) →
    IsRiseAt t os radius p value → limit_of value ≤ highest_eye + 1
limit_low t os radius p None is = omega arith
limit_low t os radius p (Some n) is = omega arith

none_below : (t : Terrain) (os : List Observer) (radius : ℕ) (p : Place) (value : Option ℕ) →
    IsRiseAt t os radius p value → (h : ℕ) → h < limit_of value → is_seen_by_any t os p h radius ≡ false
none_below t os radius p None is h below = is h (omega arith)
none_below t os radius p (Some n) is h below = is.2 h below

or_left : (a b c : Bool) → c ≡ (a || b) → a ≡ true → c ≡ true
or_left true b c e is = e
or_left false b c e is = absurd cc

or_right : (a b c : Bool) → c ≡ (a || b) → b ≡ true → c ≡ true
or_right true b c e is = e
or_right false b c e is = e ∙ is

-- if the limit of the old value bounds the new observer's least height, the old value stays
kept : (t : Terrain) (os more : List Observer) (o : Observer) (radius : ℕ) (p : Place) (value : Option ℕ) →
    ((h : ℕ) → is_seen_by_any t more p h radius ≡ (is_seen_by_any t os p h radius || is_seen t o p h radius)) →
    IsRiseAt t os radius p value → ((h : ℕ) → h < limit_of value → is_seen t o p h radius ≡ false) →
    IsRiseAt t more radius p value
kept t os more o radius p None each is hidden = λ h few. each h ∙ or_from _ _ (is h few) (hidden h (omega arith))
kept t os more o radius p (Some n) each is hidden = (
  is.0,
  or_left _ (is_seen t o p n radius) _ (each n) is.1,
  λ h below. each h ∙ or_from _ _ (is.2 h below) (hidden h below),
)

pub value_lowered : (t : Terrain) (os : List Observer) (radius i : ℕ) (d : Observer) (p : Place) (old new : Option ℕ) →
    i < length os → IsRiseAt t (take i os) radius p old → IsLowered t (get_or os i d) radius p old new →
    IsRiseAt t (take (i + 1) os) radius p new
value_lowered t os radius i d p old new less before lowered =
    let o = get_or os i d in
    let least = lowered.0 in
    let is : IsLeast t o radius p (limit_of old) least = lowered.1 in
    let each : (h : ℕ) →
    is_seen_by_any t (take (i + 1) os) p h radius ≡
    (is_seen_by_any t (take i os) p h radius || is_seen t o p h radius) =
    λ h. list_any_more (λ (x : Observer). is_seen t x p h radius) os i d less in
    elim (cases_lt least (limit_of old)) [
      | inl lower ↦
          let same : new ≡ Some least = lowered.2 ∙ cond-true _ (Some least) old (lt-ltb least (limit_of old) lower) in
          let low = limit_low t _ radius p old before in
          subst (IsRiseAt t (take (i + 1) os) radius p) (sym same) (
            omega arith,
            or_right (is_seen_by_any t (take i os) p least radius) _ _ (each least) (is.seen lower),
            λ h below. each h ∙ or_from _ _ (none_below t _ radius p old before h (omega arith)) (is.hidden h below),
          )
      | inr stays ↦
          let same = lowered.2 ∙ cond-false _ (Some least) old (le-ltb least (limit_of old) stays) in
          subst (IsRiseAt t (take (i + 1) os) radius p) (sym same)
          (kept t _ (take (i + 1) os) o radius p old each before (λ h below. is.hidden h (omega arith)))
    ]

pub tile_lowered :
    (t : Terrain) (os : List Observer) (radius i : ℕ) (d : Observer) (b : Bounds) (old new : List (Option ℕ)) →
    i < length os → IsMadeUpTo b (IsRiseAt t (take i os) radius) (b.rows * b.cols) old → length new ≡ length old →
    AreLowered t (get_or os i d) radius b old new →
    IsMadeUpTo b (IsRiseAt t (take (i + 1) os) radius) (b.rows * b.cols) new
tile_lowered t os radius i d b old new less before size each = record {
  size = size ∙ before.size;
  each = λ p inside below entry is.
      let k = index_in b p in
      let room : k < length old = omega (arith, below) in
      let had = before.each p inside below (get_or old k None) (slice_get-get_or old k None room) in
      let lowered =
      subst (λ (q : Place). IsLowered t (get_or os i d) radius q (get_or old k None) (get_or new k None))
      (place_in-index_in b p inside) (each k room) in
      subst (IsRiseAt t (take (i + 1) os) radius p) (get_or_from_slice_get new k entry None is)
      (value_lowered t os radius i d p _ _ less had lowered);
}

-- if observer i sees no target in the tile, the values stay
pub tile_kept :
    (t : Terrain) (os : List Observer) (radius i : ℕ) (d : Observer) (b : Bounds) (values : List (Option ℕ)) →
    i < length os → IsMadeUpTo b (IsRiseAt t (take i os) radius) (b.rows * b.cols) values →
    ((p : Place) (h : ℕ) → IsInBounds b p → is_seen t (get_or os i d) p h radius ≡ false) →
    IsMadeUpTo b (IsRiseAt t (take (i + 1) os) radius) (b.rows * b.cols) values
tile_kept t os radius i d b values less before none = record {
  size = before.size;
  each = λ p inside below entry is.
      kept t _ _ (get_or os i d) radius p entry
      (λ h. list_any_more (λ (x : Observer). is_seen t x p h radius) os i d less)
      (before.each p inside below entry is) (λ h low. none p h inside);
}

pub limits_low : (t : Terrain) (os : List Observer) (radius : ℕ) (b : Bounds) (values : List (Option ℕ)) →
    IsMadeUpTo b (IsRiseAt t os radius) (b.rows * b.cols) values → AreLow values
limits_low t os radius b values made k = elim (cases_lt k (length values)) [
  | inl less ↦
      let below : k < b.rows * b.cols = omega (arith, made.size) in
      limit_low t os radius _ _ (made.each (place_in b k) (place_inside b k below)
      (omega (arith, index_in-place_in b k)) (get_or values k None)
      (ap (slice_get values) (index_in-place_in b k) ∙ slice_get-get_or values k None less))
  | inr past ↦
      let low : limit_of None ≤ highest_eye + 1 = omega arith in
      subst (λ (v : Option ℕ). limit_of v ≤ highest_eye + 1) (sym (get_or_past values k None past)) low
]

-- a map of least heights, made tile by tile, is the rise of the grid
pub whole_rise : (c : Cutting) (t : Terrain) (os : List Observer) (radius : ℕ) (values : List (Option ℕ)) → Cuts c t →
    IsMadeMap c (IsRiseAt t os radius) values → IsRise t os radius values
whole_rise c t os radius values cuts made =
    let all = map_of_size c _ _ _ values cuts.0 cuts.1 made in
    record { size = all.0; each = all.1 }
