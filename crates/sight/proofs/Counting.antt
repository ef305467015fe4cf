-- After each observer, a tile's values count the observers so far that see each data cell.
use Rattle.std.proofs.Common.{arith, refl, sym, ap, ◌∙◌, ◌≡◌, ◌+◌, ◌*◌, ◌<◌, ℕ, ℤ, Bool, true, false, List, length, get_or, take, Option, None, Some, option_map, slice_get, inl, inr}
use Rattle.std.proofs.lemmas.Bool.{cases_lt}
use Rattle.std.proofs.lemmas.List.{get_or_past, length-take}
use Rattle.std.proofs.lemmas.List.Sums.{count_by_more_yes, count_by_more_no, count_by-le-length}
use Rattle.std.proofs.lemmas.Option.{get_or_from_slice_get, slice_get-get_or}
use Rattle.terrain.specs.Raster.{Terrain}
use Rattle.terrain.specs.Neighbours.{height_at}
use Rattle.terrain.specs.declared.place.Place.{Place}
use Rattle.tiles.specs.declared.bounds.Bounds.{Bounds}
use Rattle.tiles.specs.Cutting.{IsInBounds, index_in, place_in}
use Rattle.tile_maps.specs.Maps.{IsMadeUpTo}
use Rattle.sightlines.specs.Sight.{is_seen}
use Rattle.sight.specs.Viewshed.{viewshed_value}
use Rattle.sight.specs.Viewed.{value_at, HasValue, counted, AreAtMost}
use Rattle.sight.specs.Flags.{AreFlags, FlagsSeen}
use Rattle.tiles.proofs.TileOrder.{index_in-place_in}
use Rattle.sight.proofs.Indexed.{place_inside}
use Rattle.terrain.specs.declared.observer.Observer.{Observer}

counted_yes : (h : Option ℤ) (n m : ℕ) → m ≡ n + 1 → counted (option_map (λ _. n) h) true ≡ option_map (λ _. m) h
counted_yes None n m e = refl
counted_yes (Some x) n m e = ap Some (sym e)

value_counted : (t : Terrain) (os : List Observer) (target radius i : ℕ) (d : Observer) (p : Place) (sees : Bool) →
    i < length os → is_seen t (get_or os i d) p target radius ≡ sees →
    counted (value_at t (take i os) target radius p) sees ≡ value_at t (take (i + 1) os) target radius p
value_counted t os target radius i d p true less e =
    counted_yes (height_at t p) (viewshed_value t (take i os) target radius p) _
    (count_by_more_yes (λ (o : Observer). is_seen t o p target radius) os i d less e)
value_counted t os target radius i d p false less e =
    ap (λ n. option_map (λ _. n) (height_at t p))
    (sym (count_by_more_no (λ (o : Observer). is_seen t o p target radius) os i d less e))

-- adding 1 at each cell that observer i sees turns the values of the first i observers into those
-- of the first i + 1
pub seen_counted :
    (t : Terrain) (os : List Observer) (target radius i : ℕ) (d : Observer) (b : Bounds) (old new : List (Option ℕ))
    (seen : List Bool) → i < length os → IsMadeUpTo b (HasValue t (take i os) target radius) (b.rows * b.cols) old →
    AreFlags b (FlagsSeen t (get_or os i d) target radius) seen → length new ≡ length old →
    ((k : ℕ) → get_or new k None ≡ counted (get_or old k None) (get_or seen k false)) →
    IsMadeUpTo b (HasValue t (take (i + 1) os) target radius) (b.rows * b.cols) new
seen_counted t os target radius i d b old new seen less before flags size each = record {
  size = size ∙ before.size;
  each = λ p inside below entry is.
      let k = index_in b p in
      let had = before.each p inside below (get_or old k None) (slice_get-get_or old k None (omega (arith, below))) in
      sym (get_or_from_slice_get new k entry None is) ∙ each k ∙ ap (λ v. counted v (get_or seen k false)) had ∙
      ap (λ s. counted (value_at t (take i os) target radius p) s) (flags.each p inside below) ∙
      value_counted t os target radius i d p (is_seen t (get_or os i d) p target radius) less refl;
}

-- if observer i sees no cell of the tile, the values of the first i observers are those of the
-- first i + 1
pub unseen_counted :
    (t : Terrain) (os : List Observer) (target radius i : ℕ) (d : Observer) (b : Bounds) (values : List (Option ℕ)) →
    i < length os → IsMadeUpTo b (HasValue t (take i os) target radius) (b.rows * b.cols) values →
    ((p : Place) → IsInBounds b p → is_seen t (get_or os i d) p target radius ≡ false) →
    IsMadeUpTo b (HasValue t (take (i + 1) os) target radius) (b.rows * b.cols) values
unseen_counted t os target radius i d b values less before none = record {
  size = before.size;
  each = λ p inside below entry is.
      before.each p inside below entry is ∙ value_counted t os target radius i d p false less (none p inside);
}

value_few : (h : Option ℤ) (n m : ℕ) → option_map (λ _. m) h ≡ Some n → n ≡ m
value_few None n m e = absurd cc
value_few (Some x) n m e = cc

pub few : (t : Terrain) (os : List Observer) (target radius i : ℕ) (b : Bounds) (values : List (Option ℕ)) →
    IsMadeUpTo b (HasValue t (take i os) target radius) (b.rows * b.cols) values → AreAtMost i values
few t os target radius i b values made k n e = elim (cases_lt k (length values)) [
  | inl less ↦ (let below : k < b.rows * b.cols = omega (arith, made.size) in
      let p = place_in b k in
      let here : get_or values k None ≡ value_at t (take i os) target radius p =
      made.each p (place_inside b k below) (omega (arith, index_in-place_in b k)) (get_or values k None)
      (ap (slice_get values) (index_in-place_in b k) ∙ slice_get-get_or values k None less) in
      let is : n ≡ viewshed_value t (take i os) target radius p =
      value_few (height_at t p) n _ (sym here ∙ e) in
      omega (
        arith,
        count_by-le-length (λ (o : Observer). is_seen t o p target radius) (take i os),
        length-take i os,
      ))
  | inr past ↦
      (let none = get_or_past values k None past in
      absurd cc)
]
