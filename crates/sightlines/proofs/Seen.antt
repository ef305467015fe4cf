-- Between data cells within the radius, a target is seen exactly if neither the walk over columns
-- nor the walk over rows is blocked. If terrain and elevations are within their limits too, the two
-- lines are `AreSightlines`. A target beyond the radius is not seen. The last lemmas serve
-- `may_see`: a blocked walk hides the target.
use Rattle.std.proofs.Common.{arith, refl, sym, ap, ◌∙◌, ◌≡◌, ℤ, pos, ◌+ℤ◌, ℕ, Bool, true, false, not, ◌&&◌, ◌||◌, Some, is_some}
use Rattle.terrain.specs.Raster.{Terrain, IsTerrain}
use Rattle.terrain.specs.Neighbours.{IsInside, height_at}
use Rattle.terrain.specs.declared.place.Place.{Place}
use Rattle.sightlines.specs.Sight.{is_near, is_open, is_seen, place_of}
use Rattle.sightlines.specs.Walk.{walk_blocks, over_columns, over_rows, IsElevation, IsSightline, AreSightlines}
use Rattle.terrain.specs.declared.observer.Observer.{Observer}
use Rattle.sightlines.proofs.Crossings.{column_blocks-walk, row_blocks-walk, columns_in_list, rows_in_list, walk_back}

seen_is : (t : Terrain) (o : Observer) (q : Place) (target radius : ℕ) (from to : ℤ) → IsInside t (place_of o) →
    IsInside t q → height_at t (place_of o) ≡ Some from → height_at t q ≡ Some to →
    is_near (place_of o) q radius ≡ true →
    let p = place_of o in
    let e = from +ℤ pos o.eye in
    let f = to +ℤ pos target in
    is_seen t o q target radius ≡
    (not (walk_blocks t.cells (over_columns t q p f e)) && not (walk_blocks t.cells (over_rows t q p f e)))
seen_is t o q target radius from to a b from_is to_is near =
    let p = place_of o in
    let e = from +ℤ pos o.eye in
    let f = to +ℤ pos target in
    rw (
      from_is,
      to_is,
      near,
      column_blocks-walk t p q e f a b,
      row_blocks-walk t p q e f a b,
      walk_back t.cells (over_columns t p q e f),
      walk_back t.cells (over_rows t p q e f),
    ) refl

out_of_reach : (a b c : Bool) → (a && b && false && c) ≡ false
out_of_reach false b c = refl
out_of_reach true true c = refl
out_of_reach true false c = refl

pub unseen : (t : Terrain) (o : Observer) (q : Place) (target radius : ℕ) → is_near (place_of o) q radius ≡ false →
    is_seen t o q target radius ≡ false
unseen t o q target radius far = rw far (out_of_reach (is_some (height_at t (place_of o))) (is_some (height_at t q)) _)

reached_is : (t : Terrain) (o : Observer) (q : Place) (target radius : ℕ) (from to : ℤ) →
    height_at t (place_of o) ≡ Some from → height_at t q ≡ Some to → is_near (place_of o) q radius ≡ true →
    is_seen t o q target radius ≡ is_open t o q target
reached_is t o q target radius from to from_is to_is near = rw (from_is, to_is, near) refl

small : (t : Terrain) (p q : Place) (e f : ℤ) → IsTerrain t → IsInside t p → IsInside t q → IsElevation e →
    IsElevation f → IsSightline (over_columns t q p f e) × IsSightline (over_rows t q p f e)
small t p q e f is a b e_elevation f_elevation = (
  record {
    ends = (omega arith, omega arith, omega arith, omega arith);
    strides = (omega arith, is.few_cols);
    from_elevation = f_elevation;
    to_elevation = e_elevation;
  },
  record {
    ends = (omega arith, omega arith, omega arith, omega arith);
    strides = (is.few_cols, omega arith);
    from_elevation = f_elevation;
    to_elevation = e_elevation;
  },
)

pub lines_are : (t : Terrain) (o : Observer) (q : Place) (target radius : ℕ) (from to : ℤ) → IsTerrain t →
    IsInside t (place_of o) → IsInside t q → height_at t (place_of o) ≡ Some from → height_at t q ≡ Some to →
    is_near (place_of o) q radius ≡ true → IsElevation (from +ℤ pos o.eye) → IsElevation (to +ℤ pos target) →
    let p = place_of o in
    let e = from +ℤ pos o.eye in
    let f = to +ℤ pos target in
    AreSightlines t o q target radius (record { columns = over_columns t q p f e; rows = over_rows t q p f e })
lines_are t o q target radius from to is a b from_is to_is near e_elevation f_elevation =
    let p = place_of o in
    let are_small = small t p q (from +ℤ pos o.eye) (to +ℤ pos target) is a b e_elevation f_elevation in
    record {
      columns = rw (from_is, to_is) refl;
      rows = rw (from_is, to_is) refl;
      small_columns = are_small.0;
      small_rows = are_small.1;
      columns_inside = columns_in_list t q p is.size b a;
      rows_inside = rows_in_list t q p is.size b a;
      seen = seen_is t o q target radius from to a b from_is to_is near;
      reached = λ height. reached_is t o q height radius from to from_is to_is near;
    }

pub hidden_by_columns : (seen a b : Bool) → seen ≡ (not a && not b) → a ≡ true → false ≡ seen
hidden_by_columns seen a b is blocked = sym (is ∙ ap (λ x. not x && not b) blocked)

pub hidden_by_rows : (seen a b : Bool) → seen ≡ (not a && not b) → b ≡ true → false ≡ seen
hidden_by_rows seen true b is blocked = sym is
hidden_by_rows seen false b is blocked = sym (is ∙ ap not blocked)

-- Where `seen` equals `is_open`, as between data cells within the radius, a target is seen exactly
-- if no tested row crossing blocks (`rows` is false) and the line is open.
pub seen_if_open : (seen is_open a b rows : Bool) → seen ≡ (not a && not b) → seen ≡ is_open →
    (rows ≡ true → b ≡ true) → (not rows && is_open) ≡ seen
seen_if_open seen is_open a b true is same reported = hidden_by_rows seen a b is (reported refl)
seen_if_open seen is_open a b false is same reported = sym same

pub hidden_by_either : (seen a b : Bool) → seen ≡ (not a && not b) → (a || b) ≡ true → seen ≡ false
hidden_by_either seen true b is blocked = is
hidden_by_either seen false b is blocked = is ∙ ap not blocked
