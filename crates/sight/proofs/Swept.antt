-- The targets of a tile that sweeps over columns and over rows have raised are at the least heights
-- at which an observer sees them. They lower the values of the tile.
use Rattle.std.proofs.Common.{arith, refl, sym, ap, subst, inl, inr, ◌∙◌, ◌≡◌, ◌+◌, ◌-◌, ◌*◌, ◌<◌, ◌≤◌, ℕ, ℤ, pos, ◌+ℤ◌, Bool, true, false, not, ◌&&◌, List, [], get_or, Option, Some}
use Rattle.std.proofs.lemmas.Bool.{cases_lt, cond-false, le-ltb}
use Rattle.std.proofs.lemmas.Int.{ints}
use Rattle.terrain.specs.Raster.{Terrain}
use Rattle.terrain.specs.Neighbours.{IsInside, height_of}
use Rattle.terrain.specs.declared.place.Place.{Place}
use Rattle.terrain.specs.declared.observer.Observer.{Observer}
use Rattle.tiles.specs.declared.bounds.Bounds.{Bounds}
use Rattle.tiles.specs.Cutting.{IsInBounds, index_in}
use Rattle.sightlines.specs.Sight.{column_blocks, row_blocks, highest_eye, is_open, is_seen, place_of}
use Rattle.sightlines.specs.Walk.{walk_blocks}
use Rattle.sightlines.proofs.Higher.{columns_clear, hidden_lower}
use Rattle.sight.specs.Flags.{flag_at}
use Rattle.sight.specs.Lowered.{limit_of, lowered_to, IsLowered}
use Rattle.sight.specs.Raising.{AreClear, IsCandidate, IsRaised}
use Rattle.sight.specs.Sides.{columns_at, rows_at, sightline_to, family_of, extent_of}
use Rattle.sight.proofs.PlacesLeft.{column_walk_is, row_walk_is}
use Rattle.sight.proofs.Raised.{raised_same}

module _ (t : Terrain) (p : Place) (b : Bounds) (e : ℤ) (flags : List Bool) (old new : List ℕ)
    (observer : IsInside t p) (rows : b.top + b.rows ≤ t.rows) (cols : b.left + b.cols ≤ t.cols) where
  pub columns_raised :
      AreClear t.cells (family_of (columns_at b p) (rows_at t b p) e) (extent_of (columns_at b p) (rows_at t b p)) flags
      old new → (q : Place) → IsInBounds b q → flag_at b flags q ≡ true →
      IsRaised (λ h. column_blocks t p q e (height_of t q +ℤ pos h)) (get_or old (index_in b q) 0)
      (get_or new (index_in b q) 0)
  columns_raised are q inside flagged =
      let at : (q.col - b.left) * 1 + (q.row - b.top) * b.cols ≡ index_in b q = omega arith in
      let Walked : ℕ → Type 0 =
      λ k.
      IsRaised (λ h.
      walk_blocks t.cells
      (sightline_to t.cells (family_of (columns_at b p) (rows_at t b p) e) h q.col q.row))
      (get_or old k 0) (get_or new k 0) in
      raised_same
      (λ h. walk_blocks t.cells (sightline_to t.cells (family_of (columns_at b p) (rows_at t b p) e) h q.col q.row))
      (λ h. column_blocks t p q e (height_of t q +ℤ pos h)) _ _
      (λ h. column_walk_is t p b e h [] [] observer rows cols q (omega (arith, rows), omega (arith, cols)))
      (subst Walked at (are.each q.col q.row (inside.2, inside.3) (inside.0, inside.1)
      (ap (λ k. get_or flags k false) at ∙ flagged)))

  pub rows_raised :
      AreClear t.cells (family_of (rows_at t b p) (columns_at b p) e) (extent_of (rows_at t b p) (columns_at b p)) flags
      old new → (q : Place) → IsInBounds b q → flag_at b flags q ≡ true →
      IsRaised (λ h. row_blocks t p q e (height_of t q +ℤ pos h)) (get_or old (index_in b q) 0)
      (get_or new (index_in b q) 0)
  rows_raised are q inside flagged =
      let at : (q.row - b.top) * b.cols + (q.col - b.left) * 1 ≡ index_in b q = omega arith in
      let Walked : ℕ → Type 0 =
      λ k.
      IsRaised (λ h.
      walk_blocks t.cells
      (sightline_to t.cells (family_of (rows_at t b p) (columns_at b p) e) h q.row q.col))
      (get_or old k 0) (get_or new k 0) in
      raised_same
      (λ h. walk_blocks t.cells (sightline_to t.cells (family_of (rows_at t b p) (columns_at b p) e) h q.row q.col))
      (λ h. row_blocks t p q e (height_of t q +ℤ pos h)) _ _
      (λ h. row_walk_is t p b e h [] [] observer rows cols q (omega (arith, rows), omega (arith, cols)))
      (subst Walked at (are.each q.row q.col (inside.0, inside.1) (inside.2, inside.3)
      (ap (λ k. get_or flags k false) at ∙ flagged)))

open_is : (a b : Bool) → a ≡ false → b ≡ false → not (not a && not b) ≡ false
open_is a b p q = rw (p, q) refl

first_blocks : (a b : Bool) → a ≡ true → not (not a && not b) ≡ true
first_blocks a b p = rw p refl

second_blocks : (a b : Bool) → b ≡ true → not (not a && not b) ≡ true
second_blocks true b p = refl
second_blocks false b p = rw p refl

-- raised over one test that stays passed at greater heights, then over another
raised_over_both : (one two : ℕ → Bool) (mid new : ℕ) → ((a b : ℕ) → a ≤ b → one a ≡ false → one b ≡ false) →
    IsRaised one 0 mid → IsRaised two mid new → IsRaised (λ h. not (not (one h) && not (two h))) 0 new
raised_over_both one two mid new stays first second = record {
  rises = omega arith;
  most = second.most;
  clear = λ few. open_is _ _ (stays mid new second.rises (first.clear (omega arith))) (second.clear few);
  hidden = λ some. elim (cases_lt mid new) [
    | inl more ↦ second_blocks (one (new - 1)) _ (second.hidden more)
    | inr same ↦
        let e : mid ≡ new = omega arith in
        first_blocks _ (two (new - 1)) (subst (λ (k : ℕ). one (k - 1) ≡ true) e (first.hidden (omega arith)))
  ];
}

-- no crossing blocks the line of sight to a target raised over columns and then over rows
pub raised_open : (t : Terrain) (o : Observer) (q : Place) (mid new : ℕ) →
    (let e = height_of t (place_of o) +ℤ pos o.eye in
    IsRaised (λ h. column_blocks t (place_of o) q e (height_of t q +ℤ pos h)) 0 mid ×
    IsRaised (λ h. row_blocks t (place_of o) q e (height_of t q +ℤ pos h)) mid new) →
    IsRaised (λ h. not (is_open t o q h)) 0 new
raised_open t o q mid new both =
    let e = height_of t (place_of o) +ℤ pos o.eye in
    raised_over_both (λ h. column_blocks t (place_of o) q e (height_of t q +ℤ pos h))
    (λ h. row_blocks t (place_of o) q e (height_of t q +ℤ pos h)) mid new (λ a b less.
    columns_clear t (place_of o) q e (height_of t q +ℤ pos a) (height_of t q +ℤ pos b)
    (omega (arith, ints, less))) both.0 both.1

not_true : (b : Bool) → not b ≡ true → b ≡ false
not_true true e = absurd cc
not_true false e = refl

not_false : (b : Bool) → not b ≡ false → b ≡ true
not_false true e = refl
not_false false e = absurd cc

module _ (t : Terrain) (o : Observer) (radius : ℕ) (p : Place) where
  hidden_below : (v : ℕ) → IsCandidate t o radius p true → IsRaised (λ h. not (is_open t o p h)) 0 v → (h : ℕ) → h < v →
      is_seen t o p h radius ≡ false
  hidden_below v seen raised h below =
      hidden_lower t o p h (v - 1) radius (omega arith)
      (seen (v - 1) ∙ not_true (is_open t o p (v - 1)) (raised.hidden (omega arith)))

  stays : (value : Option ℕ) → ((h : ℕ) → h < limit_of value → is_seen t o p h radius ≡ false) → (new : Option ℕ) →
      new ≡ value → IsLowered t o radius p value new
  stays value hidden new same = (
    limit_of value,
    record { most = omega arith; seen = λ less. absurd (omega arith); hidden = hidden },
    same ∙
        sym (cond-false _ (Some (limit_of value)) value (le-ltb (limit_of value) (limit_of value) (omega arith))),
  )

  pub swept_lowered : (flag : Bool) (v : ℕ) (value new : Option ℕ) → limit_of value ≤ highest_eye + 1 →
      IsCandidate t o radius p flag → (flag ≡ true → IsRaised (λ h. not (is_open t o p h)) 0 v) →
      new ≡ lowered_to flag v value → IsLowered t o radius p value new
  swept_lowered false v value new low seen raised is = stays value (λ h below. seen h) new is
  swept_lowered true v value new low seen raised is =
      let up = raised refl in
      elim (cases_lt v (limit_of value)) [
        | inl lower ↦ (
          v,
          record {
            most = omega arith;
            seen = λ less. seen v ∙ not_false (is_open t o p v) (up.clear (omega arith));
            hidden = hidden_below v seen up;
          },
          is,
        )
        | inr above ↦ stays value (λ h below. hidden_below v seen up h (omega arith)) new
            (is ∙ cond-false _ (Some v) value (le-ltb v (limit_of value) above))
      ]
