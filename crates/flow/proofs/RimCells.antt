-- `side_cell` finds the cell that has a side number, a rim cell's number in its tile.
use Rattle.std.proofs.Common.{◌≡◌, ℕ, ◌+◌, ◌*◌, ◌&&◌, inl, inr, eqb, None, Some, ap, ◌∙◌, sym, refl}
use Rattle.std.proofs.lemmas.Bool.{cases_Bool, and_from, and_parts, eq-eqb, eqb-true, cond-true, cond-false}
use Rattle.std.proofs.lemmas.Option.{none-some, same_Some}
use Rattle.terrain.specs.declared.place.Place.{Place}
use Rattle.tiles.specs.declared.bounds.Bounds.{Bounds}
use Rattle.tiles.specs.Cutting.{Cutting, IsInTile, IsInBounds, bounds_of, is_in_bounds, tile_of_place}
use Rattle.tiles.specs.RimNumbers.{stride, side_number, side_place, rim_number}
use Rattle.tiles.proofs.Cut.{in_bounds_parts, in_bounds_from}
use Rattle.flow.specs.RimGraph.{side_cell}

-- The bounds of the tile of p.
abbrev pub own_bounds : Cutting → Place → Bounds
own_bounds t p = bounds_of t (tile_of_place t p)

module _ (l b : Bounds) where
  -- p is the cell with this side number.
  pub record IsCellOf (side : ℕ) (p : Place) : Type 0 where
    pub inside : IsInBounds b p
    pub number : side_number l b p ≡ side
    pub place : side_place l b side ≡ p

  pub cell_from : (side : ℕ) (p : Place) → side_cell l b side ≡ Some p → IsCellOf side p
  cell_from side p e = elim (cases_Bool (is_in_bounds b (side_place l b side) && eqb
      (side_number l b (side_place l b side)) side)) [
        | inl y ↦ (let w = and_parts (is_in_bounds b (side_place l b side)) _ y in
            let place = same_Some _ _ (sym (cond-true _ _ None y) ∙ e) in
            record { inside = rw place at (in_bounds_parts b _ w.0); number = cc (eqb-true _ _ w.1); place = place })
        | inr f ↦ absurd (none-some p (sym (cond-false _ _ None f) ∙ e))
      ]

  -- If p lies in the tile and its side number gives p, `side_cell` finds p by that number.
  pub cell_at : (p : Place) → IsInBounds b p → side_place l b (side_number l b p) ≡ p →
      side_cell l b (side_number l b p) ≡ Some p
  cell_at p i back =
      cond-true _ _ None (ap (λ q. is_in_bounds b q && eqb (side_number l b q) (side_number l b p)) back ∙
      and_from _ _ (in_bounds_from b p i) (eq-eqb _ _ refl)) ∙ ap Some back

pub number_from_side : (t : Cutting) (tile : ℕ) {side : ℕ} (p : Place) → IsInTile t tile p →
    side_number (bounds_of t 0) (bounds_of t tile) p ≡ side → rim_number t p ≡ tile * stride (bounds_of t 0) + side
number_from_side t tile p i e = cc
