-- A view of a tile shows the tile's cells and the cells next to the tile. All of these have indices
-- within the grid's list of cells.
use Rattle.std.proofs.Common.{◌≡◌, ℕ, ◌+◌, ◌*◌, ◌<◌, ◌≤◌, true, length, arith}
use Rattle.std.proofs.lemmas.Bool.{and_parts, ltb-true}
use Rattle.std.proofs.lemmas.Nat.{row_fits, mul-add-lt}
use Rattle.terrain.specs.declared.place.Place.{Place}
use Rattle.terrain.specs.Neighbours.{index_of}
use Rattle.tiles.specs.declared.bounds.Bounds.{Bounds}
use Rattle.tiles.specs.Cutting.{Cutting, IsWithin, View, IsView, AreBounds, is_shown}

-- each row of a tile ends within the grid's list of cells
pub row_end : (t : Cutting) (b : Bounds) (i : ℕ) → AreBounds t b → i < b.rows →
    (b.top + i) * t.cols + b.left + b.cols ≤ t.cols * t.rows
row_end t b i h l =
    let r = h.rows_inside in
    let c = h.cols_inside in
    let k : b.top + i < t.rows = omega arith in
    let f = row_fits (b.top + i) t.cols t.rows t.cols k (omega arith) in grind (arith, f, c)

pub shown_within : (t : Cutting) (tile : ℕ) (p : Place) → is_shown t tile p ≡ true → IsWithin t p
shown_within t tile p e =
    let a = and_parts _ _ e in
    let b = and_parts _ _ a.0 in
    let c = and_parts _ _ b.0 in
    let d = and_parts _ _ c.0 in
    let w = and_parts _ _ d.0 in (ltb-true _ _ w.0, ltb-true _ _ w.1)

pub shown_index : {X : Type 0} (v : View X) (p : Place) → IsView v →
    is_shown v.cutting v.tile p ≡ true → index_of v.cutting.cols p < length v.cells
shown_index v p h e =
    let w = shown_within v.cutting v.tile p e in
    let l = mul-add-lt p.row v.cutting.cols p.col v.cutting.rows w.0 w.1 in let s = h.size in
    omega (arith, l, s)
