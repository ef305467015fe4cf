-- A view of a tile shows the tile's cells and those next to it. A row of the view has the grid's
-- cells in that row of the tile.
use Rattle.std.proofs.Common.{◌≡◌, ℕ, ◌+◌, ◌-◌, ◌*◌, ◌<◌, get_or, drop, slice_range, sym, ap, ◌∙◌, arith}
use Rattle.std.proofs.lemmas.List.{get_or-take, get_or-drop}
use Rattle.tiles.specs.declared.bounds.Bounds.{Bounds}
use Rattle.tiles.specs.Cutting.{View, bounds_of, row_shown}

-- entry k of row i of a view is the grid's cell in row i and column k of the tile
pub row_has : {X : Type 0} (v : View X) (none : X) (b : Bounds) (i k : ℕ) →
    b ≡ bounds_of v.cutting v.tile → k < b.cols →
    get_or (row_shown v i) k none ≡ get_or v.cells ((b.top + i) * v.cutting.cols + b.left + k) none
row_has {X = X} v none b i k e below =
    ap (λ (z : Bounds). get_or (slice_range v.cells ((z.top + i) * v.cutting.cols + z.left)
    ((z.top + i) * v.cutting.cols + z.left + z.cols)) k none) (sym e)
    ∙ get_or-take ((b.top + i) * v.cutting.cols + b.left + b.cols - ((b.top + i) * v.cutting.cols
    + b.left)) (drop ((b.top + i) * v.cutting.cols + b.left) v.cells) k none (omega arith)
    ∙ get_or-drop ((b.top + i) * v.cutting.cols + b.left) v.cells k none
