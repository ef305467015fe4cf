-- A window made from a tile alone (`Window::of_tile`) has each cell of the tile at the cell's node,
-- and no data at other nodes. So its values are the cells of the tile's net.
use Rattle.std.proofs.Common.{◌≡◌, ℕ, ◌+◌, ◌-◌, ◌*◌, ◌/◌, ◌%◌, ◌<◌, ◌≤◌, inl, inr, ℤ, Bool, List, length, get_or, Option, None, IsSome, ◌∙◌, sym, ap, refl, subst, arith}
use Rattle.std.proofs.lemmas.Bool.{cases_lt, cases_eq, cases_Bool, cond-true, cond-false}
use Rattle.std.proofs.lemmas.List.{get_or_past}
use Rattle.std.proofs.lemmas.Nat.{mul-add-lt, mul-le, div_below, mod_below, div-add-mod'}
use Rattle.terrain.specs.Raster.{Terrain}
use Rattle.terrain.specs.Sinks.{with_sinks}
use Rattle.terrain.specs.declared.place.Place.{Place}
use Rattle.tiles.specs.declared.bounds.Bounds.{Bounds}
use Rattle.tiles.specs.Cutting.{View, IsView, IsInBounds, is_in_bounds, Cutting, bounds_of, terrain_of}
use Rattle.tiles.specs.Windows.{area_of, spot_index, AreShown, entry_inside}
use Rattle.tiles.proofs.Cut.{make_bounds, one_tile, bounds_inside, in_bounds_parts, in_bounds_from}
use Rattle.cell_floods.specs.Cells.{Cells, node_at, IsNetOf, HasSinks, IsBordered, whole}
use Rattle.terrain.proofs.Places.{make_place, entry-inside}
use Rattle.terrain.proofs.Options.{none_done}

pub above_row : (w : Bounds) (p : Place) → w.cols + 2 < node_at w p
above_row w p = omega
    (arith, mul-le 1 (w.cols + 2) (p.row - w.top + 1) (w.cols + 2) (omega arith) (omega arith))

pub bordered_list : (t : Terrain) (w : Bounds) (n : Cells) → w.rows ≤ 4096 → w.cols ≤ 4096 →
    IsNetOf t w n → IsBordered n
bordered_list t w n few_rows few_cols net = record {
  narrow = omega (arith, net.stride, few_cols);
  few = omega
      (arith, net.size, mul-le (w.rows + 2) (w.cols + 2) 4098 4098 (omega arith) (omega arith));
  border = λ a some.
      let p = net.only a some in
      let stride = net.stride in
      let size = net.size in
      let low : w.cols + 2 < node_at w p.0 = above_row w p.0 in
      let room : (p.0.row - w.top + 2) * (w.cols + 2) + (p.0.col - w.left + 1 + 1)
      < (w.cols + 2) * (w.rows + 2) = mul-add-lt (p.0.row - w.top + 2) (w.cols + 2) (p.0.col
      - w.left + 1 + 1) (w.rows + 2) (omega (arith, p.1.0, p.1.1)) (omega (arith, p.1.2, p.1.3)) in
      (omega (arith, stride, low, p.2), omega (arith, stride, size, room, p.2));
}

-- Only the nodes of the tile's places have data.
only_inside : (b : Bounds) (cols : ℕ) (cells items : List (Option ℤ)) →
    length items ≡ area_of b → AreShown (entry_inside b cols cells None) None b items →
    (a : ℕ) → IsSome (get_or items a None) → (p : Place) × IsInBounds b p × (node_at b p ≡ a)
only_inside b cols cells items size shown a some =
    let width = b.cols + 2 in
    let s = make_place (a / width) (a % width) in
    let at : a / width * width + a % width ≡ a = div-add-mod' a width in
    let below : a < (b.rows + 2) * width = elim (cases_lt a (length items)) [
      | inl low ↦ omega (arith, low, size)
      | inr past ↦ none_done _ (get_or_past items a None past) some
    ] in
    let col : a % width < width = mod_below a width (omega arith) in
    let row : a / width < b.rows + 2 = div_below a width (b.rows + 2) (omega arith) below in
    let value = shown s (row, col) in
    let here : get_or items (spot_index b s) None ≡ get_or items a None =
    ap (λ n. get_or items n None) at in
    elim (cases_eq (b.top + a / width) 0) [
      | inl off ↦ none_done _ (sym here ∙ value.1 (inl off)) some
      | inr low ↦ elim (cases_eq (b.left + a % width) 0) [
        | inl off ↦ none_done _ (sym here ∙ value.1 (inr off)) some
        | inr left ↦
            let p = make_place (b.top + a / width - 1) (b.left + a % width - 1) in
            let is = sym here ∙ value.0 p (omega arith, omega arith) in
            elim (cases_Bool (is_in_bounds b p)) [
              | inr out ↦ none_done _ (is ∙ cond-false _ _ _ out) some
              | inl inside ↦
                  let held = in_bounds_parts b p inside in
                  let r : p.row - b.top + 1 ≡ a / width = omega (arith, held.0) in
                  let c : p.col - b.left + 1 ≡ a % width = omega (arith, held.2) in (
                    p,
                    held,
                    ap (λ n. n * width + (p.col - b.left + 1)) r
                        ∙ ap (λ n. a / width * width + n) c ∙ at,
                  )
            ]
      ]
    ]

pub net_of_window : (v : View (Option ℤ)) (b : Bounds) (items : List (Option ℤ))
    (places : List Place) (sinks : List Bool) → IsView v → b ≡ bounds_of v.cutting v.tile →
    length items ≡ area_of b → AreShown (entry_inside b v.cutting.cols v.cells None) None b items →
    HasSinks b places sinks → IsNetOf (with_sinks (terrain_of v) places)
    (bounds_of v.cutting v.tile) (record { stride = b.cols + 2; cells = items; sinks = sinks })
net_of_window v b items places sinks is same size shown has =
    let fits = bounds_inside v.cutting v.tile is.cutting is.tile in
    subst (λ (w : Bounds). IsNetOf (with_sinks (terrain_of v) places) w
    (record { stride = b.cols + 2; cells = items; sinks = sinks })) same (record {
      stride = refl;
      inside = λ p h.
          let s = make_place (p.row - b.top + 1) (p.col - b.left + 1) in
          let rows : b.rows ≡ (bounds_of v.cutting v.tile).rows =
          ap (λ (z : Bounds). z.rows) same in
          let cols : b.cols ≡ (bounds_of v.cutting v.tile).cols =
          ap (λ (z : Bounds). z.cols) same in
          let top : b.top ≡ (bounds_of v.cutting v.tile).top = ap (λ (z : Bounds). z.top) same in
          let left : b.left ≡ (bounds_of v.cutting v.tile).left =
          ap (λ (z : Bounds). z.left) same in
          (shown s (omega (arith, h.1), omega (arith, h.3))).0 p
          (omega (arith, h.0), omega (arith, h.2))
          ∙ cond-true _ _ _ (in_bounds_from b p h)
          ∙ sym (entry-inside v.cutting.cols v.cutting.rows v.cells p
          (omega (arith, h.1, top, rows, fits.rows_inside))
          (omega (arith, h.3, left, cols, fits.cols_inside)));
      only = only_inside b v.cutting.cols v.cells items size shown;
      size = omega (arith, size);
      sinks = has;
    })

-- What holds of the terrain and the bounds of a grid's one tile holds of the whole grid.
pub of_one_tile : (N : Terrain → Bounds → Type 0) (t : Terrain) (v : View (Option ℤ)) (k : Cutting)
    (cols rows : ℕ) (cells : List (Option ℤ)) (sinks : List Place) →
    v ≡ record { cutting = k; tile = 0; cells = cells } → k ≡ one_tile cols rows →
    bounds_of k 0 ≡ make_bounds 0 0 rows cols → cols ≡ t.cols → rows ≡ t.rows → cells ≡ t.cells →
    sinks ≡ t.sinks → N (with_sinks (terrain_of v) sinks) (bounds_of v.cutting v.tile) →
    N t (whole t)
of_one_tile N t v k cols rows cells sinks view cutting bounds is_cols is_rows is_cells is_sinks h =
    let terrain : with_sinks (terrain_of v) sinks ≡ t =
    ap (λ (z : View (Option ℤ)). with_sinks (terrain_of z) sinks) view
    ∙ ap (λ (z : Cutting). record { cols = z.cols; rows = z.rows; cells = cells; sinks = sinks })
    cutting ∙ ap (λ n. record { cols = n; rows = rows; cells = cells; sinks = sinks }) is_cols
    ∙ ap (λ n. record { cols = t.cols; rows = n; cells = cells; sinks = sinks }) is_rows
    ∙ ap (λ xs. record { cols = t.cols; rows = t.rows; cells = xs; sinks = sinks }) is_cells
    ∙ ap (λ xs. record { cols = t.cols; rows = t.rows; cells = t.cells; sinks = xs }) is_sinks in
    let place : bounds_of v.cutting v.tile ≡ whole t =
    ap (λ (z : View (Option ℤ)). bounds_of z.cutting z.tile) view ∙ bounds
    ∙ ap (λ n. make_bounds 0 0 n cols) is_rows ∙ ap (λ n. make_bounds 0 0 t.rows n) is_cols in
    subst (λ (z : Terrain). N z (whole t)) terrain
    (subst (λ (w : Bounds). N (with_sinks (terrain_of v) sinks) w) place h)
