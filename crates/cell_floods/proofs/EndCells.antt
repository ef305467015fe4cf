-- A label of a tile is an end cell if it is a sink or has a gap around it: a place off the grid or
-- without data. The tile's view shows the places of the grid at and around the label, and no place
-- off the grid, and so tells whether there is a gap.
use Rattle.std.proofs.Common.{◌≡◌, ℕ, zero, suc, ◌<◌, ◌≤◌, ◌+◌, ◌-◌, ◌*◌, inl, inr, true, false, ℤ, List, [], ◌∷◌, ◌++◌, length, get_or, Option, None, Some, IsNone, is_some, ◌∙◌, sym, ap, subst, refl, arith, unwrap_or}
use Rattle.std.specs.Prelude.{Bool, IsTrue, ◌⊎◌, Contains}
use Rattle.std.proofs.lemmas.Bool.{cases_Bool, cases_eq, cases_lt, cond-true, cond-false, and_from, lt-ltb, le-leb, false≢true}
use Rattle.std.proofs.lemmas.Option.{unwrap_or-slice_get}
use Rattle.std.proofs.lemmas.List.{get_or_append_left, get_or_push, length_push, get_or_past}
use Rattle.terrain.specs.Raster.{Terrain}
use Rattle.terrain.specs.Neighbours.{height_at, index_of, Touches, IsDataCell, IsEnd, HasGapAround}
use Rattle.terrain.specs.declared.place.Place.{Place}
use Rattle.terrain.proofs.Places.{entry-inside, entry-below, entry-beside, none_outside}
use Rattle.terrain.proofs.Options.{none_some, none_done}
use Rattle.tiles.specs.Cutting.{View, IsWithin, IsInBounds, bounds_of, cell_shown, is_shown, terrain_of}
use Rattle.tiles.proofs.Shown.{shown_within}
use Rattle.cell_floods.specs.TileFlood.{AreEndHeights, IsEndHeight}

-- A view shows the height at each place of the grid that touches a cell of its tile.
pub near_shown : (v : View (Option ℤ)) (p q : Place) → IsInBounds (bounds_of v.cutting v.tile) p
    → Touches p q → height_at (terrain_of v) q ≡ unwrap_or (cell_shown v q) None
near_shown v p q inside near = elim (cases_lt q.row v.cutting.rows) [
  | inr below ↦ entry-below _ _ _ q below ∙ hidden (λ w. omega (arith, w.0, below))
  | inl row ↦ elim (cases_lt q.col v.cutting.cols) [
    | inr beside ↦ entry-beside _ _ _ q beside ∙ hidden (λ w. omega (arith, w.1, beside))
    | inl col ↦
        entry-inside _ _ v.cells q row col ∙ sym (unwrap_or-slice_get v.cells _ None)
        ∙ sym (ap (λ (o : Option (Option ℤ)). unwrap_or o None) (cond-true _ _ _ (shown row col)))
  ]
] where
  shown : q.row < v.cutting.rows → q.col < v.cutting.cols → is_shown v.cutting v.tile q ≡ true
  shown row col =
      and_from _ _
      (and_from _ _ (and_from _ _ (and_from _ _ (and_from _ _ (lt-ltb _ _ row) (lt-ltb _ _ col))
      (le-leb _ _ (omega (arith, inside, near.row_up)))) (le-leb _ _
      (omega (arith, inside, near.row_down))))
      (le-leb _ _ (omega (arith, inside, near.col_left)))) (le-leb _ _
      (omega (arith, inside, near.col_right)))

  hidden : (IsWithin v.cutting q → ⊥) → None ≡ unwrap_or (cell_shown v q) None
  hidden out = elim (cases_Bool (is_shown v.cutting v.tile q)) [
    | inl seen ↦ absurd (out (shown_within v.cutting v.tile q seen))
    | inr unseen ↦ sym (ap (λ (o : Option (Option ℤ)). unwrap_or o None) (cond-false _ _ _ unseen))
  ]

-- `ends` has entries for the first `count` entries of the table: the height of a label that is an
-- end cell, else None.
pub record AreFirstEnds (t : Terrain) (places : List (Option Place)) (count : ℕ)
    (ends : List (Option ℤ)) : Type 0 where
  pub size : length ends ≡ count
  pub none : (k : ℕ) → k < count → get_or places k None ≡ None → get_or ends k None ≡ None
  pub each : (k : ℕ) (p : Place) → k < count → get_or places k None ≡ Some p →
      IsEndHeight t p (get_or ends k None)

pub one_end : (t : Terrain) (places : List (Option Place)) (count : ℕ) (ends new : List (Option ℤ))
    (x : Option ℤ)
    → new ≡ ends ++ x ∷ [] → (get_or places count None ≡ None → x ≡ None) → ((p : Place)
    → get_or places count None ≡ Some p → IsEndHeight t p x)
    → AreFirstEnds t places count ends → AreFirstEnds t places (count + 1) new
one_end t places count ends new x is lacks has s =
    subst (AreFirstEnds t places (count + 1)) (sym is) (record {
      size = length_push ends x ∙ ap (λ n. n + 1) s.size;
      none = λ k low e. elim (cases_eq k count) [
        | inl same ↦ get_or_push ends x None k (s.size ∙ sym same)
            ∙ lacks (ap (λ n. get_or places n None) (sym same) ∙ e)
        | inr other ↦ get_or_append_left ends (x ∷ []) None k (omega (arith, low, other, s.size))
            ∙ s.none k (omega (arith, low, other)) e
      ];
      each = λ k p low e. elim (cases_eq k count) [
        | inl same ↦ subst (IsEndHeight t p) (sym (get_or_push ends x None k (s.size ∙ sym same)))
            (has p (ap (λ n. get_or places n None) (sym same) ∙ e))
        | inr other ↦ subst (IsEndHeight t p) (sym (get_or_append_left ends (x ∷ []) None k
            (omega (arith, low, other, s.size)))) (s.each k p (omega (arith, low, other)) e)
      ];
    })

pub all_ends : (t : Terrain) (places : List (Option Place)) (count : ℕ) (ends : List (Option ℤ))
    → count ≤ length places → length places ≤ count → AreFirstEnds t places count ends
    → AreEndHeights t places ends
all_ends t places count ends below above s = record {
  size = omega (arith, s.size, below, above);
  none = λ k e. elim (cases_lt k count) [
    | inl low ↦ s.none k low e
    | inr past ↦ get_or_past ends k None (omega (arith, past, s.size))
  ];
  each = λ k p e. elim (cases_lt k count) [
    | inl low ↦ s.each k p low e
    | inr past ↦ none_some _ p (get_or_past places k None (omega (arith, past, above))) e
  ];
}

-- Let a place p have a gap around it or be a sink, and let `cell` be its height, None without data.
-- If p has data, it is an end cell, else it is not. So `IsEndHeight` holds for p and `cell`.
pub end_found : (t : Terrain) (p : Place) (end : Bool) (cell : Option ℤ) → height_at t p ≡ cell
    → (IsTrue end → HasGapAround t p ⊎ Contains t.sinks p) → end ≡ true → IsEndHeight t p cell
end_found t p end None is found holds =
    λ is_end. none_done (height_at t p) is (has_data is_end) where
      has_data : IsEnd t p → IsDataCell t p
      has_data (inl edge) = edge.0
      has_data (inr sink) = sink.0
end_found t p end (Some h) is found holds = (
  elim (found holds) [ inl gap ↦ inl (ap is_some is, gap) | inr sink ↦ inr (ap is_some is, sink) ],
  is,
)

pub end_missed : (t : Terrain) (p : Place) (end : Bool) → (HasGapAround t p ⊎ Contains t.sinks p
    → IsTrue end) → end ≡ false → IsEndHeight t p None
end_missed t p end missed fails (inl edge) = false≢true (sym fails ∙ missed (inl edge.1))
end_missed t p end missed fails (inr sink) = false≢true (sym fails ∙ missed (inr sink.1))

pub touches_itself : (p : Place) → Touches p p
touches_itself p = record {
  row_down = omega arith;
  row_up = omega arith;
  col_right = omega arith;
  col_left = omega arith;
}

-- `cells` are three of the view's cells in row order: the one before p, the one at p and the one
-- after p.
abbrev pub AreBeside : View (Option ℤ) → Place → List (Option ℤ) → Type 0
AreBeside v p cells = (k : ℕ) (d : Option ℤ) → k < 3
    → get_or cells k d ≡ get_or v.cells (index_of v.cutting.cols p + k - 1) d

-- In p's row, the height at a place of the grid at most one column from p is among the three cells.
beside_shown : (v : View (Option ℤ)) (p q : Place) (cells : List (Option ℤ)) → IsWithin v.cutting q
    → q.row ≡ p.row → p.col ≤ q.col + 1 → q.col ≤ p.col + 1 → AreBeside v p cells
    → height_at (terrain_of v) q ≡ get_or cells (q.col + 1 - p.col) None
beside_shown v p q cells within row left right are =
    let at : index_of v.cutting.cols q ≡ index_of v.cutting.cols p + (q.col + 1 - p.col) - 1 =
    ap (λ n. n * v.cutting.cols + q.col) row ∙ omega (arith, left) in
    entry-inside _ _ v.cells q within.0 within.1
    ∙ ap (λ n. get_or v.cells n None) at
    ∙ sym (are (q.col + 1 - p.col) None (omega (arith, right, left)))

-- If not all three cells have data, one of them has none.
some_gap : (cells : List (Option ℤ)) → length cells ≡ 3
    → (((k : ℕ) → k < length cells → is_some (get_or cells k None) ≡ true) → ⊥)
    → (k : ℕ) × (k < 3) × (is_some (get_or cells k None) ≡ false)
some_gap cells size not_all = elim (cases_Bool (is_some (get_or cells 0 None))) [
  | inr gap ↦ (0, omega arith, gap)
  | inl first ↦ elim (cases_Bool (is_some (get_or cells 1 None))) [
    | inr gap ↦ (1, omega arith, gap)
    | inl second ↦ elim (cases_Bool (is_some (get_or cells 2 None))) [
      | inr gap ↦ (2, omega arith, gap)
      | inl third ↦ absurd (not_all (λ k low. all k first second third (omega (arith, low, size))))
    ]
  ]
] where
  all : (k : ℕ) → is_some (get_or cells 0 None) ≡ true → is_some (get_or cells 1 None) ≡ true
      → is_some (get_or cells 2 None) ≡ true → k < 3 → is_some (get_or cells k None) ≡ true
  all zero a b c low = a
  all (suc zero) a b c low = b
  all (suc (suc zero)) a b c low = c
  all (suc (suc (suc k))) a b c low = absurd (omega (arith, low))

-- Let p be in the cell's column, past column 0, and at most one row off. If not all three cells at
-- and beside p have data, the cell has a gap around it.
pub gap_beside : (v : View (Option ℤ)) (cell p : Place) (cells : List (Option ℤ))
    → length cells ≡ 3 → AreBeside v p cells → p.col ≡ cell.col → 0 < cell.col
    → cell.row ≤ p.row + 1 → p.row ≤ cell.row + 1
    → (((k : ℕ) → k < length cells → is_some (get_or cells k None) ≡ true) → ⊥)
    → HasGapAround (terrain_of v) cell
gap_beside v cell p cells size are col some above below not_all =
    let gap = some_gap cells size not_all in
    let q : Place = record { row = p.row; col = p.col + gap.0 - 1 } in
    let touch : Touches cell q = record {
      row_down = omega (arith, below);
      row_up = omega (arith, above);
      col_right = omega (arith, col, gap.1);
      col_left = omega (arith, col, some);
    } in
    inr (inr (
      q,
      touch,
      elim (cases_lt q.row v.cutting.rows) [
        | inr out ↦ none_outside (terrain_of v) q (inl out)
        | inl row ↦ elim (cases_lt q.col v.cutting.cols) [
          | inr out ↦ none_outside (terrain_of v) q (inr out)
          | inl inside ↦
              let at : q.col + 1 - p.col ≡ gap.0 = omega (arith, col, some) in
              ap is_some (beside_shown v p q cells (row, inside) refl (omega (arith, col, some))
              (omega (arith, gap.1)) are
              ∙ ap (λ n. get_or cells n None) at) ∙ gap.2
        ]
      ],
    ))

-- Let the grid have p's row and the column after p's, and let p be in the cell's column. If the
-- three cells at and beside p have data, no `Place` around the cell in p's row is a gap.
pub no_gap_beside : (v : View (Option ℤ)) (cell p q : Place) (cells : List (Option ℤ))
    → length cells ≡ 3 → AreBeside v p cells → p.col ≡ cell.col → (p.row < v.cutting.rows)
    × (p.col + 1 < v.cutting.cols)
    → Touches cell q → q.row ≡ p.row
    → ((k : ℕ) → k < length cells → is_some (get_or cells k None) ≡ true)
    → IsNone (height_at (terrain_of v) q) → ⊥
no_gap_beside v cell p q cells size are col within touch row all none =
    let left : p.col ≤ q.col + 1 = omega (arith, col, touch.col_left) in
    let right : q.col ≤ p.col + 1 = omega (arith, col, touch.col_right) in
    let inside : IsWithin v.cutting q =
    (omega (arith, row, within.0), omega (arith, right, within.1)) in
    let shown = beside_shown v p q cells inside row left right are in
    let there = all (q.col + 1 - p.col) (omega (arith, size, right, left)) in
    absurd (cc (sym none ∙ ap is_some shown ∙ there))

pub no_data_ends : (t : Terrain) (p : Place) → height_at t p ≡ None → IsEndHeight t p None
no_data_ends t p none (inl edge) = none_done (height_at t p) none edge.0
no_data_ends t p none (inr sink) = none_done (height_at t p) none sink.0
