-- A list of values made spot by spot, or row by row, has at each spot of a tile's window the value
-- of the place that the spot shows. It has `none` where this place is not in `seen`, and at spots
-- north or west of the grid. The bounds `seen` lie in the grid and hold the tile's (`IsHeld`).
-- Spots are the places of the window (`Windows`).
use Rattle.std.proofs.Common.{◌≡◌, ℕ, ◌+◌, ◌-◌, ◌*◌, ◌<◌, ◌≤◌, true, inl, inr, List, [], ◌∷◌, ◌++◌, length, get_or, Option, unwrap_or, sym, ap, subst, refl, ◌∙◌, arith}
use Rattle.std.proofs.lemmas.Bool.{cases_eq, cases_lt, cond-true, and_from, le-leb, lt-ltb}
use Rattle.std.proofs.lemmas.List.{get_or_append_left, get_or-append_right, length-append, get_or_push, length_push}
use Rattle.std.proofs.lemmas.Nat.{mul-add-lt}
use Rattle.std.proofs.lemmas.Option.{unwrap_or-slice_get}
use Rattle.std.proofs.Math.Nat.{mul-le-mul_right}
use Rattle.terrain.proofs.Places.{same_place, index_injective}
use Rattle.terrain.specs.Neighbours.{index_of}
use Rattle.terrain.specs.declared.place.Place.{Place}
use Rattle.tiles.specs.declared.bounds.Bounds.{Bounds}
use Rattle.tiles.specs.Cutting.{Cutting, IsCutting, View, tile_count, bounds_of, is_within, is_shown, cell_shown, row_shown, is_in_bounds}
use Rattle.tiles.specs.Windows.{IsInner, spot_index, area_of, IsSpot, Shows, IsOff, AreShown, AreMadeSpots, IsSeen, AreSeenBelow, IsHeld, entry_inside}
use Rattle.tiles.proofs.Cut.{make_bounds, bounds_inside, in_bounds_parts, in_bounds_from}
use Rattle.tiles.proofs.TileRows.{row_has}

pub spot_below : (b : Bounds) (s : Place) → IsSpot b s → spot_index b s < area_of b
spot_below b s spot = mul-add-lt s.row (b.cols + 2) s.col (b.rows + 2) spot.0 spot.1

pub shows_same : (b : Bounds) (s p q : Place) → Shows b s p → Shows b s q → p ≡ q
shows_same b s p q here there =
    same_place p q (omega (arith, here.0, there.0)) (omega (arith, here.1, there.1))

pub shows_none : (b : Bounds) (s p : Place) → Shows b s p → IsOff b s → ⊥
shows_none b s p shows (inl off) = omega (arith, shows.0, off)
shows_none b s p shows (inr off) = omega (arith, shows.1, off)

-- a view of the tile has each place of the grid that a spot shows
shows_within : (c : Cutting) (tile : ℕ) (b : Bounds) (s p : Place) → b ≡ bounds_of c tile →
    IsSpot b s → Shows b s p → is_within c p ≡ true → is_shown c tile p ≡ true
shows_within c tile b s p e spot shows within =
    let top : b.top ≡ (bounds_of c tile).top = ap (λ (z : Bounds). z.top) e in
    let left : b.left ≡ (bounds_of c tile).left = ap (λ (z : Bounds). z.left) e in
    let rows : b.rows ≡ (bounds_of c tile).rows = ap (λ (z : Bounds). z.rows) e in
    let cols : b.cols ≡ (bounds_of c tile).cols = ap (λ (z : Bounds). z.cols) e in
    and_from _ _ (and_from _ _ (and_from _ _ (and_from _ _ within
    (le-leb _ _ (omega (arith, shows.0, top))))
    (le-leb _ _ (omega (arith, shows.0, spot.0, top, rows))))
    (le-leb _ _ (omega (arith, shows.1, left))))
    (le-leb _ _ (omega (arith, shows.1, spot.1, left, cols)))

-- if `seen` has the place of a spot, the value that the view has there is the value seen at the
-- spot (`IsSeen`)
pub seen_at : {X : Type 0} (v : View X) (none : X) (seen b : Bounds) (s q : Place) (o : Option X)
    (x : X) → b ≡ bounds_of v.cutting v.tile → IsHeld v.cutting b seen → IsSpot b s → Shows b s q →
    is_in_bounds seen q ≡ true → o ≡ cell_shown v q → x ≡ unwrap_or o none →
    IsSeen v seen none b s x
seen_at {X = X} v none seen b s q o x e held spot there inside is value =
    let in_seen = in_bounds_parts seen q inside in
    let within : is_within v.cutting q ≡ true =
    and_from _ _ (lt-ltb q.row v.cutting.rows (omega (arith, in_seen.1, held.rows_inside)))
    (lt-ltb q.col v.cutting.cols (omega (arith, in_seen.3, held.cols_inside))) in
    let entry : unwrap_or (cell_shown v q) none ≡ entry_inside seen v.cutting.cols v.cells none q =
    ap (λ (o : Option X). unwrap_or o none)
    (cond-true _ _ _ (shows_within v.cutting v.tile b s q e spot there within))
    ∙ unwrap_or-slice_get v.cells (index_of v.cutting.cols q) none
    ∙ sym (cond-true _ _ _ inside) in (
      λ p shows. value ∙ ap (λ (o : Option X). unwrap_or o none) is ∙ entry
          ∙ ap (entry_inside seen v.cutting.cols v.cells none) (shows_same b s q p there shows),
      λ off. absurd (shows_none b s q there off),
    )

pub made_push : {X : Type 0} (Has : Place → X → Type 0) (b : Bounds) (s : Place) (lack : X)
    (list : List X) (x : X) → IsSpot b s →
    AreMadeSpots Has b (spot_index b s) lack list → Has s x →
    AreMadeSpots Has b (spot_index b s + 1) lack (list ++ x ∷ [])
made_push {X = X} Has b s lack list x spot before here = record {
  size = length_push list x ∙ ap (λ n. n + 1) before.size;
  each = λ r inside below. elim (cases_eq (spot_index b r) (spot_index b s)) [
    | inl e ↦ (let one : s ≡ r = index_injective (b.cols + 2) s r spot.1 inside.1 (sym e) in
        subst (λ (q : Place). Has q (get_or (list ++ x ∷ []) (spot_index b q) lack)) one
        (subst (λ (o : X). Has s o) (sym (get_or_push list x lack (spot_index b s) before.size))
        here))
    | inr ne ↦ (let lower : spot_index b r < spot_index b s = omega arith in
        subst (λ (o : X). Has r o)
        (sym (get_or_append_left list (x ∷ []) lack (spot_index b r) (omega (arith, before.size))))
        (before.each r inside lower))
  ];
}

pub seen_push : {X : Type 0} (v : View X) (seen : Bounds) (none : X) (b : Bounds) (s : Place)
    (list : List X) (x : X) → IsSpot b s → AreSeenBelow v seen none b (spot_index b s) list →
    IsSeen v seen none b s x → AreSeenBelow v seen none b (spot_index b s + 1) (list ++ x ∷ [])
seen_push v seen none b s list x spot before here =
    made_push (IsSeen v seen none b) b s none list x spot before here

-- a spot is in row `row` if its index is one of that row's indexes
row_is : (width row : ℕ) (s : Place) → s.col < width → row * width ≤ index_of width s →
    index_of width s < row * width + width → s.row ≡ row
row_is width row s inside low high = elim (cases_lt s.row row) [
  | inl less ↦ (let up : (s.row + 1) * width ≤ row * width = mul-le-mul_right width (omega arith) in
      absurd (omega (arith, up)))
  | inr more ↦ elim (cases_eq s.row row) [
    | inl e ↦ e
    | inr ne ↦ (let up : (row + 1) * width ≤ s.row * width = mul-le-mul_right width (omega arith) in
        absurd (omega (arith, up)))
  ]
]

-- the value seen at a spot of the tile is that in the tile's row
row_spot : {X : Type 0} (v : View X) (seen : Bounds) (none : X) (b : Bounds) (s : Place) →
    b ≡ bounds_of v.cutting v.tile → IsHeld v.cutting b seen → IsInner b s →
    IsSeen v seen none b s (get_or (row_shown v (s.row - 1)) (s.col - 1) none)
row_spot v seen none b s e held inner = (
  λ p shows.
      let row : b.top + (s.row - 1) ≡ p.row = omega (arith, shows.0, inner.first_row) in
      let up : (b.top + (s.row - 1)) * v.cutting.cols ≡ p.row * v.cutting.cols =
      ap (λ (n : ℕ). n * v.cutting.cols) row in
      let at : (b.top + (s.row - 1)) * v.cutting.cols + b.left + (s.col - 1)
      ≡ index_of v.cutting.cols p = omega (arith, up, shows.1, inner.first_col) in
      row_has v none b (s.row - 1) (s.col - 1) e (omega (arith, inner.first_col, inner.last_col))
      ∙ ap (λ (n : ℕ). get_or v.cells n none) at
      ∙ sym (cond-true _ _ _ (in_bounds_from seen p (
        omega (arith, shows.0, inner.first_row, held.first_row),
        omega (arith, shows.0, inner.last_row, held.last_row),
        omega (arith, shows.1, inner.first_col, held.first_col),
        omega (arith, shows.1, inner.last_col, held.last_col),
      ))),
  λ off. absurd (elim off [
    | inl a ↦ omega (arith, a, inner.first_row)
    | inr a ↦ omega (arith, a, inner.first_col)
  ]),
)

pub seen_row : {X : Type 0} (v : View X) (seen : Bounds) (none : X) (b : Bounds) (row : ℕ)
    (list entries : List X) → b ≡ bounds_of v.cutting v.tile → IsHeld v.cutting b seen → 1 ≤ row →
    row ≤ b.rows → entries ≡ row_shown v (row - 1) → length entries ≡ b.cols →
    AreSeenBelow v seen none b (row * (b.cols + 2) + 1) list →
    AreSeenBelow v seen none b (row * (b.cols + 2) + 1 + b.cols) (list ++ entries)
seen_row {X = X} v seen none b row list entries e held low high are count before = record {
  size = length-append list entries ∙ ap (λ (n : ℕ). n + length entries) before.size
      ∙ ap (λ (n : ℕ). row * (b.cols + 2) + 1 + n) count;
  each = λ s spot below. elim (cases_lt (spot_index b s) (row * (b.cols + 2) + 1)) [
    | inl less ↦ subst (λ (o : X). IsSeen v seen none b s o) (sym
        (get_or_append_left list entries none (spot_index b s) (omega (arith, before.size, less))))
        (before.each s spot less)
    | inr past ↦
        (let here : s.row ≡ row =
        row_is (b.cols + 2) row s spot.1 (omega (arith, past)) (omega (arith, below)) in
        let up : s.row * (b.cols + 2) ≡ row * (b.cols + 2) =
        ap (λ (n : ℕ). n * (b.cols + 2)) here in
        let inner : IsInner b s =
        record {
          first_row = omega (arith, here, low);
          last_row = omega (arith, here, high);
          first_col = omega (arith, up, past);
          last_col = omega (arith, up, below);
        } in
        let at : spot_index b s - length list ≡ s.col - 1 =
        omega (arith, up, before.size, inner.first_col) in
        subst (λ (o : X). IsSeen v seen none b s o)
        (sym (get_or-append_right list entries (length list) (spot_index b s) none refl
        (omega (arith, before.size, past)) ∙ ap (λ (n : ℕ). get_or entries n none) at
        ∙ ap (λ (xs : List X). get_or xs (s.col - 1) none) (are
        ∙ ap (λ (n : ℕ). row_shown v (n - 1)) (sym here))))
        (row_spot v seen none b s e held inner))
  ];
}

-- a list made up to the last spot has the values of all spots
pub seen_whole : {X : Type 0} (v : View X) (seen : Bounds) (none : X) (b : Bounds) (end : ℕ)
    (list : List X) → end ≡ (b.rows + 2) * (b.cols + 2) → AreSeenBelow v seen none b end list →
    AreShown (entry_inside seen v.cutting.cols v.cells none) none b list
seen_whole v seen none b end list whole f =
    λ s spot. f.each s spot (omega (arith, spot_below b s spot))

pub held_by_grid : (c : Cutting) (tile : ℕ) (seen : Bounds) → IsCutting c → tile < tile_count c →
    seen ≡ make_bounds 0 0 c.rows c.cols → IsHeld c (bounds_of c tile) seen
held_by_grid c tile seen lawful below e =
    let inside = bounds_inside c tile lawful below in
    subst (λ (z : Bounds). IsHeld c (bounds_of c tile) z) (sym e) (record {
      first_row = omega arith;
      last_row = omega (arith, inside.rows_inside);
      first_col = omega arith;
      last_col = omega (arith, inside.cols_inside);
      rows_inside = omega arith;
      cols_inside = omega arith;
    })
