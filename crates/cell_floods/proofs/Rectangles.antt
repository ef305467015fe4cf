-- The paths in a rectangle of a terrain's cells are the walks of its net. So a flood of the net
-- finds the levels and the labels of the rectangle's cells.
use Rattle.std.proofs.lemmas.Option.{MatchOption-at_some, MatchOption-at_none}
use Rattle.std.proofs.Common.{◌≡◌, ◌≢◌, ℕ, zero, suc, ◌+◌, ◌-◌, ◌*◌, ◌<◌, ◌≤◌, ◌⊎◌, inl, inr, ℤ, pos, ◌≤ℤ◌, true, ◌||◌, List, [], ◌∷◌, length, get_or, Option, None, Some, IsSome, is_some, is_none, unwrap_or, ◌∙◌, sym, ap, subst, refl, arith}
use Rattle.std.specs.Int.{int_max}
use Rattle.std.specs.Int.Signed.{≤ℤ_refl}
use Rattle.std.proofs.lemmas.Int.{ints, clamps}
use Rattle.std.proofs.lemmas.Bool.{cases_eq, cases_order, or_cases, or_left, or_right, cond-true, cond-false, cases_Bool}
use Rattle.std.proofs.lemmas.Nat.{same_from_place}
use Rattle.std.proofs.lemmas.List.Elements.{All-contains}
use Rattle.std.proofs.lemmas.List.Folds.{Any-from_list_any, list_any_at}
use Rattle.terrain.proofs.Orders.{max_left, max_right, max_least, trans}
use Rattle.terrain.proofs.Heights.{height_is}
use Rattle.terrain.specs.Raster.{Terrain}
use Rattle.terrain.specs.Neighbours.{height_at, IsDataCell, Touches, IsNeighbour, HasGapAround, IsEnd, IsSink, height_of}
use Rattle.terrain.specs.declared.place.Place.{Place}
use Rattle.terrain.proofs.Places.{same_place}
use Rattle.drainage.specs.Filled.{IsPath, crest}
use Rattle.drainage.proofs.Heights.{height_below_crest}
use Rattle.drainage.proofs.FilledExists.{filled_height}
use Rattle.tiles.specs.declared.bounds.Bounds.{Bounds}
use Rattle.tiles.specs.Cutting.{IsInBounds}
use Rattle.floods.specs.declared.net.Spill.{Spill}
use Rattle.floods.specs.Walk.{IsWalk, walk_crest, last_node, IsFlooded}
use Rattle.cell_floods.specs.Cells.{Cells, cell_at, node_at, IsNetOf, IsAfter, IsBeside, IsCellJoin, cells_around, has_gap_around, is_sink, source_of, last_cell}
use Rattle.terrain.proofs.Options.{some_inside}
use Rattle.terrain.proofs.Options.{cases_option, none_some, none_done, none_from_is_some}
use Rattle.cell_floods.proofs.CellArcs.{all_beside, beside_around}
use Rattle.cell_floods.proofs.Borders.{above_row}

abbrev pub IsOnRim : Bounds → Place → Type 0
IsOnRim w p = (p.row ≡ w.top) ⊎ (p.row + 1 ≡ w.top + w.rows) ⊎ (p.col ≡ w.left)
    ⊎ (p.col + 1 ≡ w.left + w.cols)

abbrev pub IsGapSource : Terrain → Bounds → Place → Type 0
IsGapSource t w p = IsDataCell t p × (IsOnRim w p ⊎ HasGapAround t p)

abbrev pub IsRectangleSource : Terrain → Bounds → Place → Type 0
IsRectangleSource t w p = IsGapSource t w p ⊎ IsSink t p

pub end_is_source : (t : Terrain) (w : Bounds) (p : Place) → IsEnd t p → IsRectangleSource t w p
end_is_source t w p (inl edge) = inl (edge.0, inr edge.1)
end_is_source t w p (inr sink) = inr sink

-- A path whose cells after p lie in the rectangle, and which ends at a source of the rectangle.
abbrev pub IsRectanglePath : Terrain → Bounds → Place → List Place → Type 0
IsRectanglePath t w p [] = IsRectangleSource t w p
IsRectanglePath t w p (q ∷ rest) = IsNeighbour t p q × IsInBounds w q × IsRectanglePath t w q rest

next_row : (s r c d : ℕ) → d ≤ c + 1 → c ≤ d + 1 → IsAfter s (r * s + c) ((r + 1) * s + d)
next_row s r c d up down = elim (cases_order c d) [
  | inl same ↦ inr (inr (inl (omega arith)))
  | inr other ↦
      elim other [ inl less ↦ inr (inr (inr (omega arith))) | inr more ↦ inr (inl (omega arith)) ]
]

same_row : (s r c d : ℕ) → d ≤ c + 1 → c ≤ d + 1 → (c ≡ d → ⊥) → IsBeside s (r * s + c) (r * s + d)
same_row s r c d up down differ = elim (cases_order c d) [
  | inl same ↦ absurd (differ same)
  | inr other ↦
      elim other [ inl less ↦ inl (inl (omega arith)) | inr more ↦ inr (inl (omega arith)) ]
]

pub rows_beside : (s r c q d : ℕ) → q ≤ r + 1 → r ≤ q + 1 → d ≤ c + 1 → c ≤ d + 1 →
    (r ≡ q → c ≡ d → ⊥) → IsBeside s (r * s + c) (q * s + d)
rows_beside s r c q d up down right left differ = elim (cases_order r q) [
  | inl same ↦ subst (λ (n : ℕ). IsBeside s (r * s + c) (n * s + d)) same
      (same_row s r c d right left (differ same))
  | inr other ↦ elim other [
    | inl less ↦ let e : r + 1 ≡ q = omega arith in
        inl (subst (λ (n : ℕ). IsAfter s (r * s + c) (n * s + d)) e (next_row s r c d right left))
    | inr more ↦ let e : q + 1 ≡ r = omega arith in
        inr (subst (λ (n : ℕ). IsAfter s (q * s + d) (n * s + c)) e (next_row s q d c left right))
  ]
]

-- (q, d) is one column after (r, c) in the same row, or in the next row and at most one column off.
abbrev AreNear : ℕ → ℕ → ℕ → ℕ → Type 0
AreNear r c q d = ((q ≡ r) × (d ≡ c + 1)) ⊎ ((q ≡ r + 1) × (d ≤ c + 1) × (c ≤ d + 1))

after_rows : (s r c q d : ℕ) → c + 1 < s → d + 1 < s → IsAfter s (r * s + c) (q * s + d) →
    AreNear r c q d
after_rows s r c q d a b (inl e) =
    inl (same_from_place q d r (c + 1) s (omega arith) a (omega arith))
after_rows s r c q d a b (inr (inl e)) = let both = same_from_place q (d + 1) (r + 1) c s b
    (omega arith) (omega arith) in inr (both.0, omega (arith, both.1), omega (arith, both.1))
after_rows s r c q d a b (inr (inr (inl e))) =
    let both = same_from_place q d (r + 1) c s (omega arith) (omega arith) (omega arith) in
    inr (both.0, omega (arith, both.1), omega (arith, both.1))
after_rows s r c q d a b (inr (inr (inr e))) = let both = same_from_place q d (r + 1) (c + 1) s
    (omega arith) a (omega arith) in inr (both.0, omega (arith, both.1), omega (arith, both.1))

near_rows : (s r c b : ℕ) → 1 ≤ r → 1 ≤ c → IsBeside s (r * s + c) b → (q d : ℕ) × (q ≤ r + 1)
    × (r ≤ q + 1) × (d ≤ c + 1) × (c ≤ d + 1) × (b ≡ q * s + d)
near_rows s zero c b one low h = absurd (omega arith)
near_rows s (suc r) c b one low (inl (inl e)) =
    (suc r, c + 1, omega arith, omega arith, omega arith, omega arith, omega arith)
near_rows s (suc r) c b one low (inl (inr (inl e))) =
    (suc r + 1, c - 1, omega arith, omega arith, omega arith, omega arith, omega arith)
near_rows s (suc r) c b one low (inl (inr (inr (inl e)))) =
    (suc r + 1, c, omega arith, omega arith, omega arith, omega arith, omega arith)
near_rows s (suc r) c b one low (inl (inr (inr (inr e)))) =
    (suc r + 1, c + 1, omega arith, omega arith, omega arith, omega arith, omega arith)
near_rows s (suc r) c b one low (inr (inl e)) =
    (suc r, c - 1, omega arith, omega arith, omega arith, omega arith, omega arith)
near_rows s (suc r) c b one low (inr (inr (inl e))) =
    (r, c + 1, omega arith, omega arith, omega arith, omega arith, omega arith)
near_rows s (suc r) c b one low (inr (inr (inr (inl e)))) =
    (r, c, omega arith, omega arith, omega arith, omega arith, omega arith)
near_rows s (suc r) c b one low (inr (inr (inr (inr e)))) =
    (r, c - 1, omega arith, omega arith, omega arith, omega arith, omega arith)

-- The row of a place of the rectangle, counted with the border; `col_in` is the place's column.
abbrev row_in : Bounds → Place → ℕ
row_in w p = p.row - w.top + 1

abbrev col_in : Bounds → Place → ℕ
col_in w p = p.col - w.left + 1

pub touch_beside : (w : Bounds) (p q : Place) → IsInBounds w p → IsInBounds w q → Touches p q →
    p ≢ q → IsBeside (w.cols + 2) (node_at w p) (node_at w q)
touch_beside w p q a b t differ =
    rows_beside (w.cols + 2) (row_in w p) (col_in w p) (row_in w q) (col_in w q)
    (omega (arith, t.row_down, a.0, b.0)) (omega (arith, t.row_up, a.0, b.0))
    (omega (arith, t.col_right, a.2, b.2)) (omega (arith, t.col_left, a.2, b.2))
    (λ r c. differ (same_place p q (omega (arith, r, a.0, b.0)) (omega (arith, c, a.2, b.2))))

near_touch : (w : Bounds) (p q : Place) → IsInBounds w p → IsInBounds w q →
    AreNear (row_in w p) (col_in w p) (row_in w q) (col_in w q) → Touches p q × (p ≢ q)
near_touch w p q a b (inl h) = (
  record {
    row_down = omega (arith, a, b, h);
    row_up = omega (arith, a, b, h);
    col_right = omega (arith, a, b, h);
    col_left = omega (arith, a, b, h);
  },
  λ e. let c : p.col ≡ q.col = ap (λ (z : Place). z.col) e in absurd (omega (arith, a, b, h, c)),
)
near_touch w p q a b (inr h) = (
  record {
    row_down = omega (arith, a, b, h);
    row_up = omega (arith, a, b, h);
    col_right = omega (arith, a, b, h);
    col_left = omega (arith, a, b, h);
  },
  λ e. let r : p.row ≡ q.row = ap (λ (z : Place). z.row) e in absurd (omega (arith, a, b, h, r)),
)

turn : (p q : Place) → Touches p q × (p ≢ q) → Touches q p × (q ≢ p)
turn p q h = (
  record {
    row_down = h.0.row_up;
    row_up = h.0.row_down;
    col_right = h.0.col_left;
    col_left = h.0.col_right;
  },
  λ e. h.1 (sym e),
)

pub beside_touch : (w : Bounds) (p q : Place) → IsInBounds w p → IsInBounds w q →
    IsBeside (w.cols + 2) (node_at w p) (node_at w q) → Touches p q × (p ≢ q)
beside_touch w p q a b (inl h) = near_touch w p q a b (after_rows (w.cols + 2) (row_in w p)
    (col_in w p) (row_in w q) (col_in w q) (omega (arith, a)) (omega (arith, b)) h)
beside_touch w p q a b (inr h) = turn q p (near_touch w q p b a (after_rows (w.cols + 2)
    (row_in w q) (col_in w q) (row_in w p) (col_in w p) (omega (arith, b)) (omega (arith, a)) h))

pub node_injective : (w : Bounds) (p q : Place) → IsInBounds w p → IsInBounds w q →
    node_at w p ≡ node_at w q → p ≡ q
node_injective w p q a b e =
    let both = same_from_place (row_in w p) (col_in w p) (row_in w q) (col_in w q) (w.cols
    + 2) (omega (arith, a)) (omega (arith, b)) e in
    same_place p q (omega (arith, a, b, both.0)) (omega (arith, a, b, both.1))

none_is : {X : Type 0} (o : Option X) → is_none o ≡ true → o ≡ None
none_is None e = refl
none_is (Some x) e = absurd (cc)

pub data_is : {X : Type 0} (o : Option X) → IsSome o → (x : X) × (o ≡ Some x)
data_is None e = absurd (cc)
data_is (Some x) e = (x, refl)

-- A place of the rectangle is on its rim, or the rectangle has rows and columns on all four sides
-- of it.
pub cases_rim : (w : Bounds) (p : Place) → IsInBounds w p → IsOnRim w p ⊎ ((w.top + 1 ≤ p.row)
    × (p.row + 2 ≤ w.top + w.rows) × (w.left + 1 ≤ p.col) × (p.col + 2 ≤ w.left + w.cols))
cases_rim w p a = elim (cases_eq p.row w.top) [
  | inl top ↦ inl (inl top)
  | inr below ↦ elim (cases_eq (p.row + 1) (w.top + w.rows)) [
    | inl bottom ↦ inl (inr (inl bottom))
    | inr above ↦ elim (cases_eq p.col w.left) [
      | inl left ↦ inl (inr (inr (inl left)))
      | inr right ↦ elim (cases_eq (p.col + 1) (w.left + w.cols)) [
        | inl last ↦ inl (inr (inr (inr last)))
        | inr inner ↦ inr (omega (arith, a), omega (arith, a), omega (arith, a), omega (arith, a))
      ]
    ]
  ]
]

-- A place of the rectangle is on its rim, or all places that touch it lie in the rectangle.
pub beyond : (w : Bounds) (p q : Place) → IsInBounds w p → Touches p q →
    IsOnRim w p ⊎ IsInBounds w q
beyond w p q a t = elim (cases_rim w p a) [
  | inl rim ↦ inl rim
  | inr inner ↦ inr (
    omega (arith, inner, t.row_up),
    omega (arith, inner, t.row_down),
    omega (arith, inner, t.col_left),
    omega (arith, inner, t.col_right),
  )
]

-- The place at this row and column, counted with the border.
abbrev place_in : Bounds → ℕ → ℕ → Place
place_in w r c = record { row = w.top + r - 1; col = w.left + c - 1 }

node_of_place : (w : Bounds) (r c : ℕ) → 1 ≤ r → 1 ≤ c →
    node_at w (place_in w r c) ≡ r * (w.cols + 2) + c
node_of_place w r c a b =
    ap (λ n. n * (w.cols + 2) + (w.left + c - 1 - w.left + 1)) (back w.top r a)
    ∙ ap (λ n. r * (w.cols + 2) + n) (back w.left c b) where
      back : (x y : ℕ) → 1 ≤ y → x + y - 1 - x + 1 ≡ y
      back x y h = omega arith

-- A node of the border has no data.
border_none : (t : Terrain) (w : Bounds) (n : Cells) → IsNetOf t w n → (r c : ℕ) → c < w.cols + 2 →
    ((1 ≤ r) → (r ≤ w.rows) → (1 ≤ c) → (c ≤ w.cols) → ⊥) → cell_at n (r * (w.cols + 2) + c) ≡ None
border_none t w n net r c narrow outside = elim (cases_option (cell_at n (r * (w.cols + 2) + c))) [
  | inl none ↦ none
  | inr found ↦
      let p = net.only (r * (w.cols + 2) + c) (ap is_some found.1) in
      let both = same_from_place (row_in w p.0) (col_in w p.0) r c (w.cols
      + 2) (omega (arith, p.1)) narrow p.2 in
      absurd (outside (omega (arith, p.1, both.0)) (omega (arith, p.1, both.0))
      (omega (arith, p.1, both.1)) (omega (arith, p.1, both.1)))
]

-- A data cell of the rectangle beside a node without data is on the rectangle's rim or has a gap
-- around it (`IsGapSource`).
pub gap_is_source : (t : Terrain) (w : Bounds) (n : Cells) → IsNetOf t w n → (p : Place) →
    IsInBounds w p → IsDataCell t p → (b : ℕ) → IsBeside (w.cols + 2) (node_at w p) b →
    cell_at n b ≡ None → IsGapSource t w p
gap_is_source t w n net p a some b beside none = (
  some,
  elim (cases_rim w p a) [
    | inl rim ↦ inl rim
    | inr inner ↦
        let near =
        near_rows (w.cols + 2) (row_in w p) (col_in w p) b (omega arith) (omega arith) beside in
        let q = place_in w near.0 near.1 in
        let in_rectangle : IsInBounds w q = (
          omega (arith, near, inner, a),
          omega (arith, near, inner, a),
          omega (arith, near, inner, a),
          omega (arith, near, inner, a),
        ) in
        let touches : Touches p q =
        record {
          row_down = omega (arith, near, inner, a);
          row_up = omega (arith, near, inner, a);
          col_right = omega (arith, near, inner, a);
          col_left = omega (arith, near, inner, a);
        } in
        let here : node_at w q ≡ b = node_of_place w near.0 near.1 (omega (arith, near, inner, a))
        (omega (arith, near, inner, a)) ∙ sym near.6 in
        inr (inr (inr (
          q,
          touches,
          ap is_some (sym (net.inside q in_rectangle) ∙ ap (cell_at n) here ∙ none),
        )))
  ],
)

-- A place on the rim of the rectangle is beside a node without data.
rim_gap : (t : Terrain) (w : Bounds) (n : Cells) → IsNetOf t w n → (p : Place) → IsInBounds w p →
    IsOnRim w p → (b : ℕ) × IsBeside (w.cols + 2) (node_at w p) b × (cell_at n b ≡ None)
rim_gap t w n net p a (inl e) =
    let first : row_in w p ≡ 1 = omega (arith, e, a) in (
      0 * (w.cols + 2) + col_in w p,
      inr (inr (inr (inl (ap (λ r. r * (w.cols + 2) + col_in w p) first ∙ omega arith)))),
      border_none t w n net 0 (col_in w p) (omega (arith, a)) (λ one _ _ _. omega arith),
    )
rim_gap t w n net p a (inr (inl e)) = (
  (row_in w p + 1) * (w.cols + 2) + col_in w p,
  inl (inr (inr (inl (omega arith)))),
  border_none t w n net (row_in w p + 1) (col_in w p) (omega (arith, a)) (λ _ low _ _.
      omega (arith, e, a)),
)
rim_gap t w n net p a (inr (inr (inl e))) = (
  row_in w p * (w.cols + 2) + 0,
  inr (inl (omega (arith, e, a))),
  border_none t w n net (row_in w p) 0 (omega arith) (λ _ _ one _. omega arith),
)
rim_gap t w n net p a (inr (inr (inr e))) = (
  row_in w p * (w.cols + 2) + (col_in w p + 1),
  inl (inl (omega arith)),
  border_none t w n net (row_in w p) (col_in w p + 1) (omega (arith, a)) (λ _ _ _ low.
      omega (arith, e, a)),
)

pub source_gap : (t : Terrain) (w : Bounds) (n : Cells) → IsNetOf t w n → (p : Place) →
    IsInBounds w p → IsGapSource t w p → (b : ℕ) × IsBeside (w.cols + 2) (node_at w p) b
    × (cell_at n b ≡ None)
source_gap t w n net p a source = elim source.1 [
  | inl rim ↦ rim_gap t w n net p a rim
  | inr gap ↦ elim gap [
    | inl north ↦ rim_gap t w n net p a (inl (omega (arith, a)))
    | inr other ↦ elim other [
      | inl west ↦ rim_gap t w n net p a (inr (inr (inl (omega (arith, a)))))
      | inr some_gap ↦ at some_gap.0 some_gap.1 (none_from_is_some _ some_gap.2)
    ]
  ]
] where
  at : (q : Place) → Touches p q → height_at t q ≡ None →
      (b : ℕ) × IsBeside (w.cols + 2) (node_at w p) b × (cell_at n b ≡ None)
  at q touches none = elim (beyond w p q a touches) [
    | inl rim ↦ rim_gap t w n net p a rim
    | inr in_rectangle ↦ (
      node_at w q,
      touch_beside w p q a in_rectangle touches (λ e.
          none_done (height_at t q) none (subst (IsDataCell t) e source.0)),
      net.inside q in_rectangle ∙ none,
    )
  ]

-- A source of the rectangle is a source of the net, at its own height.
pub source_there : (t : Terrain) (w : Bounds) (n : Cells) → IsNetOf t w n → (p : Place) →
    IsInBounds w p → IsRectangleSource t w p → source_of n (node_at w p) ≡ height_at t p
source_there t w n net p a (inr sink) = cond-true _ _ _
    (or_right (has_gap_around n (node_at w p)) _ ((net.sinks p a).1 sink.1)) ∙ net.inside p a
source_there t w n net p a (inl source) =
    let gap = source_gap t w n net p a source in
    let beside = subst (λ s. IsBeside s (node_at w p) gap.0) (sym net.stride) gap.1 in
    let above : n.stride < node_at w p =
    subst (λ s. s < node_at w p) (sym net.stride) (above_row w p) in
    let at = beside_around n.stride (node_at w p) gap.0 above beside in
    let found = list_any_at (λ b. is_none (cell_at n b)) (cells_around n.stride
    (node_at w p)) at.0 gap.0 at.1 (ap (λ b. is_none (cell_at n b)) at.2 ∙ ap is_none gap.2) in
    cond-true _ _ _ (or_left _ (is_sink n.sinks (node_at w p)) found) ∙ net.inside p a

pub source_back : (t : Terrain) (w : Bounds) (n : Cells) → IsNetOf t w n → (p : Place) →
    IsInBounds w p → (h : ℤ) → source_of n (node_at w p) ≡ Some h → IsRectangleSource t w p
    × (height_at t p ≡ Some h)
source_back t w n net p a h e =
    elim (cases_Bool (has_gap_around n (node_at w p) || is_sink n.sinks (node_at w p))) [
      | inl either ↦
          let height : height_at t p ≡ Some h = sym (net.inside p a) ∙ sym (cond-true _ _ _ either)
          ∙ e in
          elim (or_cases (has_gap_around n (node_at w p)) (is_sink n.sinks (node_at w p)) either) [
            | inl gap ↦
                let found = Any-from_list_any (λ b.
                is_none (cell_at n b)) (cells_around n.stride (node_at w p)) gap in
                let above : n.stride < node_at w p =
                subst (λ s. s < node_at w p) (sym net.stride) (above_row w p) in
                let beside =
                All-contains (IsBeside n.stride (node_at w p)) (cells_around n.stride (node_at w p))
                found.1 (all_beside n.stride (node_at w p) above) (found.0, found.2, found.3) in (
                  inl (gap_is_source t w n net p a (ap is_some height) found.1 (subst (λ s.
                      IsBeside s (node_at w p) found.1) net.stride beside) (none_is _ found.4)),
                  height,
                )
            | inr sink ↦ (inr (ap is_some height, (net.sinks p a).0 sink), height)
          ]
      | inr neither ↦ none_some _ h (cond-false _ _ _ neither) e
    ]

pub path_data : (t : Terrain) (w : Bounds) (p : Place) (rest : List Place) →
    IsRectanglePath t w p rest → IsDataCell t p
path_data t w p [] (inl source) = source.0
path_data t w p [] (inr sink) = sink.0
path_data t w p (q ∷ rest) path = path.0.from_data

pub path_end : (t : Terrain) (w : Bounds) (p : Place) (rest : List Place) → IsInBounds w p →
    IsRectanglePath t w p rest → IsInBounds w (last_cell p rest)
path_end t w p [] inside path = inside
path_end t w p (q ∷ rest) inside path = path_end t w q rest path.1 path.2

joined_crest : (h k c : ℤ) → k ≤ℤ c → int_max (int_max k h) c ≡ int_max h c
joined_crest h k c low = omega (arith, ints, clamps)

-- A path in the rectangle is a walk of its net, of equal crest and to the same end.
pub walk_of : (t : Terrain) (w : Bounds) (n : Cells) → IsNetOf t w n →
    (p : Place) (rest : List Place) → IsInBounds w p → IsRectanglePath t w p rest →
    (walk : List Spill) × IsWalk (IsCellJoin n) (source_of n) (node_at w p) walk
    × (walk_crest (source_of n) (node_at w p) walk ≡ crest t p rest)
    × (last_node (node_at w p) walk ≡ node_at w (last_cell p rest))
walk_of t w n net p [] inside path =
    let there = source_there t w n net p inside path in (
      [],
      ap is_some there ∙ path_data t w p [] path,
      ap (λ (o : Option ℤ). unwrap_or o (pos 0)) there,
      refl,
    )
walk_of t w n net p (q ∷ rest) inside path =
    let further = walk_of t w n net q rest path.1 path.2 in
    let from = data_is (height_at t p) path.0.from_data in
    let to = data_is (height_at t q) path.0.to_data in
    let high : to.0 ≤ℤ crest t q rest =
    subst (λ z. z ≤ℤ crest t q rest) (height_is t q to.0 to.1) (height_below_crest t q rest) in
    let join : IsCellJoin n (node_at w p) (node_at w q) (int_max to.0 from.0) = record {
      beside = subst (λ s. IsBeside s (node_at w p) (node_at w q)) (sym net.stride)
          (touch_beside w p q inside path.1 path.0.touches path.0.different);
      from_height = from.0;
      to_height = to.0;
      from_cell = net.inside p inside ∙ from.1;
      to_cell = net.inside q path.1 ∙ to.1;
      greater = refl;
    } in (
      record { to = node_at w q; height = int_max to.0 from.0 } ∷ further.0,
      (join, further.1),
      ap (λ z. int_max (int_max to.0 from.0) z) further.2
          ∙ joined_crest from.0 to.0 (crest t q rest) high
          ∙ ap (λ z. int_max z (crest t q rest)) (sym (height_is t p from.0 from.1)),
      further.3,
    )

-- Places of joined nodes are neighbours.
pub joined_neighbours : (t : Terrain) (w : Bounds) (n : Cells) → IsNetOf t w n → (p q : Place)
    (a b : ℕ) (h : ℤ) → IsInBounds w p → IsInBounds w q → node_at w p ≡ a → node_at w q ≡ b →
    IsCellJoin n a b h → IsNeighbour t p q
joined_neighbours t w n net p q a b h inside within from to join =
    let near = beside_touch w p q inside within
    (subst (λ s. IsBeside s (node_at w p) (node_at w q)) net.stride (rw (from, to) join.beside)) in
    record {
      different = near.1;
      touches = near.0;
      from_data = ap is_some (sym (net.inside p inside) ∙ ap (cell_at n) from ∙ join.from_cell);
      to_data = ap is_some (sym (net.inside q within) ∙ ap (cell_at n) to ∙ join.to_cell);
    }

-- A walk of the net is a path in the rectangle, of equal crest and to the same end.
pub path_of : (t : Terrain) (w : Bounds) (n : Cells) → IsNetOf t w n → (walk : List Spill)
    (p : Place) → IsInBounds w p → IsWalk (IsCellJoin n) (source_of n) (node_at w p) walk →
    (rest : List Place) × IsRectanglePath t w p rest × (crest t p rest ≡ walk_crest (source_of n)
    (node_at w p) walk) × (last_node (node_at w p) walk ≡ node_at w (last_cell p rest))
path_of t w n net [] p inside walk =
    let h = data_is (source_of n (node_at w p)) walk in
    let back = source_back t w n net p inside h.0 h.1 in (
      [],
      back.0,
      height_is t p h.0 back.1 ∙ sym (ap (λ (o : Option ℤ). unwrap_or o (pos 0)) h.1),
      refl,
    )
path_of t w n net (step ∷ steps) p inside walk =
    let join = walk.0 in
    let q = net.only step.to (ap is_some join.to_cell) in
    let further = path_of t w n net steps q.0 q.1
    (subst (λ a. IsWalk (IsCellJoin n) (source_of n) a steps) (sym q.2) walk.1) in
    let from : height_at t p ≡ Some join.from_height = sym (net.inside p inside) ∙ join.from_cell in
    let to : height_at t q.0 ≡ Some join.to_height = sym (net.inside q.0 q.1) ∙ ap (cell_at n) q.2
    ∙ join.to_cell in
    let next = joined_neighbours t w n net p q.0 (node_at w p) step.to step.height inside q.1 refl q.2
    join in
    let high : join.to_height ≤ℤ crest t q.0 further.0 = subst (λ z. z ≤ℤ crest t q.0 further.0)
    (height_is t q.0 join.to_height to) (height_below_crest t q.0 further.0) in (
      q.0 ∷ further.0,
      (next, q.1, further.1),
      ap (λ z. int_max z (crest t q.0 further.0)) (height_is t p join.from_height from)
          ∙ sym (joined_crest join.from_height join.to_height (crest t q.0 further.0) high)
          ∙ ap (λ z. int_max z (crest t q.0 further.0)) join.greater
          ∙ ap (λ z. int_max step.height z) (further.2
          ∙ ap (λ a. walk_crest (source_of n) a steps) q.2),
      ap (λ a. last_node a steps) (sym q.2) ∙ further.3,
    )

-- A path from a place of the rectangle gives a path in the rectangle, at no greater crest.
pub path_in_rectangle : (t : Terrain) (w : Bounds) (p : Place) (rest : List Place) →
    IsInBounds w p → IsPath t p rest → (inner : List Place) × IsRectanglePath t w p inner
    × (crest t p inner ≤ℤ crest t p rest)
path_in_rectangle t w p [] inside path = ([], end_is_source t w p path, ≤ℤ_refl _)
path_in_rectangle t w p (q ∷ rest) inside path = elim (beyond w p q inside path.0.touches) [
  | inl rim ↦ ([], inl (path.0.from_data, inl rim), max_left (height_of t p) (crest t q rest))
  | inr there ↦
      let further = path_in_rectangle t w q rest there path.1 in (
        q ∷ further.0,
        (path.0, there, further.1),
        max_least _ _ _ (max_left (height_of t p) (crest t q rest))
            (trans _ _ _ further.2 (max_right (height_of t p) (crest t q rest))),
      )
]

-- The level is the least crest of the paths in the rectangle, and a path of that crest ends at the
-- label. A source whose level is its own height is its own label.
pub record IsRectangleLevel (t : Terrain) (w : Bounds) (p : Place) (level : ℤ) (label : Place) :
    Type 0 where
  pub reached : (rest : List Place) × IsRectanglePath t w p rest × (crest t p rest ≡ level)
      × (last_cell p rest ≡ label)
  pub least : (rest : List Place) → IsRectanglePath t w p rest → level ≤ℤ crest t p rest
  pub own : IsRectangleSource t w p → height_at t p ≡ Some level → label ≡ p

-- A data cell of the rectangle has its level and label in the flood of the net.
pub record HasRectangleLevel (t : Terrain) (w : Bounds) (levels : List (Option ℤ))
    (labels : List (Option ℕ)) (p : Place) : Type 0 where
  pub level : ℤ
  pub label : Place
  pub level_is : get_or levels (node_at w p) None ≡ Some level
  pub label_is : get_or labels (node_at w p) None ≡ Some (node_at w label)
  pub inside : IsInBounds w label
  pub right : IsRectangleLevel t w p level label

pub rectangle_level :
    (t : Terrain) (w : Bounds) (n : Cells) (levels : List (Option ℤ)) (labels : List (Option ℕ)) →
    IsNetOf t w n → IsFlooded (IsCellJoin n) (source_of n) (length n.cells) levels labels →
    (p : Place) → IsInBounds w p → IsDataCell t p → HasRectangleLevel t w levels labels p
rectangle_level t w n levels labels net flooded p inside some =
    let a = node_at w p in
    let below = some_inside n.cells a (data_is (height_at t p) some).0 (net.inside p inside
    ∙ (data_is (height_at t p) some).1) in
    elim (cases_option (get_or levels a None)) [
      | inl none ↦
          let edge = (filled_height t p some).1.reached in
          let path = path_in_rectangle t w p edge.0 inside edge.1 in
          let walk = walk_of t w n net p path.0 inside path.1 in
          absurd ((MatchOption-at_none _ _ none (flooded.each a below)).0 walk.0 walk.1)
      | inr found ↦
          let here = MatchOption-at_some _ _ found.0 found.1 (flooded.each a below) in
          let is_level = here.2 in
          let path = path_of t w n net is_level.reached.0 p inside is_level.reached.1 in
          let label = last_cell p path.0 in
          let label_node : here.0 ≡ node_at w label = sym is_level.reached.3 ∙ path.3 in
          let label_inside = path_end t w p path.0 inside path.1 in
          record {
            level = found.0;
            label = label;
            level_is = found.1;
            label_is = here.1 ∙ ap Some label_node;
            inside = label_inside;
            right = record {
              reached = (path.0, path.1, path.2 ∙ is_level.reached.2, refl);
              least = λ rest is_path. let walk = walk_of t w n net p rest inside is_path in
                  subst (λ z. found.0 ≤ℤ z) walk.2 (is_level.least walk.0 walk.1);
              own = λ source height. node_injective w label p label_inside inside (sym label_node
                  ∙ is_level.own (source_there t w n net p inside source ∙ height));
            };
          }
    ]

-- A cell without data has no level and no label.
pub rectangle_none :
    (t : Terrain) (w : Bounds) (n : Cells) (levels : List (Option ℤ)) (labels : List (Option ℕ)) →
    IsNetOf t w n → IsFlooded (IsCellJoin n) (source_of n) (length n.cells) levels labels →
    (p : Place) → IsInBounds w p → height_at t p ≡ None → node_at w p < length n.cells →
    (get_or levels (node_at w p) None ≡ None) × (get_or labels (node_at w p) None ≡ None)
rectangle_none t w n levels labels net flooded p inside none below =
    elim (cases_option (get_or levels (node_at w p) None)) [
      | inl no_level ↦
          (no_level, (MatchOption-at_none _ _ no_level (flooded.each (node_at w p) below)).1)
      | inr found ↦
          let here = MatchOption-at_some _ _ found.0 found.1 (flooded.each (node_at w p) below) in
          let path = path_of t w n net here.2.reached.0 p inside here.2.reached.1 in
          none_done (height_at t p) none (path_data t w p path.0 path.1)
    ]
