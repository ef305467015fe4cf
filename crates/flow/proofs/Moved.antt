-- A cell's move leads to the cell to which the cell is linked. So the moves of all cells lead along
-- the tile's links.
use borrow.Author.Count.{below_more}
use Rattle.std.proofs.Common.{◌≡◌, ℕ, ◌+◌, ◌-◌, ◌*◌, ◌/◌, ◌%◌, ◌^◌, ◌<◌, ◌≤◌, ◌⊎◌, inl, inr, List, [], ◌∷◌, length, get_or, map, set, Option, None, Some, unwrap_or, false, cond, sym, ap, subst, refl, ◌∙◌, arith}
use Rattle.std.specs.Option.{option_and_then}
use Rattle.std.proofs.Math.ListN.{length-map}
use Rattle.std.proofs.Math.Nat.{mul-le-mul}
use Rattle.std.proofs.lemmas.Bool.{cases_Bool, cases_eq, cases_lt, cond-true, cond-false}
use Rattle.std.proofs.lemmas.Grind.{same_number_lists}
use Rattle.std.proofs.lemmas.List.{get_or_default, get_or_past, get_or-map, get_or-set_same, get_or-set_other, length-set, same_lists}
use Rattle.std.proofs.lemmas.List.FromFn.{get_or-map-range_with_len, length-map-range_with_len}
use Rattle.std.proofs.lemmas.Nat.{mul-add-lt}
use Rattle.std.proofs.lemmas.Option.{none-some}
use Rattle.terrain.specs.Neighbours.{Touches}
use Rattle.terrain.specs.Ways.{way_of, code_of, ways_from, place_on, place_toward, around_index}
use Rattle.terrain.specs.declared.place.Place.{Place}
use Rattle.terrain.proofs.Options.{cases_option}
use Rattle.terrain.proofs.Places.{make_place}
use Rattle.terrain.proofs.EightWays.{Touches-from_ways, eight, on_ways}
use Rattle.tiles.specs.declared.bounds.Bounds.{Bounds}
use Rattle.tiles.specs.Cutting.{longest_axis, IsInBounds, is_in_bounds, index_in, place_in}
use Rattle.tiles.proofs.Cut.{in_bounds_from, in_bounds_parts}
use Rattle.tiles.specs.RimNumbers.{stride, side_number, side_place}
use Rattle.tiles.proofs.RimNumbered.{IsSide, side_below, side_back}
use Rattle.tiles.proofs.TileOrder.{place_in_bounds, index_in_below, index_in-place_in}
use Rattle.flow.specs.TileLinks.{IsInteriorAt, EndsInLargestGrid, link_by, links_by, reach, code_numbered, code_told, moved_by, AreMoves, IsLeading, IsMove, AreMovesOf, IsInteriorMove, AreInteriorMoves}
use Rattle.flow.proofs.Listed.{place_in_row}

toward_touches : (p q : Place) (code : ℕ) → place_toward code p ≡ Some q → Touches p q
toward_touches p q code e = elim (cases_option (way_of code)) [
  | inl none ↦ absurd (none-some q (sym (ap (option_and_then (λ way. place_on way p)) none) ∙ e))
  | inr way ↦ (let at = sym (ap (option_and_then (λ way. place_on way p)) way.1) ∙ e in
      elim (cases_lt way.0 8) [
        | inl below ↦ (Touches-from_ways p q (way.0, below, get_or_default (ways_from p) _ _ None below ∙ at)).0
        | inr far ↦ absurd (none-some q (sym (get_or_past (ways_from p) _ None far) ∙ at))
      ])
]

-- The place to which a code leads from p; p if it leads to none.
abbrev pub led : Place → Option ℕ → Place
led p code = unwrap_or (option_and_then (λ c. place_toward c p) code) p

touches_self : (p : Place) → Touches p p
touches_self p = omega arith

pub next_touches : (p : Place) (code : Option ℕ) → Touches p (led p code)
next_touches p None = touches_self p
next_touches p (Some c) = elim (cases_option (place_toward c p)) [
  | inl none ↦ rw none (touches_self p)
  | inr q ↦ rw q.1 (toward_touches p _ c q.1)
]

pub few_cells : (b : Bounds) → b.top + b.rows ≤ longest_axis → b.left + b.cols ≤ longest_axis → b.rows * b.cols ≤ 2 ^ 24
few_cells b rows cols =
    let r : b.rows ≤ 4096 = omega arith in
    let k : b.cols ≤ 4096 = omega arith in
    let most = mul-le-mul r k in
    omega arith

-- What a move of these parts reaches and tells.
reach_parts : (cols i down right n : ℕ) → right < 4 → n < 16 → reach cols i (64 * down + right + 4 * n) ≡ i + down *
    cols + right
reach_parts cols i down right n few below =
    let rows : (64 * down + right + 4 * n) / 64 ≡ down = omega arith in
    let across : (64 * down + right + 4 * n) % 4 ≡ right = omega arith in
    omega (arith, ap (λ k. k * cols) rows)

told_parts : (down right n : ℕ) → right < 4 → n < 16 → code_told (64 * down + right + 4 * n) ≡ code_numbered n
told_parts down right n few below = ap code_numbered (omega arith)

pub stays : {b : Bounds} {i : ℕ} {code : Option ℕ} (n : ℕ) → n < 16 → code_numbered n ≡ code → link_by b i code ≡ i →
    IsMove b i code (65 + 4 * n)
stays {b} {i} n below told stay = record {
  leads = omega (arith, reach_parts b.cols i 1 1 n (omega arith) below);
  tells = told_parts 1 1 n (omega arith) below ∙ told;
}

module _ (b : Bounds) (i : ℕ) {p : Place} (at : p ≡ place_in b i) (code : Option ℕ) {q : Place} (is : q ≡ led p code)
  where
    linked : link_by b i code ≡ cond (is_in_bounds b q) (index_in b q) i
    linked = sym (ap (λ z. cond (is_in_bounds b z) (index_in b z) i) (is ∙ ap (λ z. led z code) at))

    link_inside : IsInBounds b q → link_by b i code ≡ index_in b q
    link_inside inside = linked ∙ cond-true _ _ _ (in_bounds_from b q inside)

    pub stay_outside : is_in_bounds b q ≡ false → link_by b i code ≡ i
    stay_outside out = linked ∙ cond-false _ _ i out

    pub stay_at : q ≡ p → link_by b i code ≡ i
    stay_at same = elim (cases_Bool (is_in_bounds b q)) [
      | inl y ↦ omega (arith, link_inside (in_bounds_parts b q y), ap (index_in b) (same ∙ at), index_in-place_in b i)
      | inr out ↦ stay_outside out
    ]

    pub down_few : (q.row + 1 - p.row ≤ 2) × (p.row ≤ q.row + 1)
    down_few = let t = rw (← is) at (next_touches p code) in
        (omega arith, t.row_up)

    pub right_few : (q.col + 1 - p.col ≤ 2) × (p.col ≤ q.col + 1)
    right_few = let t = rw (← is) at (next_touches p code) in
        (omega arith, t.col_left)

    pub moves_there : (n : ℕ) → n < 16 → code_numbered n ≡ code → IsInBounds b p → IsInBounds b q →
        IsMove b i code (64 * (q.row + 1 - p.row) + (q.col + 1 - p.col) + 4 * n)
    moves_there n few told here inside =
        let rows : q.row - b.top + 1 ≡ p.row - b.top + (q.row + 1 - p.row) = omega (arith, down_few) in
        record {
          leads = omega (
            arith,
            reach_parts b.cols i (q.row + 1 - p.row) (q.col + 1 - p.col) n (omega (arith, right_few)) few,
            right_few,
            strides _ _ _ b.cols rows,
            sym (index_in-place_in b i) ∙ ap (index_in b) (sym at),
            link_inside,
          );
          tells = told_parts _ _ n (omega (arith, right_few)) few ∙ told;
        }
      where
        strides : (x y d c : ℕ) → y + 1 ≡ x + d → y * c + c ≡ x * c + d * c
        strides x y d c e = omega (arith, ap (λ n. n * c) e)

-- The moves of interior cells, by the numbers of their codes.
abbrev pub interior_moves : List ℕ
interior_moves = 66 ∷ 134 ∷ 137 ∷ 140 ∷ 80 ∷ 20 ∷ 25 ∷ 30 ∷ 97 ∷ 101 ∷ []

way_reach : (cols i way : ℕ) → way < 8 → cols + 1 ≤ i → reach cols i (get_or interior_moves way 0) ≡ get_or
    (around_index cols i) way 0 + (cols + 1)
way_reach cols i way below high = eight (λ way. reach cols i (get_or interior_moves way 0) ≡ get_or
    (around_index cols i) way 0 + (cols + 1)) (omega arith) (omega arith) (omega arith) (omega arith) (omega arith)
    (omega arith) (omega arith) (omega arith) way below

-- The code of a number below 8 has this number as direction.
way_told : (n : ℕ) → n < 8 → (way_of (code_of (Some n)) ≡ Some n) × (code_numbered n ≡ Some (code_of (Some n)))
way_told = eight (λ n. (way_of (code_of (Some n)) ≡ Some n) × (code_numbered n ≡ Some (code_of (Some n)))) (refl, refl)
    (refl, refl) (refl, refl) (refl, refl) (refl, refl) (refl, refl) (refl, refl) (refl, refl)

ten : (P : ℕ → Type 0) → ((n : ℕ) → n < 8 → P n) → P 8 → P 9 → (n : ℕ) → n < 10 → P n
ten P ways eighth ninth n below = elim (cases_lt n 8) [
  | inl way ↦ ways n way
  | inr high ↦ elim (cases_eq n 8) [
    | inl is ↦ rw is eighth
    | inr other ↦ subst P (omega arith) ninth
  ]
]

module _ {b : Bounds} {r k : ℕ} (interior : IsInteriorAt b r k) where
  abbrev here : Place
  here = make_place (b.top + r) (b.left + k)

  here_is : here ≡ place_in b (r * b.cols + k)
  here_is = sym (place_in_row b r k (omega arith))

  at_here : r * b.cols + k ≡ (b.top + r - b.top) * b.cols + (b.left + k - b.left)
  at_here = let row : b.top + r - b.top ≡ r = omega arith in
      omega (arith, ap (λ n. n * b.cols) row)

  past_first : b.cols + 1 ≤ r * b.cols + k
  past_first =
      let more : 1 * b.cols ≤ r * b.cols = mul-le-mul (omega arith) (omega arith) in
      omega arith

  stays_interior : (code : Option ℕ) → option_and_then (λ c. place_toward c here) code ≡ None →
      link_by b (r * b.cols + k) code ≡ r * b.cols + k
  stays_interior code none = stay_at b _ here_is code refl (cc)

  goes_on_way : (n way : ℕ) → way_of n ≡ Some way → way < 8 → IsLeading b (r * b.cols + k) (Some n)
      (get_or interior_moves way 0)
  goes_on_way n way is below =
      let q = on_ways b.top b.left b.cols (r * b.cols + k) here (b.top + r - 1) (b.left + k - 1) (omega arith)
      (omega arith) (omega arith) (omega arith) at_here way below in
      way_reach b.cols (r * b.cols + k) way below past_first ∙ ap (λ (n : ℕ). n + (b.cols + 1)) (sym q.1.index ∙
      sym (link_inside b (r * b.cols + k) here_is (Some n)
      (sym (ap (λ (o : Option ℕ). unwrap_or (option_and_then (λ way. place_on way here) o) here) is ∙
      ap (λ o. unwrap_or o here) q.1.on)) (omega arith, omega arith, omega arith, omega arith)))

  goes : (n : ℕ) → n < 10 → IsLeading b (r * b.cols + k) (code_numbered n) (get_or interior_moves n 0)
  goes = ten (λ n. IsLeading b (r * b.cols + k) (code_numbered n) (get_or interior_moves n 0))
      (λ n below. rw (way_told n below).1 (goes_on_way _ n (way_told n below).0 below))
      (omega (arith, stays_interior (Some 0) refl)) (omega (arith, stays_interior None refl))

interior_told : (n : ℕ) → n < 10 → code_told (get_or interior_moves n 0) ≡ code_numbered n
interior_told = ten (λ n. code_told (get_or interior_moves n 0) ≡ code_numbered n)
    (eight (λ n. code_told (get_or interior_moves n 0) ≡ code_numbered n) refl refl refl refl refl refl refl refl) refl
    refl

pub moves_inside : {code : Option ℕ} (n : ℕ) → n < 10 → code_numbered n ≡ code →
    IsInteriorMove code (get_or interior_moves n 0)
moves_inside {code} n below told b row col interior = record {
  leads = rw (← told) (goes interior n below);
  tells = interior_told n below ∙ told;
}

link_below : (b : Bounds) (i : ℕ) (code : Option ℕ) → i < b.rows * b.cols → link_by b i code < b.rows * b.cols
link_below b i code h =
    let q = led (place_in b i) code in
    elim (cases_Bool (is_in_bounds b (led (place_in b i) code))) [
      | inl y ↦ omega (arith, cond-true _ (index_in b q) i y, index_in_below b q (in_bounds_parts b q y))
      | inr n ↦ omega (arith, cond-false _ (index_in b q) i n)
    ]

-- If P holds of an entry, and of x at index k, it holds of that entry once entry k is x.
set_kept : (P : ℕ → ℕ → Type 0) (xs : List ℕ) (k x i : ℕ) → k < length xs → P k x → P i (get_or xs i 0) →
    P i (get_or (set xs k x) i 0)
set_kept P xs k x i below here was = elim (cases_eq i k) [
  | inl same ↦ rw same (rw (get_or-set_same) here)
  | inr other ↦ rw (get_or-set_other) was
]

pub each_set : (P : ℕ → ℕ → Type 0) (xs : List ℕ) (k x : ℕ) → k < length xs → P k x →
    ((i : ℕ) → i < k → P i (get_or xs i 0)) → (i : ℕ) → i < k + 1 → P i (get_or (set xs k x) i 0)
each_set P xs k x below here each = below_more (λ i. P i _) k (λ i early. set_kept P xs k x i below here (each i early))
    (rw (get_or-set_same) here)

-- The list has the move of cell i.
abbrev pub MoveAt : Bounds → List (Option ℕ) → List ℕ → ℕ → Type 0
MoveAt b cells moves i = IsMove b i (get_or cells i None) (get_or moves i 0)

-- The moves of the interior cells, and of the rim cells with the first `count` side numbers.
pub record AreMovesUpTo (b : Bounds) (cells : List (Option ℕ)) (count : ℕ) (moves : List ℕ) : Type 0 where
  pub size : length moves ≡ b.rows * b.cols
  pub interior : (row col : ℕ) → IsInteriorAt b row col → MoveAt b cells moves (row * b.cols + col)
  pub sides : (side : ℕ) → side < count → MoveAt b cells moves (index_in b (side_place b b side))

pub moves_first : {b : Bounds} {cells : List (Option ℕ)} {moves : List ℕ} → length cells ≡ b.rows * b.cols →
    AreInteriorMoves cells moves → AreMovesUpTo b cells 0 moves
moves_first {b} size s = record {
  size = cc;
  interior = λ row col at.
      let high : row < b.rows = omega arith in
      let wide : col < b.cols = omega arith in
      s.each _ (omega (arith, mul-add-lt row _ col _ high wide)) b row col at;
  sides = λ side none. absurd (omega arith);
}

pub moves_next : {b : Bounds} {cells : List (Option ℕ)} {moves : List ℕ} (side move : ℕ) →
    let k = index_in b (side_place b b side) in
    k < b.rows * b.cols → IsMove b k (get_or cells k None) move → AreMovesUpTo b cells side moves →
    AreMovesUpTo b cells (side + 1) (set moves k move)
moves_next {b} {cells} {moves} side move below here s =
    let k = index_in b (side_place b b side) in
    let P : ℕ → ℕ → Type 0 = λ i move. IsMove b i (get_or cells i None) move in
    let inside : k < length moves = omega arith in
    record {
      size = cc (length-set moves k move);
      interior = λ row col at. set_kept P moves k move _ inside here (s.interior row col at);
      sides = below_more (λ j. MoveAt b cells (set moves k move) (index_in b (side_place b b j))) side
          (λ j early. set_kept P moves k move _ inside here (s.sides j early)) (rw (get_or-set_same) here);
    }

-- A cell is interior, or has a side number.
abbrev HasSide : Bounds → ℕ → Type 0
HasSide b i = (side : ℕ) × (side < stride b) × (index_in b (side_place b b side) ≡ i)

abbrev IsInterior : Bounds → ℕ → Type 0
IsInterior b i = (row : ℕ) × (col : ℕ) × IsInteriorAt b row col × (row * b.cols + col ≡ i)

cases_rim : (b : Bounds) (i : ℕ) → 1 ≤ b.cols → i < b.rows * b.cols → HasSide b i ⊎ IsInterior b i
cases_rim b i some_col below =
    let p = place_in b i in
    let here = place_in_bounds b i some_col below in
    let rim : IsSide b (place_in b i) → HasSide b i = λ side. (
      side_number b b p,
      side_below b b p (omega arith) (omega arith) here,
      cc (side_back b b p (omega arith) (omega arith) here side, index_in-place_in b i),
    ) in
    elim (cases_eq (place_in b i).row b.top) [
      | inl top ↦ inl (rim (λ a _ _. absurd (a top)))
      | inr low ↦ elim (cases_eq ((place_in b i).row + 1) (b.top + b.rows)) [
        | inl bottom ↦ inl (rim (λ _ a _. absurd (a bottom)))
        | inr high ↦ elim (cases_eq (place_in b i).col b.left) [
          | inl left ↦ inl (rim (λ _ _ a. absurd (a left)))
          | inr after ↦ elim (cases_eq ((place_in b i).col + 1) (b.left + b.cols)) [
            | inl right ↦ inl (rim (λ _ _ _. right))
            | inr before ↦ inr (i / b.cols, i % b.cols, omega arith, omega arith)
          ]
        ]
      ]
    ]

pub moves_all : {b : Bounds} {cells : List (Option ℕ)} {moves : List ℕ} (count : ℕ) → 1 ≤ b.cols → stride b ≤ count →
    AreMovesUpTo b cells count moves → AreMovesOf b cells moves
moves_all {b} {cells} {moves} count some_col all s = record {
  size = s.size;
  each = λ i below. elim (cases_rim b i some_col below) [
    | inl rim ↦ rw (← rim.2) (s.sides _ (omega arith))
    | inr inner ↦ rw (← inner.3) (s.interior _ _ inner.2)
  ];
}

module _ {b : Bounds} {cells : List (Option ℕ)} {moves : List ℕ} (small : EndsInLargestGrid b)
    (s : AreMovesOf b cells moves) where
  pub moves_fit : AreMoves b.cols moves
  moves_fit = record {
    low = λ i h. omega (arith, (s.each i (omega arith)).leads);
    high = λ i h. omega (arith, (s.each i (omega arith)).leads, link_below, few_cells b small.few_rows small.few_cols);
  }

  pub moved_links : moved_by b.cols moves ≡ links_by b cells
  moved_links =
      let there : ℕ → ℕ = λ i. reach b.cols i _ - (b.cols + 1) in
      let link : ℕ → ℕ = λ i. link_by b i (get_or cells i None) in
      let made = length-map-range_with_len there 0 _ in
      same_number_lists _ _ (made ∙ s.size ∙ sym (length-map-range_with_len link 0 _))
      (λ i h. (let below : i < b.rows * b.cols = omega arith in omega (
        arith,
        get_or-map-range_with_len there 0 (length moves) i i 0 (omega arith) (omega arith),
        get_or-map-range_with_len link 0 _ i i 0 below (omega arith),
        (s.each i below).leads,
      )))

  pub told_codes : length cells ≡ b.rows * b.cols → map code_told moves ≡ cells
  told_codes size = same_lists _ _ (cc (length-map moves code_told))
      (λ i none h. (let below : i < length moves = omega (arith, length-map moves code_told) in
      get_or-map code_told moves i 0 none below ∙ (s.each i (omega arith)).tells ∙
      get_or_default cells i None none (omega arith)))

pub moves_below : (cols : ℕ) (moves : List ℕ) {links : List ℕ} (i : ℕ) → moved_by cols moves ≡ links →
    i < length links → i < length moves
moves_below cols moves i seen h = omega (
  arith,
  ap length seen,
  length-map-range_with_len (λ i. reach cols i (get_or moves i 0) - (cols + 1)) 0 (length moves),
)

-- The move that is read for a cell leads to the cell's link, by numbers that fit.
pub next_read : {cols : ℕ} {moves links : List ℕ} (i : ℕ) {move : ℕ} → AreMoves cols moves →
    moved_by cols moves ≡ links → i < length links → move ≡ get_or moves i move → (cols + 1 ≤ reach cols i move) ×
    (reach cols i move < 2 ^ 32) × (reach cols i move - (cols + 1) ≡ get_or links i 0)
next_read {cols} {moves} {links} i {move} fit seen h read =
    let below = moves_below cols moves i seen h in
    let at = ap (reach cols i) (read ∙ get_or_default moves i move 0 below) in (
      omega (arith, fit.low i below),
      omega (arith, fit.high i below),
      ap (λ n. n - (cols + 1)) at ∙ sym (get_or-map-range_with_len (λ i. reach cols i _ - (cols + 1)) 0 _ i i 0 below
          (omega arith)) ∙ ap (λ l. get_or l i 0) seen,
    )
