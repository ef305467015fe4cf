-- The number of a rim cell is below `rim_number_count`, and `rim_place` of this number is the cell.
-- `rim_number_count` is at most 2^30.
use Rattle.std.proofs.Common.{◌≡◌, ◌≢◌, ℕ, ◌+◌, ◌-◌, ◌*◌, ◌/◌, ◌%◌, ◌^◌, ◌<◌, ◌≤◌, true, inl, inr, ap, ◌∙◌, arith, mul_comm, zero-mul}
use Rattle.std.proofs.Math.Nat.{zero-div, zero-mod, mul-le-mul}
use Rattle.std.proofs.lemmas.Bool.{cases_eq, or_cases, eqb-true, eq-eqb, ne_eqb, lt-ltb, le-ltb, cond-true, cond-false}
use Rattle.std.proofs.lemmas.Nat.{div-mul-add, mod-mul-add, mul-add-lt}
use Rattle.terrain.specs.declared.place.Place.{Place}
use Rattle.terrain.proofs.Places.{make_place, same_place}
use Rattle.tiles.specs.declared.bounds.Bounds.{Bounds}
use Rattle.tiles.specs.Cutting.{Cutting, IsCutting, IsWithin, IsInBounds, across, tile_count, tile_of_place, bounds_of, is_first_or_last, is_on_rim}
use Rattle.tiles.proofs.Cut.{in_bounds, tile_of_place_below}
use Rattle.tiles.specs.RimNumbers.{stride, side_number, side_place, rim_number_count, rim_number, rim_place}

abbrev pub IsSide : Bounds → Place → Type 0
IsSide b p = p.row ≢ b.top → p.row + 1 ≢ b.top + b.rows → p.col ≢ b.left →
    p.col + 1 ≡ b.left + b.cols

side_of_rim : (b : Bounds) (p : Place) → is_first_or_last b p ≡ true → IsSide b p
side_of_rim b p on a c d = elim (or_cases _ _ on) [
  | inr right ↦ eqb-true _ _ right
  | inl three ↦ elim (or_cases _ _ three) [
    | inr left ↦ absurd (d (eqb-true _ _ left))
    | inl two ↦ elim (or_cases _ _ two) [
      | inl top ↦ absurd (a (eqb-true _ _ top))
      | inr bottom ↦
          absurd (c (eqb-true _ _ bottom))
    ]
  ]
]

module _ (l b : Bounds) (p : Place) (cols : b.cols ≤ l.cols) (rows : b.rows ≤ l.rows)
    (h : IsInBounds b p) where
  on_top : p.row ≡ b.top → side_number l b p ≡ p.col - b.left
  on_top e = cond-true {A = ℕ} _ _ _ (eq-eqb _ _ e)

  on_bottom : p.row ≢ b.top → p.row + 1 ≡ b.top + b.rows →
      side_number l b p ≡ l.cols + (p.col - b.left)
  on_bottom a e = cond-false {A = ℕ} _ _ _ (ne_eqb _ _ a) ∙ cond-true {A = ℕ} _ _ _ (eq-eqb _ _ e)

  on_left : p.row ≢ b.top → p.row + 1 ≢ b.top + b.rows → p.col ≡ b.left →
      side_number l b p ≡ 2 * l.cols + (p.row - b.top)
  on_left a c e = cond-false {A = ℕ} _ _ _ (ne_eqb _ _ a) ∙ cond-false {A = ℕ} _ _ _ (ne_eqb _ _ c)
      ∙ cond-true {A = ℕ} _ _ _ (eq-eqb _ _ e)

  on_right : p.row ≢ b.top → p.row + 1 ≢ b.top + b.rows → p.col ≢ b.left →
      side_number l b p ≡ 2 * l.cols + l.rows + (p.row - b.top)
  on_right a c e = cond-false {A = ℕ} _ _ _ (ne_eqb _ _ a) ∙ cond-false {A = ℕ} _ _ _ (ne_eqb _ _ c)
      ∙ cond-false {A = ℕ} _ _ _ (ne_eqb _ _ e)

  pub side_below : side_number l b p < stride l
  side_below = elim (cases_eq p.row b.top) [
    | inl e ↦ omega (arith, on_top e)
    | inr a ↦ elim (cases_eq (p.row + 1) (b.top + b.rows)) [
      | inl e ↦ omega (arith, on_bottom a e)
      | inr c ↦ elim (cases_eq p.col b.left) [
        | inl e ↦ omega (arith, on_left a c e)
        | inr d ↦ omega (arith, on_right a c d)
      ]
    ]
  ]

  place_top : (i : ℕ) → i < l.cols → side_place l b i ≡ make_place b.top (b.left + i)
  place_top i k = cond-true {A = Place} _ _ _ (lt-ltb _ _ k)

  place_bottom : (i : ℕ) → l.cols ≤ i → i < 2 * l.cols →
      side_place l b i ≡ make_place (b.top + b.rows - 1) (b.left + (i - l.cols))
  place_bottom i a k = cond-false {A = Place} _ _ _ (le-ltb _ _ a)
      ∙ cond-true {A = Place} _ _ _ (lt-ltb _ _ k)

  place_left : (i : ℕ) → 2 * l.cols ≤ i → i < 2 * l.cols + l.rows →
      side_place l b i ≡ make_place (b.top + (i - 2 * l.cols)) b.left
  place_left i a k =
      let past : l.cols ≤ i = omega arith in
      cond-false {A = Place} _ _ _ (le-ltb _ _ past) ∙ cond-false {A = Place} _ _ _ (le-ltb _ _ a)
      ∙ cond-true {A = Place} _ _ _ (lt-ltb _ _ k)

  place_right : (i : ℕ) → 2 * l.cols + l.rows ≤ i →
      side_place l b i ≡ make_place (b.top + (i - (2 * l.cols + l.rows))) (b.left + b.cols - 1)
  place_right i a =
      let past : l.cols ≤ i = omega arith in
      let far : 2 * l.cols ≤ i = omega arith in
      cond-false {A = Place} _ _ _ (le-ltb _ _ past) ∙ cond-false {A = Place} _ _ _ (le-ltb _ _ far)
      ∙ cond-false {A = Place} _ _ _ (le-ltb _ _ a)

  pub side_back : IsSide b p → side_place l b (side_number l b p) ≡ p
  side_back side = elim (cases_eq p.row b.top) [
    | inl e ↦ ap (side_place l b) (on_top e) ∙ place_top (p.col - b.left) (omega arith)
        ∙ same_place _ p (omega arith) (omega arith)
    | inr a ↦ elim (cases_eq (p.row + 1) (b.top + b.rows)) [
      | inl e ↦ ap (side_place l b) (on_bottom a e) ∙ place_bottom (l.cols + (p.col - b.left))
          (omega arith) (omega arith) ∙ same_place _ p (omega arith) (omega arith)
      | inr c ↦ elim (cases_eq p.col b.left) [
        | inl e ↦ ap (side_place l b) (on_left a c e) ∙ place_left (2 * l.cols + (p.row - b.top))
            (omega arith) (omega arith) ∙ same_place _ p (omega arith) (omega arith)
        | inr d ↦ (let last : p.col + 1 ≡ b.left + b.cols = side a c d in
            ap (side_place l b) (on_right a c d) ∙ place_right (2 * l.cols + l.rows
            + (p.row - b.top)) (omega arith) ∙ same_place _ p (omega arith) (omega arith))
      ]
    ]
  ]

module _ (t : Cutting) (h : IsCutting t) where
  pub no_wider : (tile : ℕ) → (bounds_of t tile).cols ≤ (bounds_of t 0).cols
  no_wider tile =
      let left : 0 % across t * t.side ≡ 0 = ap (λ n. n * t.side) (zero-mod (across t))
      ∙ omega arith in
      omega arith

  pub no_higher : (tile : ℕ) → (bounds_of t tile).rows ≤ (bounds_of t 0).rows
  no_higher tile =
      let top : 0 / across t * t.side ≡ 0 = ap (λ n. n * t.side) (zero-div (across t))
      ∙ omega arith in
      omega arith

  pub number_below : (p : Place) → IsWithin t p → rim_number t p < rim_number_count t
  number_below p w =
      let tile = tile_of_place t p in
      let i = in_bounds t (tile_of_place t p) p h (w, omega arith) in
      let side = side_below (bounds_of t 0) (bounds_of t (tile_of_place t p)) p (no_wider tile)
      (no_higher tile) i in
      omega (
        arith,
        mul-add-lt (tile_of_place t p) (stride (bounds_of t 0)) (side_number (bounds_of t 0)
            (bounds_of t (tile_of_place t p)) p) (tile_count t) (tile_of_place_below t p h w) side,
        mul_comm (tile_count t) (stride (bounds_of t 0)),
      )

  pub number_back : (p : Place) → IsWithin t p → IsSide (bounds_of t (tile_of_place t p)) p →
      rim_place t (rim_number t p) ≡ p
  number_back p w side =
      let tile = tile_of_place t p in
      let i = in_bounds t (tile_of_place t p) p h (w, omega arith) in
      let below = side_below (bounds_of t 0) (bounds_of t (tile_of_place t p)) p (no_wider tile)
      (no_higher tile) i in
      ap (λ k. side_place (bounds_of t 0) (bounds_of t k) (rim_number t p % stride (bounds_of t 0)))
      (div-mul-add (tile_of_place t p) (stride (bounds_of t 0))
      (side_number (bounds_of t 0) (bounds_of t (tile_of_place t p)) p) below)
      ∙ ap (λ k. side_place (bounds_of t 0) (bounds_of t (tile_of_place t p)) k)
      (mod-mul-add (tile_of_place t p) (stride (bounds_of t 0))
      (side_number (bounds_of t 0) (bounds_of t (tile_of_place t p)) p) below)
      ∙ side_back (bounds_of t 0) (bounds_of t (tile_of_place t p)) p (no_wider tile)
      (no_higher tile) i side

  pub rim_back : (p : Place) → IsWithin t p → is_on_rim t p ≡ true →
      rim_place t (rim_number t p) ≡ p
  rim_back p w on = number_back p w (side_of_rim (bounds_of t (tile_of_place t p)) p on)

  pub few_numbers : rim_number_count t ≤ 2 ^ 30
  few_numbers =
      let side : stride (bounds_of t 0) ≤ 16384 =
      (let b = bounds_of t 0 in omega (arith, h.few_cols, h.few_rows, h.short_side)) in
      let most : tile_count t * stride (bounds_of t 0) ≤ 65536 * 16384 =
      mul-le-mul h.few_tiles side in
      omega arith

pub some_tile : (t : Cutting) (i : ℕ) → i < rim_number_count t → 0 < tile_count t
some_tile t i k = elim (cases_eq (tile_count t) 0) [
  | inl e ↦ absurd
      (omega (arith, k, ap (λ n. n * stride (bounds_of t 0)) e, zero-mul (stride (bounds_of t 0))))
  | inr ne ↦ omega arith
]
