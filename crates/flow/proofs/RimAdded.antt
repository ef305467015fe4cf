-- A list has a weight for each cell of a tile. If the amount listed for each side number of the
-- tile is added at the cell of that number, each weight grows by the cell's inflow.
-- A side number is a rim cell's number in its tile.
use Rattle.std.proofs.Common.{◌≡◌, ◌≢◌, ℕ, ◌+◌, ◌*◌, ◌%◌, ◌^◌, ◌<◌, ◌≤◌, eqb, inl, inr, List, length, get_or, set, Option, None, Some, sym, ap, ◌∙◌, arith, refl}
use Rattle.std.proofs.lemmas.Bool.{cases_Bool, eq-eqb, ne_eqb, cond-true, cond-false, false_from_ne_true, false≢true}
use Rattle.std.proofs.lemmas.Nat.{div-mul-add, mod-mul-add}
use Rattle.terrain.specs.declared.place.Place.{Place}
use Rattle.tiles.specs.declared.bounds.Bounds.{Bounds}
use Rattle.tiles.specs.Cutting.{Cutting, IsCutting, IsWithin, IsInTile, IsInBounds, bounds_of, tile_count, tile_of_place, place_in, index_in}
use Rattle.tiles.proofs.Cut.{in_bounds, in_tile}
use Rattle.tiles.proofs.TileOrder.{index_in_below, place_in-index_in}
use Rattle.terrain.proofs.Listed.{is_place_from, place_is}
use Rattle.terrain.specs.Neighbours.{is_place}
use Rattle.tile_jobs.specs.Sums.{sum_below}
use Rattle.tiles.specs.RimNumbers.{stride, side_number, side_place, rim_number, rim_place}
use Rattle.flow.specs.RimGraph.{side_cell}
use Rattle.flow.specs.Inflows.{adds, adds_at, inflow_by}
use Rattle.tile_jobs.proofs.Sums.{sum_more, sum_below-part, one_term}
use Rattle.flow.proofs.Sending.{added_at}
use Rattle.flow.proofs.RimCells.{cell_from, cell_at, own_bounds}
use Rattle.tiles.proofs.RimNumbered.{side_below, no_wider, no_higher}

-- If the weight of q grows by `amount`, that of p grows by `adds_at (Some q) amount p`: `amount` if
-- p is q, else 0.
pub added : (b : Bounds) (old : List ℕ) (q : Place) (amount : ℕ) → length old ≡ b.rows * b.cols → IsInBounds b q →
    (p : Place) → IsInBounds b p → get_or (set old (index_in b q) (get_or old (index_in b q) 0 + amount)) (index_in b p)
    0 ≡ get_or old (index_in b p) 0 + adds_at (Some q) amount p
added b old q amount size inside p h =
    let same : eqb (index_in b q) (index_in b p) ≡ is_place q p = elim (cases_Bool (is_place q p)) [
      | inl here ↦ eq-eqb _ _ (ap (index_in b) (place_is _ _ here)) ∙ sym here
      | inr f ↦ ne_eqb _ _ (λ e. false≢true (sym f ∙ is_place_from _ _ (sym (place_in-index_in b q inside) ∙
          ap (place_in b) e ∙ place_in-index_in b p h))) ∙ sym f
    ] in
    cc (added_at old (index_in b q) amount (index_in b p) (omega (arith, index_in_below b q inside, size)))

pub own_adds : (q : Place) (amount : ℕ) → adds_at (Some q) amount q ≡ amount
own_adds q amount = cond-true _ amount 0 (is_place_from q q refl)

adds_off : (o : Option Place) (amount : ℕ) (p : Place) → ((q : Place) → o ≡ Some q → q ≢ p) → adds_at o amount p ≡ 0
adds_off None amount p other = refl
adds_off (Some q) amount p other = cond-false _ amount 0 (false_from_ne_true _ (λ y. other q refl (place_is _ _ y)))

module _ {t : Cutting} (h : IsCutting t) (listed : List ℕ) where
  -- No side number but that of p adds to the weight of p.
  only_own : (p : Place) → IsWithin t p → (side : ℕ) → side ≢ side_number (bounds_of t 0) (own_bounds t p) p →
      adds t listed (tile_of_place t p) side p ≡ 0
  only_own p w side ne =
      adds_off (side_cell (bounds_of t 0) (own_bounds t p) side) _ p
      (λ q is e. ne (sym (cell_from (bounds_of t 0) (own_bounds t p) side q is).number ∙
      ap (side_number (bounds_of t 0) (own_bounds t p)) e))

  own : (p : Place) → IsWithin t p → adds t listed (tile_of_place t p) (side_number (bounds_of t 0) (own_bounds t p) p)
      p ≡ inflow_by t listed p
  own p w =
      let amount = get_or listed (rim_number t p) 0 in
      let side = side_number (bounds_of t 0) (own_bounds t p) p in
      let i = in_bounds t _ p h (w, refl) in
      let below = side_below (bounds_of t 0) _ p (no_wider t h _) (no_higher t h _) i in
      let place =
      ap (λ n. side_place (bounds_of t 0) (bounds_of t n) (rim_number t p % stride (bounds_of t 0)))
      (div-mul-add (tile_of_place t p) (stride (bounds_of t 0)) side below) ∙
      ap (λ n. side_place (bounds_of t 0) (own_bounds t p) n) (mod-mul-add (tile_of_place t p) (stride (bounds_of t 0))
      side below) in
      elim (cases_Bool (is_place (rim_place t (rim_number t p)) p)) [
        | inl y ↦ ap (λ o. adds_at o amount p) (cell_at (bounds_of t 0) (own_bounds t p) p i (sym place ∙
            place_is _ _ y)) ∙ own_adds p amount ∙ sym (cond-true _ amount 0 y)
        | inr f ↦
            adds_off _ amount p (λ q is e. false≢true (sym f ∙ is_place_from _ _ (place ∙
            (cell_from (bounds_of t 0) _ side q is).place ∙ e))) ∙ sym (cond-false _ amount 0 f)
      ]

  all_adds : (p : Place) → IsWithin t p → sum_below (λ k. adds t listed (tile_of_place t p) k p)
      (stride (bounds_of t 0)) ≡ inflow_by t listed p
  all_adds p w =
      let i = in_bounds t _ p h (w, refl) in
      one_term (λ k. adds t listed _ k p) _ _ (side_below (bounds_of t 0) _ p (no_wider t h _) (no_higher t h _) i)
      (λ j l ne. only_own p w j ne) ∙ own p w

  -- All side numbers of a tile together add to p its inflow.
  pub adds_sum : (tile : ℕ) (p : Place) → IsInTile t tile p → sum_below (λ k. adds t listed tile k p)
      (stride (bounds_of t 0)) ≡ inflow_by t listed p
  adds_sum tile p i = ap (λ n. sum_below (λ k. adds t listed n k p) (stride (bounds_of t 0))) (sym i.1) ∙ all_adds p i.0

  pub adds_part : (tile : ℕ) (p : Place) → IsInTile t tile p → (m : ℕ) → m ≤ stride (bounds_of t 0) →
      sum_below (λ k. adds t listed tile k p) m ≤ inflow_by t listed p
  adds_part tile p i m le = omega (arith, adds_sum tile p i, sum_below-part (λ k. adds t listed tile k p) m _ le)

module _ {t : Cutting} (h : IsCutting t) (listed : List ℕ) (tile : ℕ) (below : tile < tile_count t) (old : List ℕ) where
  -- The weights after adding the inflows of the side numbers below `side`.
  abbrev pub AreAdded : List ℕ → ℕ → Type 0
  AreAdded weights side = (p : Place) → IsInBounds (bounds_of t tile) p → get_or weights (index_in (bounds_of t tile) p)
      0 ≡ get_or old (index_in (bounds_of t tile) p) 0 + sum_below (λ k. adds t listed tile k p) side

  -- With the cell of `side` and the amount listed for `side`, `adds_at` gives what `adds` does: the
  -- inflow that `side` adds at p.
  one_added : {b : Bounds} → b ≡ bounds_of t tile → (side : ℕ) {cell : Option Place} {amount : ℕ} →
      cell ≡ side_cell (bounds_of t 0) b side → amount ≡ get_or listed (tile * stride (bounds_of t 0) + side) 0 →
      (p : Place) → adds_at cell amount p ≡ adds t listed tile side p
  one_added e side {amount = amount} is much p = cc is

  pub adds_fit : {b : Bounds} → b ≡ bounds_of t tile → (weights : List ℕ) (side : ℕ) {cell : Option Place}
      {amount : ℕ} → cell ≡ side_cell (bounds_of t 0) b side →
      amount ≡ get_or listed (tile * stride (bounds_of t 0) + side) 0 → side < stride (bounds_of t 0) →
      AreAdded weights side → ((p : Place) → IsInBounds (bounds_of t tile) p →
      get_or old (index_in (bounds_of t tile) p) 0 + inflow_by t listed p < 2 ^ 32) → (p : Place) → IsInBounds b p →
      get_or weights (index_in b p) 0 + adds_at cell amount p < 2 ^ 32
  adds_fit {b} e weights side {cell} {amount} is much few so_far fits = rw e (λ p i. omega (
    arith,
    sum_more (λ k. adds t listed tile k p) side,
    adds_part h listed tile p (in_tile t tile p h below i) (side + 1) (omega arith),
    one_added e side is much p,
  ))

  pub adds_more : {b : Bounds} → b ≡ bounds_of t tile → (weights new : List ℕ) (side : ℕ) {cell : Option Place}
      {amount : ℕ} → cell ≡ side_cell (bounds_of t 0) b side →
      amount ≡ get_or listed (tile * stride (bounds_of t 0) + side) 0 → AreAdded weights side →
      ((p : Place) → IsInBounds b p → get_or new (index_in b p) 0 ≡ get_or weights (index_in b p) 0 + adds_at cell
      amount p) → AreAdded new (side + 1)
  adds_more {b} e weights new side {cell} {amount} is much so_far each p i =
      let one = rw e at each p i in
      omega (arith, sum_more (λ k. adds t listed tile k p) side, one_added e side is much p)

  pub adds_done : (weights : List ℕ) {side : ℕ} → side ≡ stride (bounds_of t 0) → AreAdded weights side → (p : Place) →
      IsInBounds (bounds_of t tile) p → get_or weights (index_in (bounds_of t tile) p) 0 ≡ get_or old
      (index_in (bounds_of t tile) p) 0 + inflow_by t listed p
  adds_done weights all so_far p i = omega (
    arith,
    ap (sum_below (λ k. adds t listed tile k p)) all,
    adds_sum h listed tile p (in_tile t tile p h below i),
  )
