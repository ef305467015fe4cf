-- `place_in` is the place at an index, `index_in` the index of a place, in the row order of bounds
-- (a tile's position and size). At places in the bounds each undoes the other.
use Rattle.std.proofs.Common.{◌≡◌, ℕ, ◌+◌, ◌-◌, ◌*◌, ◌/◌, ◌%◌, ◌<◌, ◌≤◌, List, get_or, Option, None, Some, inl, inr, sym, ap, ◌∙◌, arith, mul_comm}
use Rattle.std.proofs.lemmas.Bool.{cases_Bool, cond-true, cond-false, and_from, lt-ltb}
use Rattle.std.proofs.lemmas.Bool.Decides.{nat_tests}
use Rattle.std.proofs.lemmas.Option.{none-some}
use Rattle.std.proofs.lemmas.Nat.{div-mul-add, mod-mul-add, div-add-mod', div_below, mod_below, mul-add-lt}
use Rattle.terrain.specs.declared.place.Place.{Place}
use Rattle.terrain.proofs.Places.{same_place}
use Rattle.tiles.specs.declared.bounds.Bounds.{Bounds}
use Rattle.tiles.specs.Cutting.{Cutting, IsCutting, IsInTile, IsInBounds, tile_count, cell_count, tile_of_place, bounds_of, is_in_bounds, index_in, place_in, entry_in, index_in_tile, tile_entry}
use Rattle.tiles.proofs.Cut.{bounds_inside, in_bounds_parts, in_bounds_from, in_tile}

pub place_in_bounds : (b : Bounds) (i : ℕ) → 1 ≤ b.cols → i < b.rows * b.cols →
    IsInBounds b (place_in b i)
place_in_bounds b i c h =
    let r = div_below i b.cols b.rows c h in let m = mod_below i b.cols c in
    (omega arith, omega (arith, r), omega arith, omega (arith, m))

pub index_in_below : (b : Bounds) (p : Place) → IsInBounds b p → index_in b p < b.rows * b.cols
index_in_below b p h =
    omega (
      arith,
      mul-add-lt (p.row - b.top) b.cols (p.col - b.left) b.rows (omega arith) (omega arith),
      mul_comm b.rows b.cols,
    )

pub index_in-place_in : (b : Bounds) (i : ℕ) → index_in b (place_in b i) ≡ i
index_in-place_in b i =
    let r : b.top + i / b.cols - b.top ≡ i / b.cols = omega arith in
    let c : b.left + i % b.cols - b.left ≡ i % b.cols = omega arith in
    ap (λ n. n * b.cols + (b.left + i % b.cols - b.left)) r ∙ ap (λ n. i / b.cols * b.cols + n) c
    ∙ div-add-mod' i b.cols

pub place_in-index_in : (b : Bounds) (p : Place) → IsInBounds b p → place_in b (index_in b p) ≡ p
place_in-index_in b p h =
    let c : p.col - b.left < b.cols = omega arith in
    same_place (place_in b (index_in b p)) p
    (ap (λ n. b.top + n) (div-mul-add (p.row - b.top) b.cols (p.col - b.left) c) ∙ omega arith)
    (ap (λ n. b.left + n) (mod-mul-add (p.row - b.top) b.cols (p.col - b.left) c) ∙ omega arith)

pub entry_in-inside : {X : Type 0} (b : Bounds) (entries : List (Option X)) (p : Place) →
    IsInBounds b p → entry_in b entries p ≡ get_or entries (index_in b p) None
entry_in-inside b entries p h = cond-true _ _ _ (in_bounds_from b p h)

pub bounds_from_entry : {X : Type 0} (b : Bounds) (entries : List (Option X)) (p : Place) (x : X) →
    entry_in b entries p ≡ Some x → IsInBounds b p
bounds_from_entry b entries p x e = elim (cases_Bool (is_in_bounds b p)) [
  | inl inside ↦ in_bounds_parts b p inside
  | inr outside ↦ absurd (none-some x (sym (cond-false _ _ _ outside) ∙ e))
]

pub place_in_tile : (t : Cutting) (tile i : ℕ) → IsCutting t → tile < tile_count t →
    i < cell_count t tile → IsInTile t tile (place_in (bounds_of t tile) i)
place_in_tile t tile i h l k =
    in_tile t tile (place_in (bounds_of t tile) i) h l
    (place_in_bounds (bounds_of t tile) i (bounds_inside t tile h l).some_col k)

pub index_in_tile_is : (t : Cutting) (tile : ℕ) (p : Place) → tile_of_place t p ≡ tile →
    index_in_tile t p ≡ index_in (bounds_of t tile) p
index_in_tile_is t tile p e = ap (λ n. index_in (bounds_of t n) p) e

pub tile_entry-in : {X : Type 0} (t : Cutting) (tile : ℕ) (entries : List (Option X)) (p : Place) →
    IsInTile t tile p →
    tile_entry t tile entries p ≡ get_or entries (index_in (bounds_of t tile) p) None
tile_entry-in t tile entries p i =
    let within = and_from _ _ (lt-ltb _ _ i.0.0) (lt-ltb _ _ i.0.1) in
    let same = i.1 in
    cond-true _ _ _ (and_from _ _ within (grind (arith, nat_tests, same)))
    ∙ ap (λ n. get_or entries n None) (index_in_tile_is t tile p i.1)
