-- Heights of cells are within their limits, and fit in 64 bits, also times a weight.
use Rattle.std.proofs.Common.{arith, ◌≡◌, ◌^◌, ℤ, length, List, ℕ, ◌<◌, ◌≤◌, ◌*ℤ◌, get_or, Option, None, Some, IfSome, inl, inr, refl, sym, ◌∙◌, pos, FitsSigned, w64, to_z, of_z}
use Rattle.std.specs.Prelude.{unwrap_or}
use Rattle.std.proofs.lemmas.Int.{ints, to_z-of_z, to_z_pos, fits_signed_mul}
use Rattle.std.proofs.lemmas.Bool.{cases_lt}
use Rattle.std.proofs.lemmas.List.{get_or_past, get_or_default}
use Rattle.std.proofs.lemmas.List.Elements.{All-get_or}
use Rattle.terrain.specs.Raster.{Terrain, IsTerrain, IsHeight}
use Rattle.sightlines.specs.Walk.{AreHeights}

pub are_heights : (t : Terrain) → IsTerrain t → AreHeights t.cells
are_heights t is i h at = elim (cases_lt i (length t.cells)) [
  | inl within ↦ rw at at (All-get_or (λ (c : Option ℤ). IfSome c IsHeight) t.cells i None within is.heights)
  | inr past ↦
      let none = get_or_past t.cells i None past in
      absurd cc
]

pub ground_is_height : (height : Option ℤ) → ((h : ℤ) → height ≡ Some h → IsHeight h) →
    IsHeight (unwrap_or height (pos 0))
ground_is_height None are = (omega (arith, ints), omega (arith, ints))
ground_is_height (Some h) are = are h refl

pub height_fits : (h : ℤ) → IsHeight h → FitsSigned w64 h
height_fits h is = omega (arith, ints, is)

pub kept : (h : ℤ) → IsHeight h → IsHeight (to_z w64 (of_z w64 h))
kept h is = rw (to_z-of_z w64 h (height_fits h is)) is

pub has_height : (cells : List (Option ℤ)) (index : ℕ) {cell height : Option ℤ} {h : ℤ} →
    cell ≡ get_or cells index cell → height ≡ cell → height ≡ Some h → index < length cells →
    get_or cells index None ≡ Some h
has_height cells index {cell = cell} read same is below =
    sym (read ∙ get_or_default cells index cell None below) ∙ sym same ∙ is

-- a height times a weight of at most 4096, as the code computes it, fits in 64 bits and is exact
pub weighed_is : (h : ℤ) (n : ℕ) → n ≤ 4096 → IsHeight h →
    let z = to_z w64 n *ℤ to_z w64 (of_z w64 h) in
    FitsSigned w64 z × (to_z w64 (of_z w64 z) ≡ pos n *ℤ h)
weighed_is h n few is =
    let fits = fits_signed_mul w64 (pos n) h 4096 (10 ^ 15) few (omega (arith, ints, is)) (omega arith) in
    rw (to_z_pos w64 n (omega arith), to_z-of_z w64 h (height_fits h is)) (fits, to_z-of_z w64 (pos n *ℤ h) fits)
