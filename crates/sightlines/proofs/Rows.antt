-- On a small grid, no crossing with a column blocks a line of sight, but one with a row has ground
-- above the line: computed from the definitions.
use Rattle.std.proofs.Common.{◌≡◌, ℕ, List, [], ◌∷◌, Option, Some, ℤ, pos, negsuc, refl}
use Rattle.terrain.specs.Raster.{Terrain}
use Rattle.terrain.specs.declared.place.Place.{Place}
use Rattle.sightlines.specs.Sight.{row_crossing, ground, sight, column_blocks}

abbrev pub land : ℕ → ℕ → List (Option ℤ) → Terrain
land cols rows cells = record { cols = cols; rows = rows; cells = cells; sinks = [] }

abbrev pub at : ℕ → ℕ → Place
at r c = record { row = r; col = c }

abbrev pub up : ℕ → Option ℤ
up n = Some (pos n)

abbrev pub hidden : Terrain
hidden =
    land 4 3
    (up 0 ∷ Some (negsuc 8) ∷ up 0 ∷ up 0 ∷ up 0 ∷ up 4 ∷ up 1 ∷ up 0 ∷ up 0 ∷ up 0 ∷ Some (negsuc 8) ∷ up 0 ∷ [])

-- (2,3) is hidden from (0,0) by the row crossing alone: twice the ground is 5, twice the line's
-- elevation 0
hidden-columns : column_blocks hidden (at 0 0) (at 2 3) (pos 0) (pos 0) ≡ mathlib.Core.Bool.false
hidden-columns = refl

hidden-ground : ground hidden (row_crossing (at 0 0) (at 2 3) 2 1) ≡ Some (pos 5)
hidden-ground = refl

hidden-sight : sight (pos 0) (pos 0) 2 1 ≡ pos 0
hidden-sight = refl
