-- Viewsheds, rises and faults of small grids, computed from the definitions.
use Rattle.std.proofs.Common.{◌≡◌, ℕ, true, false, List, [], ◌∷◌, map, Option, None, Some, negsuc, refl}
use Rattle.terrain.specs.Raster.{Terrain}
use Rattle.terrain.specs.Ways.{places}
use Rattle.sightlines.proofs.Rows.{land, up, hidden, at}
use Rattle.sight.specs.Viewshed.{viewshed_value}
use Rattle.sight.specs.Rise.{is_seen_by_any}
use Rattle.sight.specs.Refusals.{observers_fault}
use Rattle.terrain.specs.declared.observer.Observer.{Observer}
use Rattle.sight.specs.declared.fault.SightFault.{SightFault}
use Rattle.sight.specs.declared.fault.SightFault.TheVariants.{Outside, OnNodata, BadEye, BadRadius}

abbrev pub corner : List Observer
corner = record { row = 0; col = 0; eye = 0 } ∷ []

-- the values at all places for an observer in the corner, NODATA cells as 0
abbrev pub values_from_corner : Terrain → List ℕ
values_from_corner t = map (viewshed_value t corner 0 8192) (places t.cols t.rows)

abbrev pub ValueRow : Type 0
ValueRow = Terrain × List ℕ

abbrev pub HaveValues : List ValueRow → Type 0
HaveValues rows = map (λ (row : ValueRow). values_from_corner row.0) rows ≡ map (λ (row : ValueRow). row.1) rows

-- in turn: ground at the line of sight, and above it; NODATA, which blocks nothing; an average
-- above the line, and at it
small_grids :
    HaveValues ((land 3 1 (up 0 ∷ up 5 ∷ up 10 ∷ []), 1 ∷ 1 ∷ 1 ∷ []) ∷
    (land 3 1 (up 0 ∷ up 6 ∷ up 10 ∷ []), 1 ∷ 1 ∷ 0 ∷ []) ∷
    (land 3 2 (up 0 ∷ up 30000 ∷ up 0 ∷ up 0 ∷ None ∷ up 0 ∷ []), 1 ∷ 1 ∷ 0 ∷ 1 ∷ 0 ∷ 1 ∷ []) ∷
    (land 3 2 (up 0 ∷ up 8 ∷ up 0 ∷ up 0 ∷ Some (negsuc 6) ∷ up 0 ∷ []), 1 ∷ 1 ∷ 0 ∷ 1 ∷ 1 ∷ 0 ∷ []) ∷
    (land 3 2 (up 0 ∷ up 8 ∷ up 0 ∷ up 0 ∷ Some (negsuc 7) ∷ up 0 ∷ []), 1 ∷ 1 ∷ 0 ∷ 1 ∷ 1 ∷ 1 ∷ []) ∷ [])
small_grids = refl

hidden_by_a_row : values_from_corner hidden ≡ 1 ∷ 1 ∷ 1 ∷ 1 ∷ 1 ∷ 1 ∷ 1 ∷ 0 ∷ 1 ∷ 0 ∷ 0 ∷ 0 ∷ []
hidden_by_a_row = refl

abbrev pub slope : Terrain
slope = land 3 1 (up 0 ∷ up 6 ∷ up 10 ∷ [])

-- the last cell of a slope is seen from 2 units above its ground on
seen_from_two_on :
    map (λ h. is_seen_by_any slope corner (at 0 2) h 8192) (0 ∷ 1 ∷ 2 ∷ 3 ∷ []) ≡ false ∷ false ∷ true ∷ true ∷ []
seen_from_two_on = refl

abbrev pub flat : Terrain
flat = land 3 3 (map up (0 ∷ 0 ∷ 0 ∷ 0 ∷ 0 ∷ 0 ∷ 0 ∷ 0 ∷ 0 ∷ []))

abbrev pub middle : Observer
middle = record { row = 1; col = 1; eye = 0 }

-- an observer who is named twice counts twice; cells outside the radius are not seen
an_observer_twice :
    map (viewshed_value flat (middle ∷ middle ∷ []) 0 1) (places 3 3) ≡ 0 ∷ 2 ∷ 0 ∷ 2 ∷ 2 ∷ 2 ∷ 0 ∷ 2 ∷ 0 ∷ []
an_observer_twice = refl

abbrev pub gap : Terrain
gap = land 3 2 (up 0 ∷ up 1 ∷ up 2 ∷ up 3 ∷ None ∷ up 5 ∷ [])

abbrev pub observer_at : ℕ → ℕ → ℕ → Observer
observer_at r c eye = record { row = r; col = c; eye = eye }

abbrev pub FaultRow : Type 0
FaultRow = Option SightFault × Option SightFault

abbrev pub HaveFaults : List FaultRow → Type 0
HaveFaults rows = map (λ (row : FaultRow). row.0) rows ≡ map (λ (row : FaultRow). row.1) rows

-- the first faults of observers, target height and radius, over a grid with one NODATA cell
observer_faults :
    HaveFaults ((observers_fault gap (observer_at 2 0 0 ∷ []) 0 1, Some (Outside 0)) ∷
    (observers_fault gap (observer_at 0 0 0 ∷ observer_at 0 3 0 ∷ []) 0 1, Some (Outside 1)) ∷
    (observers_fault gap (observer_at 1 1 0 ∷ observer_at 9 9 0 ∷ []) 0 1, Some (OnNodata 0)) ∷
    (observers_fault gap (observer_at 9 9 0 ∷ observer_at 0 0 1000001 ∷ []) 0 0, Some (BadEye (Some 1))) ∷
    (observers_fault gap (observer_at 9 9 1000001 ∷ []) 1000001 0, Some (BadEye None)) ∷
    (observers_fault gap (observer_at 9 9 0 ∷ []) 1000000 0, Some BadRadius) ∷
    (observers_fault gap (observer_at 0 0 0 ∷ []) 0 8193, Some BadRadius) ∷
    (observers_fault gap (observer_at 1 2 1000000 ∷ []) 1000000 8192, None) ∷ (observers_fault gap ([]) 0 1, None) ∷
    [])
observer_faults = refl
