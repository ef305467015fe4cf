-- Gauges have the same fault, or none, on a grid and on the filled grid.
use Rattle.std.proofs.Common.{◌≡◌, ℕ, ◌+◌, ◌&&◌, Bool, true, false, not, List, [], ◌∷◌, length, Option, None, Some, ℤ, ap, ap₂, sym, refl, ◌∙◌, inl, inr}
use Rattle.std.specs.Prelude.{nat_lt, is_none, if◌then◌else◌}
use Rattle.std.specs.Option.{option_or}
use Rattle.std.proofs.lemmas.Option.{MatchOption-at_none, MatchOption-at_some}
use Rattle.std.proofs.lemmas.Bool.{and_parts, ltb-true}
use Rattle.terrain.specs.Raster.{Raster, Terrain}
use Rattle.terrain.specs.Neighbours.{IsInside, entry_at, height_at}
use Rattle.terrain.specs.Faults.{first_fault, place_fault}
use Rattle.terrain.specs.Sinks.{most_sinks}
use Rattle.terrain.specs.declared.place.Place.{Place}
use Rattle.terrain.proofs.Options.{cases_option}
use Rattle.drainage.specs.Filled.{IsFilled, IsFilledGrid}
use Rattle.flow.specs.Catchments.{gauges_fault}
use Rattle.flow.specs.declared.gauges.GaugeFault.{GaugeFault}
use Rattle.flow.specs.declared.gauges.GaugeFault.TheVariants.{Outside, OnNodata, TooManyGauges}

abbrev with_levels : Terrain → List (Option ℤ) → Terrain
with_levels t levels = record t { cells = levels }

module _ (t : Terrain) (levels : List (Option ℤ)) (filled : IsFilled t levels) where
  same_data : (p : Place) → IsInside t p →
      is_none (entry_at t.cols t.rows levels p) ≡ is_none (height_at t p)
  same_data p inside = elim (cases_option (height_at t p)) [
    | inl none ↦ ap is_none (MatchOption-at_none _ _ none (filled.each p inside) ∙ sym none)
    | inr some ↦
        (let level = MatchOption-at_some _ _ some.0 some.1 (filled.each p inside) in
        ap is_none level.1 ∙ sym (ap is_none some.1))
  ]

  same_fault : (i : ℕ) (p : Place) →
      place_fault Outside OnNodata (with_levels t levels) i p ≡ place_fault Outside OnNodata t i p
  same_fault i p = go (nat_lt p.row t.rows && nat_lt p.col t.cols) refl where
    fault : Bool → Bool → Option GaugeFault
    fault inside no_data =
        if not inside then Some (Outside i) else if no_data then Some (OnNodata i) else None

    go : (inside : Bool) → nat_lt p.row t.rows && nat_lt p.col t.cols ≡ inside → fault inside
        (is_none (entry_at t.cols t.rows levels p)) ≡ fault inside (is_none (height_at t p))
    go false e = refl
    go true e =
        let within = and_parts (nat_lt p.row t.rows) (nat_lt p.col t.cols) e in
        ap (fault true) (same_data p (ltb-true _ _ within.0, ltb-true _ _ within.1))

  same_first : (i : ℕ) (ps : List Place) → first_fault (place_fault Outside OnNodata (with_levels t levels)) i ps
      ≡ first_fault (place_fault Outside OnNodata t) i ps
  same_first i [] = refl
  same_first i (p ∷ rest) = ap₂ option_or (same_fault i p) (same_first (i + 1) rest)

pub filled_gauges : (g f : Raster) → IsFilledGrid g f → (gauges : List Place) →
    gauges_fault f.terrain gauges ≡ gauges_fault g.terrain gauges
filled_gauges g f is gauges =
    ap (λ (r : Raster). gauges_fault r.terrain gauges) is.rest
    ∙ ap (λ o. if nat_lt most_sinks (length gauges) then Some TooManyGauges else o)
    (same_first g.terrain f.terrain.cells is.filled 0 gauges)
