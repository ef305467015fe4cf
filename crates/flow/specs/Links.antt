-- Flow between tiles: inflows over the rims, and the outlets of exits.
-- Public.
use Rattle.std.specs.Prelude.{◌≡◌, ℕ, if◌then◌else◌, List, Option, None, Some}
use Rattle.terrain.specs.declared.place.Place.{Place}
use Rattle.tiles.specs.Cutting.{Cutting, IsWithin, is_within}
use Rattle.drainage.specs.Following.{Directed, last_of}
use Rattle.flow.specs.TileFlow.{Flow, inflow_of, IsExitCell}
use Rattle.flow.specs.RimGraph.{outlet_by}
use Rattle.flow.specs.Inflows.{inflow_by}

-- The tiles and their flows, and by rim number the inflows and the outlets of exits into other
-- tiles.
pub record Links : Type 0 where
  pub cutting : Cutting
  pub flows : List Flow
  pub inflows : List ℕ
  pub outlets : List (Option Place)

-- The inflow at a place.
abbrev pub inflow_in : Links → Place → ℕ
inflow_in l p = inflow_by l.cutting l.inflows p

-- The outlet of an exit, `None` at any other place.
abbrev pub outlet_in : Links → Place → Option Place
outlet_in l p = if is_within l.cutting p then outlet_by l.cutting l.flows l.outlets p else None

-- Every place of the grid has its inflow, every exit its outlet, and no other place an outlet.
pub record AreLinks (d : Directed) (c : Cutting) (l : Links) : Type 0 where
  pub cutting : l.cutting ≡ c
  pub inflows : (p : Place) → IsWithin c p → inflow_in l p ≡ inflow_of d c p
  pub outlets : (p : Place) → IsExitCell d c p → outlet_in l p ≡ Some (last_of d p)
  pub no_outlets : (p : Place) → (IsExitCell d c p → ⊥) → outlet_in l p ≡ None
