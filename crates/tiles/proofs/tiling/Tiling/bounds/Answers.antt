use Rattle.std.proofs.Common.{◌↔◌, ◌<◌, ◌*◌, ◌/◌, ◌%◌, arith, sym, subst}
use Rattle.terrain.specs.declared.place.Place.{Place}
use Rattle.tiles.specs.Cutting.{Cutting, tile_count, AreBounds, IsInTile, IsInBounds}
use Rattle.tiles.proofs.Cut.{make_bounds, tile_top, tile_left, bounds_from, inside_from_value, places_from_value}
use Rattle.tiles.proofs.tiling.Tiling.bounds.Goals as goal

pub overflow_sub-self-inside : goal.overflow_sub-self-inside
overflow_sub-self-inside c =
    let a = c.self.inside in
    let t : Cutting = record { cols = a.cols; rows = a.rows; side = a.side } in
    let below : c.args.tile < tile_count t =
    subst (λ s. c.args.tile < tile_count s) (sym c.self.view_is) c.requires in
    let begins = tile_top t c.args.tile c.self.invariant.0 below in
    let fits : c.args.tile / a.across * a.side < a.rows = rw c.self.invariant.1 begins in
    omega arith

pub overflow_sub-self-inside-2 : goal.overflow_sub-self-inside-2
overflow_sub-self-inside-2 c =
    let a = c.self.inside in
    let t : Cutting = record { cols = a.cols; rows = a.rows; side = a.side } in
    let begins = tile_left t c.args.tile c.self.invariant.0 in
    let fits : c.args.tile % a.across * a.side < a.cols = rw c.self.invariant.1 begins in
    omega arith

pub returns-clause-inside : goal.returns-clause-inside
returns-clause-inside c =
    let a = c.self.inside in
    let t : Cutting = record { cols = a.cols; rows = a.rows; side = a.side } in
    let below : c.args.tile < tile_count t =
    subst (λ s. c.args.tile < tile_count s) (sym c.self.view_is) c.requires in
    let value = bounds_from t c.args.tile a.across c.min.result c.min-2.result c.self.invariant.1
    c.min.ensures c.min-2.ensures in
    let b = make_bounds (c.args.tile / a.across * a.side) (c.args.tile % a.across
    * a.side) c.min.result c.min-2.result in
    subst (λ (s : Cutting). AreBounds s b) c.self.view_is
    (inside_from_value t c.args.tile b c.self.invariant.0 below value)

pub returns-clause-places : goal.returns-clause-places
returns-clause-places c =
    let a = c.self.inside in
    let t : Cutting = record { cols = a.cols; rows = a.rows; side = a.side } in
    let below : c.args.tile < tile_count t =
    subst (λ s. c.args.tile < tile_count s) (sym c.self.view_is) c.requires in
    let value = bounds_from t c.args.tile a.across c.min.result c.min-2.result c.self.invariant.1
    c.min.ensures c.min-2.ensures in
    let b = make_bounds (c.args.tile / a.across * a.side) (c.args.tile % a.across
    * a.side) c.min.result c.min-2.result in
    subst (λ (s : Cutting). (p : Place) → IsInTile s c.args.tile p ↔ IsInBounds b p) c.self.view_is
    (places_from_value t c.args.tile b c.self.invariant.0 below value)
