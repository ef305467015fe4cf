use Rattle.std.proofs.Common.{◌≡◌, None, sym, subst, ◌∙◌}
use Rattle.std.specs.Option.{option_map}
use Rattle.std.proofs.lemmas.Result.{err_from_is_err_and}
use Rattle.terrain.specs.Raster.{Raster}
use Rattle.terrain.specs.Sinks.{raster_with_sinks}
use Rattle.relief.specs.declared.fault.RunFault.TheVariants.{Sight}
use Rattle.relief.specs.Refusals.{gauge_fault, view_fault, request_fault}
use Rattle.relief.proofs.Draining.{grid_with_some_sinks, place_refused, sinks_refused, sound_gauges, request_of_many, request_of_sound}
use Rattle.relief.proofs.making.prepare.Goals as goal

pub returns-in_err-tiling-clause-fault : goal.returns-in_err-tiling-clause-fault
returns-in_err-tiling-clause-fault c =
    let p = err_from_is_err_and c.from_residual.result c.from_residual.ensures.1 in
    let many = c.in_err-tiling.ensures.many in
    rw (p.1, p.2, many.0) (request_of_many c.args.options.now c.args.grid
    (rw c.tile.ensures.value at many.1))

pub returns-in-Some-clause-fault : goal.returns-in-Some-clause-fault
returns-in-Some-clause-fault c =
    place_refused c.args.options.now c.args.grid c.in-Some.fault (rw c.tile.ensures.value at
    c.in_ok-tiling.ensures.few) (sym c.named_place_fault.ensures ∙ c.in-Some.is)

pub returns-in_err-grid-clause-fault : goal.returns-in_err-grid-clause-fault
returns-in_err-grid-clause-fault c =
    let p =
    err_from_is_err_and c.from_residual-in_err-grid.result c.from_residual-in_err-grid.ensures.1 in
    rw (p.1, p.2) (sinks_refused c.args.options.now c.args.grid c.in_err-grid.field-0.0
    c.sinks-sinks.ensures.view (rw c.sinks-sinks.ensures.value at (sym c.if-is_empty.ensures))
    (rw c.tile.ensures.value at c.in_ok-tiling.ensures.few) (sym c.named_place_fault.ensures
    ∙ c.in_default.is) (rw c.sinks-sinks.ensures.value at c.in_err-grid.ensures.fault))

pub returns-clause-grid : goal.returns-clause-grid
returns-clause-grid c =
    rw c.sinks-sinks.ensures.value at c.in_ok-grid.ensures.grid
    ∙ grid_with_some_sinks c.args.grid c.args.options.now.sinks
    (rw c.sinks-sinks.ensures.value at (sym c.if-is_empty.ensures))

pub returns-clause-sound : goal.returns-clause-sound
returns-clause-sound c =
    let w = c.args.options.now in
    let given : Raster = raster_with_sinks c.args.grid w.sinks in
    subst (λ (r : Raster). request_fault w r ≡ option_map Sight (view_fault r w.map))
    (sym (rw c.sinks-sinks.ensures.value at c.in_ok-grid.ensures.grid))
    (request_of_sound w given (rw c.tile.ensures.value at c.in_ok-tiling.ensures.few)
    (sym c.named_place_fault.ensures ∙ c.in_default.is))

pub returns-clause-gauges : goal.returns-clause-gauges
returns-clause-gauges c =
    let w = c.args.options.now in
    subst (λ (r : Raster). gauge_fault r w.map
    ≡ None) (sym (rw c.sinks-sinks.ensures.value at c.in_ok-grid.ensures.grid))
    (sound_gauges w (raster_with_sinks c.args.grid w.sinks) (sym c.named_place_fault.ensures
    ∙ c.in_default.is))
