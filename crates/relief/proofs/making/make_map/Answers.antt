use Rattle.std.proofs.Common.{◌≡◌, None, ap, refl, subst, sym, ◌∙◌}
use Rattle.std.specs.Option.{option_map}
use Rattle.std.proofs.lemmas.Result.{err_from_is_err_and}
use Rattle.relief.specs.declared.fault.RunFault.TheVariants.{Sight}
use Rattle.relief.specs.Refusals.{gauge_fault, view_fault}
use Rattle.sight.specs.Refusals.{observers_fault}
use Rattle.sight.proofs.Refused.{not_jobs}
use Rattle.relief.proofs.Viewing.{catchments_refused, no_fault, of_jobs_refused, view_refused}
use Rattle.terrain.specs.Raster.{Raster}
use Rattle.ascii_grid.specs.Text.{counts_text, heights_text}
use Rattle.drainage.specs.Drained.{directed_of}
use Rattle.drainage.specs.Filled.{IsFilledGrid}
use Rattle.std.specs.List.{flat_map}
use Rattle.request.specs.declared.map.Map.{Map}
use Rattle.request.specs.declared.map.Map.TheVariants.{Catchments, Several}
use Rattle.flow.specs.Catchments.{gauges_fault}
use Rattle.relief.specs.MapText.{IsMapText}
use Rattle.relief.specs.MadeMap.{layer_text}
use Rattle.relief.proofs.Together.{joined, same_text}
use Rattle.relief.proofs.making.make_map.Goals as goal

pub returns-in-Fill-clause-map : goal.returns-in-Fill-clause-map
returns-in-Fill-clause-map g c =
    subst (λ (m : Map). IsMapText c.args.grid m (heights_text c.into_grid.result))
    (sym (sym c.map.ensures ∙ c.in-Fill.is)) (
      c.into_grid.result,
      subst (λ (f : Raster). IsFilledGrid c.args.grid f)
          (sym c.into_grid.ensures) c.in_ok-filled-in-Fill.ensures.filled,
      refl,
    )

pub returns-in-Flow-clause-map : goal.returns-in-Flow-clause-map
returns-in-Flow-clause-map g c =
    let grid = c.in_ok-frame-in-Flow.frame in
    let d = c.in_ok-frame-in-Flow.directions in
    subst (λ (m : Map). IsMapText c.args.grid m (counts_text grid d.codes))
    (sym (sym c.map.ensures ∙ c.in-Flow.is)) (
      directed_of d,
      c.in_ok-frame-in-Flow.ensures.drainage,
      same_text c.args.grid grid d.codes c.in_ok-frame-in-Flow.ensures.filled,
    )

pub returns-in-Accumulate-clause-map : goal.returns-in-Accumulate-clause-map
returns-in-Accumulate-clause-map g c =
    let grid = c.in_ok-frame-in-Accumulate.frame in
    let values = c.in_ok-counts-in-Accumulate.counts.items in
    subst (λ (m : Map). IsMapText c.args.grid m (counts_text grid values))
    (sym (sym c.map.ensures ∙ c.in-Accumulate.is)) (
      directed_of c.in_ok-frame-in-Accumulate.directions,
      values,
      c.in_ok-frame-in-Accumulate.ensures.drainage,
      c.in_ok-counts-in-Accumulate.ensures.values,
      same_text c.args.grid grid values c.in_ok-frame-in-Accumulate.ensures.filled,
    )

pub returns-in-Basins-clause-map : goal.returns-in-Basins-clause-map
returns-in-Basins-clause-map g c =
    let grid = c.in_ok-frame-in-Basins.frame in
    let values = c.in_ok-numbers-in-Basins.numbers.items in
    subst (λ (m : Map). IsMapText c.args.grid m (counts_text grid values))
    (sym (sym c.map.ensures ∙ c.in-Basins.is)) (
      directed_of c.in_ok-frame-in-Basins.directions,
      values,
      c.in_ok-frame-in-Basins.ensures.drainage,
      c.in_ok-numbers-in-Basins.ensures.values,
      same_text c.args.grid grid values c.in_ok-frame-in-Basins.ensures.filled,
    )

pub returns-in-Catchments-clause-map : goal.returns-in-Catchments-clause-map
returns-in-Catchments-clause-map g c =
    let grid = c.in_ok-frame-in-Catchments.frame in
    let values = c.in_ok-numbers-in-Catchments.numbers.items in
    subst (λ (m : Map). IsMapText c.args.grid m (counts_text grid values))
    (sym (sym c.map.ensures ∙ c.in-Catchments.is)) (
      directed_of c.in_ok-frame-in-Catchments.directions,
      values,
      c.in_ok-frame-in-Catchments.ensures.drainage,
      rw c.deref.ensures.value at c.in_ok-numbers-in-Catchments.ensures.values,
      same_text c.args.grid grid values c.in_ok-frame-in-Catchments.ensures.filled,
    )

pub returns-in_err-numbers-in-Catchments-clause-fault :
    goal.returns-in_err-numbers-in-Catchments-clause-fault
returns-in_err-numbers-in-Catchments-clause-fault g c =
    let p = err_from_is_err_and c.from_residual-in_err-numbers-in-Catchments.result
    c.from_residual-in_err-numbers-in-Catchments.ensures.1 in
    let w = c.args.options.now in
    let grid = c.args.grid in
    let gauges = c.in-Catchments.gauges.items in
    let is : w.map ≡ Catchments c.in-Catchments.gauges = sym c.map.ensures ∙ c.in-Catchments.is in
    let asked : gauge_fault grid w.map ≡ gauges_fault grid.terrain gauges =
    ap (λ m. gauge_fault grid m) is in
    let unseen : view_fault grid w.map ≡ None = ap (λ m. view_fault grid m) is in
    let sound = c.in_ok-frame-in-Catchments.ensures.gauges gauges ∙ sym asked ∙ c.requires.gauges in
    let refusals = rw (c.deref.ensures.value, c.workers-workers.ensures.value)
    at c.in_err-numbers-in-Catchments.ensures.refusals in
    rw (p.1, p.2) (catchments_refused w grid _ c.in_err-numbers-in-Catchments.field-0.0
    c.workers-workers.ensures.limits.2 c.workers-workers.ensures.limits.3 sound
    (c.requires.sound ∙ ap (λ o. option_map Sight o) unseen) refusals)

pub returns-in-View-clause-map : goal.returns-in-View-clause-map
returns-in-View-clause-map g c =
    let values = c.in_ok-counts-in-View.counts.items in
    subst (λ (m : Map). IsMapText c.args.grid m (counts_text c.into_frame.result values))
    (sym (sym c.map.ensures ∙ c.in-View.is)) (
      values,
      rw c.deref-in-View.ensures.value at c.in_ok-counts-in-View.ensures.values,
      ap (λ (r : Raster). counts_text r values) c.into_frame.ensures,
    )

pub returns-in_err-counts-in-View-clause-fault : goal.returns-in_err-counts-in-View-clause-fault
returns-in_err-counts-in-View-clause-fault g c =
    let p = err_from_is_err_and c.from_residual-in_err-counts-in-View.result
    c.from_residual-in_err-counts-in-View.ensures.1 in
    let w = c.args.options.now in
    let grid = c.args.grid in
    let asked : view_fault grid w.map
    ≡ observers_fault grid.terrain c.in-View.observers.items c.in-View.target c.in-View.radius =
    ap (λ m. view_fault grid m) (sym c.map.ensures ∙ c.in-View.is) in
    let refusals = rw (c.deref-in-View.ensures.value, c.workers-workers.ensures.value)
    at c.in_err-counts-in-View.ensures.refusals in
    rw (p.1, p.2) (view_refused w grid _ c.in_err-counts-in-View.field-0.0
    c.workers-workers.ensures.limits.2 c.workers-workers.ensures.limits.3
    (λ x. not_jobs x grid.terrain c.in-View.observers.items c.in-View.target c.in-View.radius)
    (c.requires.sound ∙ ap (λ o. option_map Sight o) asked) refusals)

pub returns-in-View-clause-ready : goal.returns-in-View-clause-ready
returns-in-View-clause-ready g c =
    let w = c.args.options.now in
    let grid = c.args.grid in
    let asked : view_fault grid w.map
    ≡ observers_fault grid.terrain c.in-View.observers.items c.in-View.target c.in-View.radius =
    ap (λ m. view_fault grid m) (sym c.map.ensures ∙ c.in-View.is) in
    c.requires.sound ∙ ap (λ o. option_map Sight o) (asked
    ∙ no_fault _ _ _ (rw c.deref-in-View.ensures.value at c.in_ok-counts-in-View.ensures.refusals))

pub returns-in-Rise-clause-map : goal.returns-in-Rise-clause-map
returns-in-Rise-clause-map g c =
    let values = c.in_ok-heights-in-Rise.heights.items in
    subst (λ (m : Map). IsMapText c.args.grid m (counts_text c.into_frame-in-Rise.result values))
    (sym (sym c.map.ensures ∙ c.in-Rise.is)) (
      values,
      rw c.deref-in-Rise.ensures.value at c.in_ok-heights-in-Rise.ensures.values,
      ap (λ (r : Raster). counts_text r values) c.into_frame-in-Rise.ensures,
    )

pub returns-in_err-heights-in-Rise-clause-fault : goal.returns-in_err-heights-in-Rise-clause-fault
returns-in_err-heights-in-Rise-clause-fault g c =
    let p = err_from_is_err_and c.from_residual-in_err-heights-in-Rise.result
    c.from_residual-in_err-heights-in-Rise.ensures.1 in
    let w = c.args.options.now in
    let grid = c.args.grid in
    let asked : view_fault grid w.map
    ≡ observers_fault grid.terrain c.in-Rise.observers.items 0 c.in-Rise.radius =
    ap (λ m. view_fault grid m) (sym c.map.ensures ∙ c.in-Rise.is) in
    let refusals = rw (c.deref-in-Rise.ensures.value, c.workers-workers.ensures.value)
    at c.in_err-heights-in-Rise.ensures.refusals in
    rw (p.1, p.2) (view_refused w grid _ c.in_err-heights-in-Rise.field-0.0
    c.workers-workers.ensures.limits.2 c.workers-workers.ensures.limits.3
    (λ x. not_jobs x grid.terrain c.in-Rise.observers.items 0 c.in-Rise.radius)
    (c.requires.sound ∙ ap (λ o. option_map Sight o) asked) refusals)

pub returns-in-Rise-clause-ready : goal.returns-in-Rise-clause-ready
returns-in-Rise-clause-ready g c =
    let w = c.args.options.now in
    let grid = c.args.grid in
    let asked : view_fault grid w.map
    ≡ observers_fault grid.terrain c.in-Rise.observers.items 0 c.in-Rise.radius =
    ap (λ m. view_fault grid m) (sym c.map.ensures ∙ c.in-Rise.is) in
    c.requires.sound ∙ ap (λ o. option_map Sight o) (asked
    ∙ no_fault _ _ _ (rw c.deref-in-Rise.ensures.value at c.in_ok-heights-in-Rise.ensures.refusals))

pub make_several-requires-clause-sound : goal.make_several-requires-clause-sound
make_several-requires-clause-sound g c κs within =
    let is = sym c.map.ensures ∙ c.in-Several.is in
    rw c.deref-in-Several.ensures.value (sym (ap (λ m. gauge_fault c.args.grid m) is)
    ∙ c.requires.gauges)

pub returns-clause-map : goal.returns-clause-map
returns-clause-map g c =
    let grid = c.args.grid in
    let maps = c.in-Several.maps.items in
    let gauges = c.in-Several.gauges.items in
    let made = c.in_ok-made-in-Several.made in
    subst (λ (m : Map). IsMapText grid m (flat_map (layer_text made) c.as_slice-maps.result.now))
    (sym (sym c.map.ensures ∙ c.in-Several.is)) (rw c.as_slice-maps.ensures.value
    (joined grid gauges maps made (rw (
      c.deref-in-Several.ensures.value,
      c.as_slice-maps.ensures.value,
    ) at c.in_ok-made-in-Several.ensures.made)))

pub returns-in_err-made-in-Several-clause-fault : goal.returns-in_err-made-in-Several-clause-fault
returns-in_err-made-in-Several-clause-fault g c =
    let p = err_from_is_err_and c.from_residual-in_err-made-in-Several.result
    c.from_residual-in_err-made-in-Several.ensures.1 in
    let w = c.args.options.now in
    let grid = c.args.grid in
    let is : w.map ≡ Several c.in-Several.maps c.in-Several.gauges =
    sym c.map.ensures ∙ c.in-Several.is in
    let unseen : view_fault grid w.map ≡ None = ap (λ m. view_fault grid m) is in
    rw (p.1, p.2) (of_jobs_refused w grid c.workers-workers.ensures.limits.2
    c.workers-workers.ensures.limits.3 (c.requires.sound ∙ ap (λ o. option_map Sight o) unseen)
    c.in_err-made-in-Several.field-0.0
    (rw c.workers-workers.ensures.value at c.in_err-made-in-Several.ensures.fault))
