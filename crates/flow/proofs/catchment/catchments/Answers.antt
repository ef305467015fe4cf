use Rattle.std.proofs.Common.{◌∙◌, sym, ap, refl, arith}
use Rattle.std.specs.Prelude.{◌==◌}
use Rattle.terrain.specs.Neighbours.{index_of}
use Rattle.terrain.specs.declared.place.Place.{Place}
use Rattle.flow.specs.CutCodes.{gauge_numbers}
use Rattle.flow.specs.Whole.{directed_on}
use Rattle.flow.proofs.CutPaths.{cut_ends, catchments_are, position_below, or_zero}
use Rattle.flow.proofs.GaugeFaults.{all_sound, few_gauges, have_codes_in, refuses}
use Rattle.flow.proofs.Reaching.{ending_of}
use Rattle.flow.proofs.Together.{directed_same, grid_flow}
use Rattle.flow.proofs.catchment.catchments.Goals as goal

pub returns-in-Some-clause-refusals : goal.returns-in-Some-clause-refusals
returns-in-Some-clause-refusals g c =
    refuses c.args.d.now.terrain c.args.gauges.now c.in-Some.fault c.args.workers (cc)

pub cut_codes-requires-clause-size : goal.cut_codes-requires-clause-size
cut_codes-requires-clause-size g c = (grid_flow c.args.tiling.now c.codes.ensures.draining c.requires
    c.codes.ensures.value).size

pub cut_codes-requires-clause-coded : goal.cut_codes-requires-clause-coded
cut_codes-requires-clause-coded g c p named =
    have_codes_in c.codes.ensures.draining _ (cc) c.args.tiling.now c.requires c.codes.ensures.value p named

pub of_gauges-requires-clause-few : goal.of_gauges-requires-clause-few
of_gauges-requires-clause-few g c = few_gauges c.codes.ensures.draining _ (cc)

pub of_gauges-requires-clause-within : goal.of_gauges-requires-clause-within
of_gauges-requires-clause-within g c k d below =
    let sound = all_sound c.codes.ensures.draining _ (cc) k d below in
    omega (arith, sound.0.0, c.requires.1, sound.0.1, c.requires.0)

pub exit_tiles-requires-clause-grid : goal.exit_tiles-requires-clause-grid
exit_tiles-requires-clause-grid g c κs within =
    let t = c.args.tiling.now in
    let codes = c.codes.result.now in
    let flow = grid_flow t c.codes.ensures.draining c.requires c.codes.ensures.value in
    let d = directed_on t codes in
    let coded = have_codes_in c.codes.ensures.draining _ (cc) t c.requires c.codes.ensures.value in
    rw c.deref.ensures.value (record {
      size = c.in_ok-codes.ensures.cut.size ∙ flow.size;
      ends = cut_ends (ending_of d flow.ends c.in_ok-codes.ensures.cutting (refl, refl)) coded
          c.in_ok-codes.ensures.cut;
    })

pub number_cells-requires-clause-flows : goal.number_cells-requires-clause-flows
number_cells-requires-clause-flows g c κs within =
    (directed_on c.args.tiling.now c.deref.result.now, c.in_ok-flows.ensures.flows)

pub number_cells-requires-clause-few : goal.number_cells-requires-clause-few
number_cells-requires-clause-few g c κs within i below =
    let few = few_gauges c.codes.ensures.draining c.args.gauges.now (sym c.first_fault.ensures ∙ c.in_default.is) in
    let number = ap or_zero (c.in_ok-numbers.ensures.numbers i) in
    omega (
      arith,
      number,
      few,
      position_below (λ (q : Place). index_of c.args.tiling.now.cols q == i) 0 c.args.gauges.now,
    )

pub returns-clause-values : goal.returns-clause-values
returns-clause-values g c =
    let t = c.args.tiling.now in
    let codes = c.codes.result.now in
    let flow = grid_flow t c.codes.ensures.draining c.requires c.codes.ensures.value in
    let d = directed_on t codes in
    let coded = have_codes_in c.codes.ensures.draining c.args.gauges.now (sym c.first_fault.ensures ∙ c.in_default.is) t
    c.requires c.codes.ensures.value in
    let n = gauge_numbers c.in_ok-numbers.numbers.cells c.in_ok-numbers.numbers.numbers in
    let values = c.in_ok-values.values.items in
    (rw (directed_same c.args.d.now t c.requires c.codes.ensures.value) at (
    catchments_are (ending_of d flow.ends c.in_ok-codes.ensures.cutting (refl, refl)) coded c.in_ok-codes.ensures.cut n
    (λ i. ap or_zero (c.in_ok-numbers.ensures.numbers i)) (c.in_ok-values.ensures.values
    (directed_on t c.in_ok-codes.codes.items) (rw c.deref.ensures.value at c.in_ok-flows.ensures.flows))
    ))
