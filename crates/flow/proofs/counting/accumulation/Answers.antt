use Rattle.std.proofs.lemmas.Result.{IfOk-weaker}
use Rattle.tile_maps.specs.Maps.{IsMadeMap}
use Rattle.tile_maps.proofs.Whole.{entry_of_map}
use Rattle.drainage.specs.Drained.{directed_of}
use Rattle.flow.specs.Counts.{accumulation, AreAccumulations}
use Rattle.flow.specs.Counting.{IsCountAt}
use Rattle.flow.specs.Whole.{directed_on}
use Rattle.flow.proofs.Counted.{counting_of, countable_all}
use Rattle.flow.proofs.Together.{grid_flow, whole_map}
use Rattle.flow.proofs.counting.accumulation.Goals as goal

pub flow_tiles-requires-clause-grid : goal.flow_tiles-requires-clause-grid
flow_tiles-requires-clause-grid g c κs within = grid_flow c.args.tiling.now c.codes.ensures.draining c.requires
    c.codes.ensures.value

pub join-requires : goal.join-requires
join-requires g c =
    let grid = grid_flow c.args.tiling.now c.codes.ensures.draining c.requires c.codes.ensures.value in (
      directed_on c.args.tiling.now c.codes.result.now,
      grid.ends,
      rw (← c.deref.ensures.value) at c.in_ok-flows.ensures.flows,
    )

pub invariant_of-map_tiles : goal.invariant_of-map_tiles
invariant_of-map_tiles g c =
    let t = c.args.tiling.now in
    let grid = grid_flow t c.codes.ensures.draining c.requires c.codes.ensures.value in
    let joined = rw (← c.deref.ensures.value) at c.in_ok-flows.ensures.flows in
    record {
      countable = countable_all (counting_of grid c.in_ok-flows.ensures.lawful c.in_ok-flows.ensures.flows
          (c.in-Ok.ensures.links (directed_on t c.codes.result.now) grid.ends joined)
          c.into_inflows-inflows.ensures.cutting c.into_inflows-inflows.ensures.inflows
          c.into_inflows-inflows.ensures.size);
    }

pub returns-clause-values : goal.returns-clause-values
returns-clause-values g c =
    let t = c.args.tiling.now in
    let codes = c.codes.result.now in
    let grid = grid_flow t c.codes.ensures.draining c.requires c.codes.ensures.value in
    let joined = rw (← c.deref.ensures.value) at c.in_ok-flows.ensures.flows in
    let counting = counting_of grid c.in_ok-flows.ensures.lawful c.in_ok-flows.ensures.flows
    (c.in-Ok.ensures.links (directed_on t codes) grid.ends joined)
    c.into_inflows-inflows.ensures.cutting c.into_inflows-inflows.ensures.inflows c.into_inflows-inflows.ensures.size in
    IfOk-weaker _ (λ v. IsMadeMap t (IsCountAt t c.in_ok-flows.flows.items c.into_inflows-inflows.result) v.items)
    (λ v. AreAccumulations (directed_of c.args.d.now) v.items) (λ v made. whole_map c.args.d.now t c.requires
    c.codes.ensures.value accumulation _ made.size (λ p i. entry_of_map t _ _ made p i codes counting))
    c.map_tiles.ensures.made
