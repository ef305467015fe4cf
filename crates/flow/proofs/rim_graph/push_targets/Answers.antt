use Rattle.std.proofs.Common.{◌*◌, ◌<◌, sym, ap, ◌∙◌, arith}
use Rattle.tiles.specs.Cutting.{bounds_of}
use Rattle.tiles.specs.RimNumbers.{stride}
use Rattle.tiles.proofs.Cut.{bounds_inside}
use Rattle.flow.specs.RimGraph.{target_in}
use Rattle.flow.proofs.RimFlows.{target_in_tile}
use Rattle.flow.proofs.Ranges.{mapped_pushed, mapped_all}
use Rattle.flow.proofs.rim_graph.push_targets.Goals as goal

pub of_tile-flow-requires : goal.of_tile-flow-requires
of_tile-flow-requires g c = omega (arith, c.requires.flows.1.of_tiles.count)

pub target_of-requires-clause-some_row : goal.target_of-requires-clause-some_row
target_of-requires-clause-some_row g c =
    let s = c.requires.flows.1 in
    let flow = c.of_tile-flow.ensures in
    let bounds = (s.of_tiles.each _ _ flow.1).bounds in
    omega (
      arith,
      (bounds_inside _ _ s.cutting c.requires.tile).some_row,
      ap (λ b. b.rows) bounds,
      ap (λ f. f.bounds.rows) flow.2,
    )

pub loop-side-preserved : goal.loop-side-preserved
loop-side-preserved g c =
    let t = c.args.tiling.now in
    let flows = g.F.ExitList.flows c.args.flows.now in
    let first = c.args.tile * stride (bounds_of t 0) in
    let flow = c.of_tile-flow.ensures in
    let below : c.loop-side.side < stride (bounds_of t 0) = omega (arith, ap stride c.bounds-largest.ensures.value) in
    let target =
    c.target_of.ensures ∙ ap (λ l. target_in l c.of_tile-flow.result.now c.loop-side.side)
    c.bounds-largest.ensures.value ∙ ap (λ f. target_in (bounds_of t 0) f c.loop-side.side) flow.2 ∙
    sym (target_in_tile t flows _ _ _ below flow.1) in
    mapped_all _ (mapped_pushed _ _ c.loop-side.invariant target c.in_ok-push.ensures.items) (omega arith)
