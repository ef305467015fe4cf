use Rattle.std.proofs.Common.{ap, ◌∙◌, arith}
use Rattle.flow.specs.RimGraph.{side_cell}
use Rattle.flow.proofs.Piece.{bounds_end_in_grid}
use Rattle.flow.proofs.RimAdded.{adds_fit, adds_more, adds_done}
use Rattle.flow.proofs.inflows.add_all.Goals as goal

pub add_at-requires-clause-small : goal.add_at-requires-clause-small
add_at-requires-clause-small c = bounds_end_in_grid c.bounds-bounds.ensures.lawful c.bounds-bounds.ensures.inside

pub add_at-requires-clause-fits : goal.add_at-requires-clause-fits
add_at-requires-clause-fits c =
    adds_fit c.bounds-bounds.ensures.lawful _ _ c.requires.tile _ c.bounds-bounds.ensures.value _ _
    (c.side_cell.ensures.value ∙ ap (λ l. side_cell l c.bounds-bounds.result c.loop-side.side)
    c.bounds-largest.ensures.value) (cc) (omega arith) c.loop-side.invariant.each c.requires.fits

pub loop-side-preserved : goal.loop-side-preserved
loop-side-preserved c = record {
  size = cc;
  each = adds_more c.bounds-bounds.ensures.lawful _ _ c.requires.tile c.args.weights.now c.bounds-bounds.ensures.value _
      _ _ (c.side_cell.ensures.value ∙ ap (λ l. side_cell l c.bounds-bounds.result c.loop-side.side)
      c.bounds-largest.ensures.value) (cc) c.loop-side.invariant.each c.add_at.ensures.each;
}

pub returns-clause-each : goal.returns-clause-each
returns-clause-each c =
    adds_done c.bounds-bounds.ensures.lawful _ _ c.requires.tile _ _ (omega arith) c.loop-side.invariant.each
