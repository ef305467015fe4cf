use Rattle.std.proofs.Common.{get_or, None, ◌∙◌, arith}
use Rattle.std.proofs.lemmas.List.{get_or_default, length-set}
use Rattle.flow.specs.TileLinks.{IsInteriorMove}
use Rattle.flow.proofs.Moved.{each_set}
use Rattle.flow.proofs.tile_links.set_interior_moves.Goals as goal

pub loop-index-preserved : goal.loop-index-preserved
loop-index-preserved c =
    let cells = c.args.cells.now in
    let k = c.loop-index.index in
    let read = c.index-cells-index.is ∙ get_or_default cells k _ None (omega arith) in
    record {
      size = cc (length-set c.loop-index.moves k c.interior_move.result);
      each = each_set (λ i move. IsInteriorMove (get_or cells i None) move) _ k _ (omega arith)
          (rw read at c.interior_move.ensures) c.loop-index.invariant.each;
    }

pub returns : goal.returns
returns c = record { size = c.loop-index.invariant.size; each = λ i h. c.loop-index.invariant.each i (omega arith) }
