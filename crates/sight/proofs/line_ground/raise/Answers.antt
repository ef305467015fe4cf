use Rattle.std.proofs.Common.{arith}
use Rattle.horizons.proofs.Pieces.{later}
use Rattle.sight.proofs.Laid.{low_raised, more_raised, hidden_raised}
use Rattle.sight.proofs.line_ground.raise.Goals as goal

pub loop-from-init : goal.loop-from-init
loop-from-init c =
    let raised =
    low_raised c.args.cells.now _ _ _ _ c.args.highest.now _ _ _ c.clear.ensures c.requires.family
    c.requires.targets c.in_ok-push.ensures c.count_before_side-from.ensures.before c.passed_ramp.ensures.at
    c.passed_ramp.ensures.clear in
    record {
      within = c.count_before_side-from.ensures.range;
      target_count = raised.0;
      cursor = c.start-cursor.ensures c.args.highest.now c.count_before_side-from.result;
      raises = raised.1;
    }

pub end_of_clear-requires-clause-clear : goal.end_of_clear-requires-clause-clear
end_of_clear-requires-clause-clear c i t low high at =
    c.requires.clear i t c.piece-piece.result.ramp at (c.piece-piece.ensures.ramp i low high)

pub loop-from-preserved-in_ok-push-2 : goal.loop-from-preserved-in_ok-push-2
loop-from-preserved-in_ok-push-2 c =
    let l = c.loop-from in
    let highest = c.args.highest.now in
    let clear = c.in-Some.ensures in
    let raised =
    more_raised _ _ _ _ _ _ highest _ _ _ l.invariant.target_count c.piece-piece.ensures.range.0
    (rw c.cleared_to.ensures at c.in_ok-push-2.ensures) l.invariant.raises
    (λ i t low high at.
    hidden_raised _ _ _ _ c.in-Some.end i _ _ highest _ t c.requires.highest
    (c.piece-piece.ensures.ramp i low high) clear.0 clear.1 low high at) in
    record {
      within = omega (arith, c.piece-piece.ensures.range, c.requires.highest.whole);
      target_count = raised.0;
      cursor = later highest _ _ _ c.piece-piece.ensures.cursor (omega (arith, c.piece-piece.ensures.range));
      raises = raised.1;
    }
