use Rattle.std.proofs.Common.{◌+◌, ◌*◌, None, refl, arith}
use Rattle.std.proofs.lemmas.Int.{ints}
use Rattle.std.proofs.lemmas.List.{get_or_default}
use Rattle.drain.proofs.Steepest.{fall_next}
use Rattle.drain.proofs.steepness.greatest_fall.Goals.{then-number, else-number}
use Rattle.drain.proofs.steepness.greatest_fall.Goals as goal

pub loop-turn-preserved : goal.loop-turn-preserved
loop-turn-preserved c =
    let heights = c.args.heights.now in
    let next = 2 * c.loop-turn.turn + c.args.parity in
    let cell = c.loop-turn.invariant.cell in
    let other = get_or_default heights next c.index-heights-next.result None
    (omega (arith, c.type_inv.heights, c.loop-turn-test.true, c.requires)) in
    let fall = fall_next refl
    c.requires.parity c.loop-turn-test.true c.requires.heights cell other c.loop-turn.invariant.way in
    elim c.if-number.branch [
      | then-number w ↦ rw (w.way'-is, w.cell-is) (record {
        way = fall.0 (omega (arith, ints, w.if-number.true, c.number.ensures, c.number-in-loop-turn.ensures));
        cell = other;
      })
      | else-number w ↦ rw (w.way'-is, w.cell-is) (record {
        way = fall.1 (omega (arith, ints, w.if-number.false, c.number.ensures, c.number-in-loop-turn.ensures));
        cell = cell;
      })
    ]
