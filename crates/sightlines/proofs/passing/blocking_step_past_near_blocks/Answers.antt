use Rattle.std.proofs.Common.{arith, sym, ap, ◌∙◌, ◌≡◌, ◌+◌, ◌-◌, ◌/◌, is_some}
use Rattle.std.proofs.lemmas.Bool.{OnTrue_at}
use Rattle.sightlines.specs.Walk.{steps_of, step_blocks}
use Rattle.sightlines.proofs.Steps.{whole_le}
use Rattle.sightlines.proofs.Ranges.{none_from, none_joined, any_within}
use Rattle.sightlines.proofs.LowBlocks.{step_passed}
use Rattle.sightlines.proofs.passing.blocking_step_past_near_blocks.Goals as goal

pub is_clear_of_blocks-requires-clause-lead : goal.is_clear_of_blocks-requires-clause-lead
is_clear_of_blocks-requires-clause-lead c =
    let line = c.args.line in
    omega (
      arith,
      c.lead_at-block.ensures,
      whole_le line.lead (steps_of line) c.loop-step.step (omega arith) (omega arith),
    )

pub is_clear_of_blocks-requires-clause-start : goal.is_clear_of_blocks-requires-clause-start
is_clear_of_blocks-requires-clause-start c =
    let line = c.args.line in
    omega (
      arith,
      c.loop-step.invariant.start.whole,
      whole_le line.side (steps_of line) c.loop-step.step (omega arith) (omega arith),
    )

pub is_clear_of_blocks-requires-clause-end : goal.is_clear_of_blocks-requires-clause-end
is_clear_of_blocks-requires-clause-end c =
    let line = c.args.line in
    omega (
      arith,
      c.to-next.ensures.whole,
      whole_le line.side (steps_of line) c.block_end-past.result (omega arith) (omega arith),
    )

pub returns-in-Some-clause-answer : goal.returns-in-Some-clause-answer
returns-in-Some-clause-answer c =
    let line = c.args.line in
    let step = c.loop-step.step in
    let p = step_blocks c.args.cells.now line.lead line.side line.from_elevation line.to_elevation (steps_of line) in
    sym (any_within p c.args.first (c.args.end - c.args.first) step (c.block_end-past.result - step) (omega arith)
    (omega arith) (sym c.blocking_step.ensures.answer ∙ ap is_some c.in-Some.is))

pub loop-step-preserved-in_default : goal.loop-step-preserved-in_default
loop-step-preserved-in_default c =
    let line = c.args.line in
    let first = c.args.first in
    let step = c.loop-step.step in
    let past = c.block_end-past.result in
    let p = step_blocks c.args.cells.now line.lead line.side line.from_elevation line.to_elevation (steps_of line) in
    let all : past - first ≡ (step - first) + (past - step) = omega arith in
    record {
      begun = omega arith;
      within = omega arith;
      start = c.to-next.ensures;
      clear = rw all (none_joined p first (step - first) step (past - step) (omega arith) c.loop-step.invariant.clear
          (sym c.blocking_step.ensures.answer ∙ ap is_some c.in_default.is));
    }

pub loop-step-preserved : goal.loop-step-preserved
loop-step-preserved c =
    let line = c.args.line in
    let first = c.args.first in
    let step = c.loop-step.step in
    let past = c.block_end-past.result in
    let block = c.lead_at-block.result / 16 in
    let p = step_blocks c.args.cells.now line.lead line.side line.from_elevation line.to_elevation (steps_of line) in
    let all : past - first ≡ (step - first) + (past - step) = omega arith in
    let here = ap (λ x. x / 16) (sym c.lead_at-block.ensures) in
    let none =
    none_from p step (past - step) (λ k above below.
    step_passed 16 _ _ line _ step past k block _ _ (omega arith) above (omega arith) (omega arith)
    c.loop-step.invariant.start c.to-next.ensures c.requires.tops
    (c.block_end-past.ensures.same k above (omega arith) ∙ here)
    (OnTrue_at c.if-not-is_clear_of_blocks.false c.is_clear_of_blocks.ensures)) in
    record {
      begun = omega arith;
      within = omega arith;
      start = c.to-next.ensures;
      clear =
          rw all (none_joined p first (step - first) step (past - step) (omega arith) c.loop-step.invariant.clear none);
    }
