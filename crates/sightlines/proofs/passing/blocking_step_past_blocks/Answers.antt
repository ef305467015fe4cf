use Rattle.std.proofs.Common.{arith, sym, ap, ◌∙◌, ◌≡◌, ◌+◌, ◌-◌, ◌/◌, ◌*ℤ◌, ◌≤ℤ◌, ◌<◌, ◌≤◌, ℕ, ℤ, pos, List, Option, false, is_some}
use Rattle.std.specs.Int.{w64}
use Rattle.std.proofs.lemmas.Bool.{OnTrue_at}
use Rattle.std.proofs.lemmas.Int.{to_z-of_z}
use Rattle.sightlines.specs.Walk.{steps_of, step_blocks, step_range_blocks, IsAt}
use Rattle.sightlines.specs.Blocks.{AreTopsAlong, IsPeak}
use Rattle.sightlines.specs.declared.passing.BlockStrides.{BlockStrides}
use Rattle.sightlines.specs.declared.walk.Sightline.{Sightline}
use Rattle.sightlines.specs.declared.walk.Step.{Step}
use Rattle.sightlines.proofs.Heights.{height_fits}
use Rattle.sightlines.proofs.Steps.{whole_le}
use Rattle.sightlines.proofs.Ranges.{none_from, none_joined, any_within}
use Rattle.sightlines.proofs.LowBlocks.{step_above, step_passed}
use Rattle.sightlines.proofs.passing.blocking_step_past_blocks.Goals as goal

-- if the line is at or above the peak at step k and at its end, no step from k on blocks
none_above : (cells tops : List (Option ℤ)) (line : Sightline) (s : BlockStrides) (peak : ℤ) (k : ℕ) (here : Step) →
    0 < steps_of line → k ≤ steps_of line → IsAt line k here → AreTopsAlong 128 cells tops line s → IsPeak tops peak →
    (peak ≤ℤ line.to_elevation) × ((pos (steps_of line) *ℤ peak) ≤ℤ here.sight) →
    step_range_blocks cells line k (steps_of line - k) ≡ false
none_above cells tops line s peak k here some within at are is_peak clear =
    none_from (step_blocks cells line.lead line.side line.from_elevation line.to_elevation (steps_of line)) k
    (steps_of line - k) (λ j low high.
    step_above 128 cells tops line s peak k j here some low (omega arith) at are is_peak clear.1 clear.0)

pub returns-then-is_clear-clause-answer : goal.returns-then-is_clear-clause-answer
returns-then-is_clear-clause-answer c =
    let peak_is = to_z-of_z w64 c.args.tops.now.peak (height_fits _ c.requires.peak.0) in
    sym (none_above _ _ _ _ _ 1 _ (omega arith) (omega arith) c.at-begin.ensures c.requires.far_tops c.requires.peak.1
    (rw peak_is at (OnTrue_at c.if-is_clear.true c.is_clear.ensures)))

pub returns-in-Some-clause-answer : goal.returns-in-Some-clause-answer
returns-in-Some-clause-answer c =
    let line = c.args.line in
    let p = step_blocks c.args.cells.now line.lead line.side line.from_elevation line.to_elevation (steps_of line) in
    sym (any_within p 1 (steps_of line - 1) 1 (c.block_end-first.result - 1) (omega arith) (omega arith)
    (sym c.blocking_step.ensures.answer ∙ ap is_some c.in-Some.is))

pub returns-then-is_clear-2-clause-answer : goal.returns-then-is_clear-2-clause-answer
returns-then-is_clear-2-clause-answer c =
    let line = c.args.line in
    let n = steps_of line in
    let first = c.loop-first.first in
    let p = step_blocks c.args.cells.now line.lead line.side line.from_elevation line.to_elevation n in
    let all : n - 1 ≡ (first - 1) + (n - first) = omega arith in
    let peak_is = to_z-of_z w64 c.args.tops.now.peak (height_fits _ c.requires.peak.0) in
    let none =
    none_above _ _ line _ _ first _ (omega arith) (omega arith) c.loop-first.invariant.start c.requires.far_tops
    c.requires.peak.1 (rw peak_is at (OnTrue_at c.if-is_clear-2.true c.is_clear-in-loop-first.ensures)) in
    sym (rw all (none_joined p 1 (first - 1) first (n - first) (omega arith) c.loop-first.invariant.clear none))

pub is_clear_of_blocks-requires-clause-heights : goal.is_clear_of_blocks-requires-clause-heights
is_clear_of_blocks-requires-clause-heights c = rw c.deref.ensures.value c.requires.far_tops.heights

pub is_clear_of_blocks-requires-clause-lead : goal.is_clear_of_blocks-requires-clause-lead
is_clear_of_blocks-requires-clause-lead c =
    let line = c.args.line in
    omega (
      arith,
      c.lead_at-block.ensures,
      whole_le line.lead (steps_of line) c.loop-first.first (omega arith) (omega arith),
    )

pub is_clear_of_blocks-requires-clause-start : goal.is_clear_of_blocks-requires-clause-start
is_clear_of_blocks-requires-clause-start c =
    let line = c.args.line in
    omega (
      arith,
      c.loop-first.invariant.start.whole,
      whole_le line.side (steps_of line) c.loop-first.first (omega arith) (omega arith),
    )

pub is_clear_of_blocks-requires-clause-end : goal.is_clear_of_blocks-requires-clause-end
is_clear_of_blocks-requires-clause-end c =
    let line = c.args.line in
    omega (
      arith,
      c.at-next.ensures.whole,
      whole_le line.side (steps_of line) c.block_end-end.result (omega arith) (omega arith),
    )

pub returns-in-Some-blocking_step_past_near_blocks-clause-answer :
    goal.returns-in-Some-blocking_step_past_near_blocks-clause-answer
returns-in-Some-blocking_step_past_near_blocks-clause-answer c =
    let line = c.args.line in
    let first = c.loop-first.first in
    let p = step_blocks c.args.cells.now line.lead line.side line.from_elevation line.to_elevation (steps_of line) in
    sym (any_within p 1 (steps_of line - 1) first (c.block_end-end.result - first) (omega arith) (omega arith)
    (sym c.blocking_step_past_near_blocks.ensures.answer ∙
    ap is_some c.in-Some-blocking_step_past_near_blocks.is))

pub loop-first-preserved-in_default-blocking_step_past_near_blocks :
    goal.loop-first-preserved-in_default-blocking_step_past_near_blocks
loop-first-preserved-in_default-blocking_step_past_near_blocks c =
    let line = c.args.line in
    let first = c.loop-first.first in
    let end = c.block_end-end.result in
    let p = step_blocks c.args.cells.now line.lead line.side line.from_elevation line.to_elevation (steps_of line) in
    let all : end - 1 ≡ (first - 1) + (end - first) = omega arith in
    record {
      begun = omega arith;
      within = omega arith;
      start = c.at-next.ensures;
      clear = rw all (none_joined p 1 (first - 1) first (end - first) (omega arith) c.loop-first.invariant.clear
          (sym c.blocking_step_past_near_blocks.ensures.answer ∙
          ap is_some c.in_default-blocking_step_past_near_blocks.is));
    }

pub loop-first-preserved : goal.loop-first-preserved
loop-first-preserved c =
    let line = c.args.line in
    let first = c.loop-first.first in
    let end = c.block_end-end.result in
    let block = c.lead_at-block.result / 128 in
    let p = step_blocks c.args.cells.now line.lead line.side line.from_elevation line.to_elevation (steps_of line) in
    let all : end - 1 ≡ (first - 1) + (end - first) = omega arith in
    let here = ap (λ x. x / 128) (sym c.lead_at-block.ensures) in
    let low = rw c.deref.ensures.value at (OnTrue_at c.if-not-is_clear_of_blocks.false c.is_clear_of_blocks.ensures) in
    let none =
    none_from p first (end - first) (λ k above below.
    step_passed 128 _ _ line _ first end k block _ _ (omega arith) above (omega arith) (omega arith)
    c.loop-first.invariant.start c.at-next.ensures c.requires.far_tops
    (c.block_end-end.ensures.same k above (omega arith) ∙ here) low) in
    record {
      begun = omega arith;
      within = omega arith;
      start = c.at-next.ensures;
      clear = rw all (none_joined p 1 (first - 1) first (end - first) (omega arith) c.loop-first.invariant.clear none);
    }

pub is_clear_of_blocks-requires-clause-over : goal.is_clear_of_blocks-requires-clause-over
is_clear_of_blocks-requires-clause-over c = rw c.deref.ensures.value c.requires.far_tops.over

pub blocking_step-requires : goal.blocking_step-requires
blocking_step-requires c = record {
  heights = c.requires.heights;
  line = c.requires.line;
  over = c.requires.over;
  pace = c.new-pace.ensures;
  start = c.at-begin.ensures;
  range = (c.block_end-first.ensures.after, omega arith);
}

pub blocking_step_past_near_blocks-requires : goal.blocking_step_past_near_blocks-requires
blocking_step_past_near_blocks-requires c = record {
  heights = c.requires.heights;
  line = c.requires.line;
  over = c.requires.over;
  pace = c.new-pace.ensures;
  leap = c.new-leap.ensures;
  strides = c.requires.near;
  tops = rw c.deref-then-not-is_whole.ensures.value c.requires.near_tops;
  start = c.loop-first.invariant.start;
  range = (c.block_end-end.ensures.after, omega arith);
}

pub loop-first-init : goal.loop-first-init
loop-first-init c = record {
  begun = omega arith;
  within = omega arith;
  start = c.at-start.ensures;
  clear = sym c.blocking_step.ensures.answer ∙ ap is_some c.in_default.is;
}

pub returns-clause-answer : goal.returns-clause-answer
returns-clause-answer c =
    let all : c.loop-first.first ≡ steps_of c.args.line = omega arith in
    sym (rw all at c.loop-first.invariant.clear)
