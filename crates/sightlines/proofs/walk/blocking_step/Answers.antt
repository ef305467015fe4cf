use Rattle.std.proofs.Common.{arith, rules, refl, sym, ap, ◌∙◌, ◌≡◌, ◌<◌, ◌+◌, ◌-◌, w64}
use Rattle.std.proofs.lemmas.Nat.{mul-le}
use Rattle.std.proofs.lemmas.Int.{to_z-of_z}
use Rattle.sightlines.specs.Walk.{step_blocks, steps_of}
use Rattle.sightlines.proofs.Steps.{index_stays, index_passes, near_inside, far_inside, room, next_is, whole_le}
use Rattle.sightlines.proofs.Elevations.{next_elevation, elevation_fits, rise_fits}
use Rattle.sightlines.proofs.Ranges.{any_more, any_at}
use Rattle.sightlines.proofs.walk.blocking_step.Goals as goal

pub overflow_add-index : goal.overflow_add-index
overflow_add-index c =
    let line = c.args.line in
    let n = steps_of line in
    let lead = whole_le line.lead n c.args.first (omega arith) (omega arith) in
    let side = whole_le line.side n c.args.first (omega arith) (omega arith) in
    let a = mul-le c.lead_at.result line.lead.stride 4096 4096 (omega (arith, lead)) (omega arith) in
    let b = mul-le c.args.start.whole line.side.stride 4096 4096 (omega (arith, side)) (omega arith) in
    omega (arith, a, b)

pub is_higher-requires-clause-near : goal.is_higher-requires-clause-near
is_higher-requires-clause-near c =
    rw c.loop-step.invariant.index
    (near_inside _ _ _ (steps_of c.args.line) c.loop-step.step c.requires.over (omega arith) (omega arith))

pub is_higher-requires-clause-far : goal.is_higher-requires-clause-far
is_higher-requires-clause-far c some =
    rw c.loop-step.invariant.index (far_inside _ _ _ (steps_of c.args.line) c.loop-step.step c.requires.over
    (omega arith) (omega arith) (omega arith))

pub returns-then-is_higher-clause-answer : goal.returns-then-is_higher-clause-answer
returns-then-is_higher-clause-answer c =
    let line = c.args.line in
    let k = c.loop-step.step in
    let reported =
    rw (c.loop-step.invariant.index, c.loop-step.invariant.part, c.loop-step.invariant.sight, c.requires.pace.steps)
    at c.is_higher.ensures in
    let at : c.args.first + (k - c.args.first) ≡ k = omega arith in
    let p = step_blocks c.args.cells.now line.lead line.side line.from_elevation line.to_elevation (steps_of line) in
    sym (any_at p c.args.first (c.args.end - c.args.first) (k - c.args.first) (omega arith)
    (ap p at ∙ sym reported ∙ c.if-is_higher.true))

pub next-requires-clause-room : goal.next-requires-clause-room
next-requires-clause-room c =
    let fits =
    room _ _ _ c.loop-step.step _ (omega arith) (omega arith) c.requires.pace c.requires.line.ends
    c.requires.line.strides in
    omega (arith, fits)

pub next-requires-clause-stays : goal.next-requires-clause-stays
next-requires-clause-stays c below =
    let is = index_stays _ _ _ c.loop-step.step _ refl (omega arith) c.requires.pace (omega arith) in
    omega arith

pub next-requires-clause-passes : goal.next-requires-clause-passes
next-requires-clause-passes c passed =
    let is = index_passes _ _ _ c.loop-step.step _ refl (omega arith) c.requires.pace (omega arith) in
    omega arith

pub overflow_add-sight : goal.overflow_add-sight
overflow_add-sight c =
    (next_elevation _ _ (steps_of c.args.line) c.loop-step.step c.loop-step.sight-bits c.requires.line.from_elevation
    c.requires.line.to_elevation (omega arith) (omega arith) c.loop-step.invariant.sight).0

pub loop-step-preserved : goal.loop-step-preserved
loop-step-preserved c =
    let line = c.args.line in
    let n = steps_of line in
    let k = c.loop-step.step in
    let first = c.args.first in
    let next =
    next_is _ _ n k _ c.next.result.0 c.next.result.1 refl (omega arith) c.requires.pace
    (rw (c.loop-step.invariant.index, c.loop-step.invariant.part) at c.next.ensures.stays)
    (rw (c.loop-step.invariant.index, c.loop-step.invariant.part) at c.next.ensures.passes) in
    let elevation =
    next_elevation _ _ n k c.loop-step.sight-bits c.requires.line.from_elevation c.requires.line.to_elevation
    (omega arith) (omega arith) c.loop-step.invariant.sight in
    let p = step_blocks c.args.cells.now line.lead line.side line.from_elevation line.to_elevation n in
    let reported =
    rw (c.loop-step.invariant.index, c.loop-step.invariant.part, c.loop-step.invariant.sight, c.requires.pace.steps)
    at c.is_higher.ensures in
    let at : first + (k - first) ≡ k = omega arith in
    let more : k + 1 - first ≡ (k - first) + 1 = omega arith in
    record {
      index = next.0;
      part = next.1;
      sight = elevation.1;
      clear = rw more
          (any_more p first (k - first) c.loop-step.invariant.clear (ap p at ∙ sym reported ∙ c.if-is_higher.false));
    }

pub loop-step-init : goal.loop-step-init
loop-step-init c =
    let none : c.args.first - c.args.first ≡ 0 = omega arith in
    record {
      index = rw (c.lead_at.ensures, c.requires.start.whole) refl;
      part = c.requires.start.part;
      sight = to_z-of_z w64 c.args.start.sight (search rules) ∙ c.requires.start.sight;
      clear = rw none refl;
    }

pub overflow_sub-rise : goal.overflow_sub-rise
overflow_sub-rise c =
    let line = c.args.line in
    rw (
      to_z-of_z w64 line.from_elevation (elevation_fits _ c.requires.line.from_elevation),
      to_z-of_z w64 line.to_elevation (elevation_fits _ c.requires.line.to_elevation),
    )
    (rise_fits line.from_elevation line.to_elevation c.requires.line.from_elevation c.requires.line.to_elevation)

pub overflow_sub-pace : goal.overflow_sub-pace
overflow_sub-pace c = omega arith

pub is_higher-requires-clause-weights : goal.is_higher-requires-clause-weights
is_higher-requires-clause-weights c =
    let below : c.loop-step.part < c.args.pace.steps = omega arith in
    (omega arith, omega arith)

pub returns-clause-answer : goal.returns-clause-answer
returns-clause-answer c =
    let all : c.loop-step.step ≡ c.args.end = omega arith in
    sym (rw all at c.loop-step.invariant.clear)
