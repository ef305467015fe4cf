use Rattle.std.proofs.Common.{◌-◌, ◌∙◌, sym, arith}
use Rattle.sightlines.specs.Walk.{step_blocks, steps_of}
use Rattle.sightlines.proofs.Ranges.{any_within}
use Rattle.sightlines.proofs.line.is_blocked_from.Goals as goal

pub returns : goal.returns
returns c blocked =
    let l = c.args.line in
    let first = c.args.first in
    any_within (λ k. step_blocks c.args.cells.now l.lead l.side l.from_elevation l.to_elevation (steps_of l) k) 1
    (steps_of l - 1) first (c.min-end.result - first) (omega arith) (omega arith)
    (sym c.blocking_step.ensures.answer ∙ sym c.is_some.ensures ∙ blocked)
