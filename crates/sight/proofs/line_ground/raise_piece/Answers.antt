use Rattle.std.proofs.Common.{arith, sym, ◌∙◌, subst, pos, ◌-ℤ◌, ◌≤ℤ◌, get_or}
use Rattle.std.proofs.lemmas.Int.{ints}
use Rattle.std.proofs.lemmas.Result.{on_ok_weaker}
use Rattle.std.proofs.lemmas.Option.{slice_get-get_or, same_Some}
use Rattle.horizons.specs.declared.target.Target.{Target}
use Rattle.horizons.proofs.Sizes.{back_short}
use Rattle.sight.specs.Sweep.{Passes}
use Rattle.sight.proofs.Laid.{shown_over, high_raised, greater_raised}
use Rattle.sight.proofs.line_ground.raise_piece.Goals as goal

pub span-span-requires-clause-target : goal.span-span-requires-clause-target
span-span-requires-clause-target c =
    let at = slice_get-get_or c.args.targets.now c.loop-from.from (record { offset = pos 0; line = 0 }) (omega arith) in
    c.requires.targets.each c.loop-from.from _ at

pub returns-then-span-end_offset : goal.returns-then-span-end_offset
returns-then-span-end_offset c =
    let targets = c.args.targets.now in
    let f = c.args.family in
    let from = c.loop-from.from in
    let span = c.span-span.result in
    let u = get_or targets from (record { offset = pos 0; line = 0 }) in
    let at_u = slice_get-get_or targets from (record { offset = pos 0; line = 0 }) (omega arith) in
    let back = back_short span.offset (omega arith) in
    let end_back = back_short c.end_offset.result (omega arith) in
    let past : (pos f.side.cells -ℤ pos f.side.at) ≤ℤ span.offset = omega (arith, ints) in
    on_ok_weaker c.push.result (high_raised _ f targets _ from _ _ _ u _ _ c.push.new.self c.requires.line.0
    c.requires.family c.requires.targets at_u c.span-span.ensures.passes past c.loop-from.invariant.target_count
    c.loop-from-test.true c.passed_ramp.ensures.at c.passed_ramp.ensures.clear c.loop-from.invariant.raises)
    c.push.ensures

pub end_of-end-requires-clause-passes : goal.end_of-end-requires-clause-passes
end_of-end-requires-clause-passes c u at =
    let none : Target = record { offset = pos 0; line = 0 } in
    let P : Target → Type 0 = λ v. Passes c.args.line c.span-span.result.offset v in
    subst P (same_Some _ u (sym (slice_get-get_or c.args.targets.now c.loop-from.from none (omega arith)) ∙ at))
    c.span-span.ensures.passes

pub push_greater-requires-clause-one : goal.push_greater-requires-clause-one
push_greater-requires-clause-one c i t low high at =
    let at_u =
    slice_get-get_or c.args.targets.now c.loop-from.from (record { offset = pos 0; line = 0 }) (omega arith) in
    let shows =
    shown_over _ _ _ _ c.loop-from.from _ c.span-span.result _ c.requires.targets at_u c.span-span.ensures.shows
    (λ i t low high. c.end_of-end.ensures.over i _ t low high at_u) i t (omega arith) high at in
    shows.at

pub push_greater-requires-clause-other : goal.push_greater-requires-clause-other
push_greater-requires-clause-other c i t low high at =
    c.requires.highest.each i t c.args.piece.ramp at (c.requires.piece i (omega arith) (omega arith))

pub loop-from-preserved : goal.loop-from-preserved
loop-from-preserved c =
    let l = c.loop-from in
    let range = c.end_of-end.ensures.range in
    let at_u = slice_get-get_or c.args.targets.now l.from (record { offset = pos 0; line = 0 }) (omega arith) in
    let shows =
    shown_over _ _ _ _ l.from c.end_of-end.result c.span-span.result _ c.requires.targets at_u
    c.span-span.ensures.shows (λ i t low high. c.end_of-end.ensures.over i _ t low high at_u) in
    let raised =
    greater_raised _ _ _ _ _ _ _ _ _ _ _ l.invariant.target_count range.0 c.requires.highest c.requires.clear
    (λ i low high. c.requires.piece i (omega arith) (omega (arith, range))) c.span-span.ensures.clear
    c.in_ok-push_greater.ensures l.invariant.raises shows in
    record { within = (omega (arith, range), range.1); target_count = raised.0; raises = raised.1 }
