use Rattle.std.proofs.Common.{arith, refl, ◌∙◌, ◌-◌, pos, w64, ap}
use Rattle.std.proofs.lemmas.Bool.{OnTrue_from, OnTrue_at}
use Rattle.std.proofs.lemmas.Int.{to_z-of_z}
use Rattle.std.proofs.lemmas.Option.{slice_get-get_or}
use Rattle.horizons.specs.Horizons.{ramp_hides}
use Rattle.horizons.proofs.Hiding.{hides_if_not_above}
use Rattle.horizons.proofs.Sizes.{back_short}
use Rattle.sight.specs.Sweep.{IsHiddenOn}
use Rattle.sight.proofs.Below.{passes_between, none_blocks, top_blocks}
use Rattle.sightlines.proofs.Heights.{kept, height_fits}
use Rattle.sight.proofs.line_ground.is_ground_below_piece.Goals as goal

pub offset_at-low-requires-clause-target : goal.offset_at-low-requires-clause-target
offset_at-low-requires-clause-target c =
    c.requires.targets.each c.args.from _
    (slice_get-get_or c.args.targets.now c.args.from (record { offset = pos 0; line = 0 }) (omega arith))

pub offset_at-high-requires-clause-target : goal.offset_at-high-requires-clause-target
offset_at-high-requires-clause-target c =
    c.requires.targets.each (c.args.piece.end - 1) _
    (slice_get-get_or c.args.targets.now (c.args.piece.end - 1) (record { offset = pos 0; line = 0 }) (omega arith))

pub returns-in_default : goal.returns-in_default
returns-in_default c i t low high at y rise stands later blocks =
    let low_back = back_short c.offset_at-low.result (omega arith) in
    let high_back = back_short c.offset_at-high.result (omega arith) in
    let ray =
    passes_between _ (record { offset = pos 0; line = 0 }) _ _ _ i _ _ t c.requires.targets c.requires.range.1
    c.offset_at-low.ensures.passes c.offset_at-high.ensures.passes low high at in
    let none = rw (low_back, high_back) at c.in_default.ensures.top in
    absurd (none_blocks c.args.cells.now c.args.family c.args.line y c.offset_at-low.result c.offset_at-high.result
    ray.0 rise t c.requires.family stands later ray.1 ray.2 ray.3 none blocks)

pub constant_ramp-requires-clause-height : goal.constant_ramp-requires-clause-height
constant_ramp-requires-clause-height c = kept _ (c.in-Some.ensures.height c.in-Some.top refl)

pub is_never_above-requires-clause-one : goal.is_never_above-requires-clause-one
is_never_above-requires-clause-one c i t low high at = c.constant_ramp.ensures.at t (c.requires.targets.each i t at)

pub returns : goal.returns
returns c =
    let f = c.args.family in
    let k = c.args.line in
    let top = c.in-Some.top in
    let ramp = c.args.piece.ramp in
    let low_back = back_short c.offset_at-low.result (omega (arith, c.offset_at-low.ensures.small)) in
    let high_back = back_short c.offset_at-high.result (omega (arith, c.offset_at-high.ensures.small)) in
    let near = rw (low_back, high_back) at c.in-Some.ensures.top in
    let top_back = to_z-of_z w64 top (height_fits top (c.in-Some.ensures.height top refl)) in
    let constant = rw top_back at c.constant_ramp.ensures.ramp in
    OnTrue_from c.is_never_above.result
    (IsHiddenOn c.args.cells.now f c.args.targets.now k ramp c.args.from c.args.piece.end)
    (λ yes i t low high at y rise stands later blocks.
    let ray =
    passes_between _ (record { offset = pos 0; line = 0 }) _ _ _ i _ _ t c.requires.targets
    c.requires.range.1 c.offset_at-low.ensures.passes c.offset_at-high.ensures.passes low high at in
    let hides =
    ap (λ r. ramp_hides r t rise) constant ∙
    top_blocks c.args.cells.now f k y c.offset_at-low.result c.offset_at-high.result ray.0 rise top t
    c.requires.family stands later ray.1 ray.2 ray.3 near blocks in
    hides_if_not_above _ ramp t rise (c.constant_ramp.ensures.at t (c.requires.targets.each i t at))
    (c.requires.ramp i t low high at) (OnTrue_at yes c.is_never_above.ensures i t low high at) hides)
