use Rattle.std.proofs.Common.{rules, arith, ap, subst, ◌≡◌, ◌+◌, ◌-◌, ◌*◌, ◌/◌, ◌≤◌, ℕ, ℤ, Option, None, get_or, max}
use Rattle.std.specs.Int.{w64}
use Rattle.std.proofs.lemmas.Int.{to_z-of_z}
use Rattle.std.proofs.lemmas.Bool.{OnTrue_at, OnTrue_from}
use Rattle.std.proofs.lemmas.Nat.{mul-le}
use Rattle.sightlines.specs.Walk.{steps_of}
use Rattle.sightlines.specs.Blocks.{IsLow, AreLowBetween}
use Rattle.sightlines.proofs.LowBlocks.{div_le, low_more}
use Rattle.sightlines.proofs.passing.is_clear_of_blocks.Goals as goal

pub are_low-requires-clause-room : goal.are_low-requires-clause-room
are_low-requires-clause-room c i below =
    let line = c.args.line in
    let strides = c.args.strides in
    let a =
    mul-le c.args.lead_block strides.lead (max line.lead.from line.lead.to / c.args.size) strides.lead
    c.requires.lead (omega arith) in
    let highest = div_le c.min-2.result (max line.side.from line.side.to) _ c.requires.size (omega arith) in
    let lowest = div_le c.min.result c.min-2.result _ c.requires.size (omega arith) in
    let b =
    mul-le ((c.min.result / c.args.size) + i) strides.side (max line.side.from line.side.to / c.args.size)
    strides.side (omega (arith, highest, lowest)) (omega arith) in
    omega (arith, a, b)

along : (x low q s : ℕ) → low ≤ q → x + low * s + (q - low) * s ≡ x + q * s
along x low q s h =
    let split : q ≡ (q - low) + low = omega arith in
    omega (arith, ap (λ z. z * s) split)

pub returns : goal.returns
returns c =
    let line = c.args.line in
    let strides = c.args.strides in
    let tops = c.args.tops.now in
    let low = c.min.result / c.args.size in
    let first = c.args.lead_block * strides.lead in
    let size = c.args.size in
    let below_start = rw (to_z-of_z w64 c.args.start.sight (search rules)) at c.min-sight.ensures.self_bound in
    let below_end = rw (to_z-of_z w64 c.args.end.sight (search rules)) at c.min-sight.ensures.other_bound in
    OnTrue_from c.are_low.result (AreLowBetween c.args.size tops strides line c.args.lead_block c.args.start c.args.end)
    (λ yes cell above below inside.
    let q = cell / size in
    let from = div_le c.min.result cell size c.requires.size (omega arith) in
    let to = div_le cell c.min-2.result size c.requires.size (omega arith) in
    let at = along first low q strides.side (omega (arith, from)) in
    let is =
    rw (c.steps.ensures, to_z-of_z w64 c.min-sight.result (search rules)) at
    ((OnTrue_at yes c.are_low.ensures) (q - low) (omega (arith, from, to))) in
    let P : Option ℤ → Type 0 = λ top. IsLow top (steps_of line) c.min-sight.result in
    let here = subst P (ap (λ x. get_or tops x None) at) is in
    let top = get_or tops (first + q * strides.side) None in
    (low_more top _ _ _ below_start here, low_more top _ _ _ below_end here))
