use Rattle.std.proofs.Common.{◌≡◌, ◌+◌, ◌-◌, ◌*◌, ◌^◌, ◌/◌, ◌%◌, inl, inr, ap, refl, sym, to_z-of_z, ◌∙◌, arith}
use Rattle.std.proofs.lemmas.Bool.{cases_lt}
use Rattle.drain.specs.Steepness.{weight}
use Rattle.drain.specs.Drops.{weight_on}
use Rattle.drain.proofs.Steepest.{root_of_two, steepest_is, weight_even, weight_odd}
use Rattle.drain.proofs.steepness.steepest.Goals as goal

pub returns : goal.returns
returns c =
    let level = c.args.level in
    let heights = c.args.heights.now in
    let straight = rw (to_z-of_z c.ranges.level) at c.greatest_fall-straight.ensures in
    let across = rw (to_z-of_z c.ranges.level) at c.greatest_fall-across.ensures in
    let s = c.greatest_fall-straight.result in
    let a = c.greatest_fall-across.result in
    let side : 2 * c.square-side.result ≡ weight_on level heights s.way = ap (λ n. 2 * n) c.square-side.ensures.value
    ∙ sym (weight_even s.way s.drop straight.way.among) ∙ ap (weight s.way) straight.drop in
    let corner : c.square-corner.result ≡ weight_on level heights a.way = c.square-corner.ensures.value
    ∙ sym (weight_odd a.way a.drop across.way.among) ∙ ap (weight a.way) across.drop in
    let less = (2 * c.square-side.result + (2 ^ 128 - (c.square-corner.result + 1))) % 2 ^ 128 / 2 ^ 127 in
    rw c.then_some.ensures (elim (cases_lt c.square-corner.result (2 * c.square-side.result)) [
      | inl more ↦ (let first : less ≡ 0 = omega (arith, more, c.square-side.ensures.bound) in
          rw first (steepest_is straight.way across.way refl (omega (arith, side, corner, more))
          (λ same. absurd (omega (arith, side, corner, same, more)))
          (s.drop + a.drop) (omega (arith, straight.drop, across.drop))))
      | inr most ↦ (let second : less ≡ 1 = omega (arith, most, c.square-corner.ensures.bound) in
          rw second (steepest_is across.way straight.way refl (omega (arith, side, corner, most))
          (λ same. (let twice : 2 * (s.drop * s.drop) ≡ a.drop * a.drop = omega (
            arith,
            side,
            corner,
            same,
            c.square-side.ensures.value,
            c.square-corner.ensures.value,
          ) in
          omega (
            arith,
            corner,
            c.square-corner.ensures.value,
            twice,
            ap (λ n. n * n) (root_of_two s.drop s.drop a.drop (omega arith) twice),
          )))
          (s.drop + a.drop) (omega (arith, straight.drop, across.drop))))
    ])
