use Rattle.std.proofs.Common.{arith, rules, refl, sym, ◌∙◌, take}
use Rattle.std.specs.Prelude.{codes}
use Rattle.std.specs.Cmp.Lexicographic.{same_text}
use Rattle.decimals.proofs.decimal.size_after_minus.Goals as goal

pub returns-then-starts_with : goal.returns-then-starts_with
returns-then-starts_with c =
    let is = same_text (codes "9999") (take 4 c.args.bytes.now)
    (sym c.if-starts_with.true ∙ c.starts_with.ensures.value) in
    record {
      some = omega arith;
      short = omega arith;
      within = c.starts_with.ensures.bound (search rules);
      digits = rw (← is) refl;
      value = rw (← is, c.power_of_ten.ensures.power) refl;
      small = omega (arith, c.power_of_ten.ensures.small);
    }
