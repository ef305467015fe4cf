use Rattle.std.proofs.Common.{arith, rules, refl}
use Rattle.decimals.proofs.Scaled.{padded_small}
use Rattle.decimals.proofs.decimal.plain_size.Goals as goal

pub returns : goal.returns
returns c =
    let front = c.leading_digits-len in
    let most = padded_small front.result.1 front.result.0 c.args.scale c.power_of_ten.result
    front.ensures.small c.power_of_ten.ensures.power (search rules) in
    record {
      some = search rules;
      short = front.ensures.within.0;
      within = front.ensures.within.1;
      digits = front.ensures.digits;
      value = rw (front.ensures.number, c.power_of_ten.ensures.power) refl;
      small = omega (arith, most);
    }
