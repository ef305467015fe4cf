use Rattle.std.proofs.Common.{◌≡◌, [], ◌∷◌, ◌+◌, ◌*◌, min, length, take, count_by, ap, arith}
use Rattle.std.proofs.lemmas.List.{length-append}
use Rattle.flow.specs.Whole.{is_outlet_code}
use Rattle.flow.proofs.Ranges.{each_pushed}
use Rattle.flow.proofs.outlet_numbers.OutletNumbers.of_codes.Goals as goal

pub loop-group-preserved : goal.loop-group-preserved
loop-group-preserved c =
    let codes = c.args.codes.now in
    let group = c.loop-group.group in
    let pushed = c.in_ok-push.ensures.items in
    let before = c.loop-group.invariant in
    let start : min (group * 16) (length codes) ≡ group * 16 = omega arith in
    let end : c.min.result ≡ min ((group + 1) * 16) (length codes) = omega arith in
    record {
      size = omega (arith, ap length pushed, length-append c.loop-group.before.items (c.loop-group.count ∷ []));
      each = each_pushed (λ k n. n ≡ count_by is_outlet_code (take (k * 16) codes)) _ _ before.size before.each
          (cc) pushed;
      total = cc;
    }
