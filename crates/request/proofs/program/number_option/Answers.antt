use Rattle.std.proofs.Common.{◌≡◌, [], ◌∷◌, Some, ap, rules}
use Rattle.clap.specs.Words.{Rule}
use Rattle.request.proofs.program.number_option.Goals as goal

pub returns : goal.returns
returns c =
    let parsed : c.value_parser.result.value_parser ≡ Some c.args.numbers = search rules in
    rw (
      c.help.ensures,
      c.default_value.ensures,
      c.value_parser.ensures.others,
      parsed,
      c.value_name.ensures,
      c.long.ensures,
    ) (
      ap (λ (r : Rule). record r {
        long = Some c.args.name.now;
        value_names = 1;
        defaults = c.args.default.now ∷ [];
        parser = Some c.args.numbers;
      }) c.new.ensures.rule,
      c.new.ensures.optional.1,
    )
