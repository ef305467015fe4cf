use Rattle.std.proofs.Common.{◌≡◌, Some, ap, rules}
use Rattle.clap.specs.Lexer.{usize_max}
use Rattle.clap.specs.Words.{Rule}
use Rattle.clap.specs.declared.builder.range.ValueRange.{ValueRange}
use Rattle.clap.specs.declared.builder.action.ArgAction.TheVariants.{Append}
use Rattle.request.proofs.program.sink_words.Goals as goal

pub returns : goal.returns
returns c =
    let range : ValueRange = record { start_inclusive = 0; end_inclusive = usize_max } in
    let ranged : c.num_args.result.num_vals ≡ Some range = search rules in
    rw (c.help.ensures, c.num_args.ensures.0, ranged, c.action.ensures, c.value_name.ensures) (
      ap (λ (r : Rule). record r { action = Some Append; range = Some range; value_names = 1 })
          c.new.ensures.rule,
      c.new.ensures.optional.1,
    )
