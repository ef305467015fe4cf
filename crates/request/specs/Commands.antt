-- The program without its subcommands (`bare_app`). A command of `clap` has a given `Shape`, its
-- settings and its arguments' rules (`IsLeaf`). An argument of `clap` has a given `Rule` (`IsArg`).
-- Private.
use Rattle.std.specs.Prelude.{◌≡◌, true, false, [], codes}
use Rattle.clap.specs.Words.{App, Rule, Shape, app_of, rule_of}
use Rattle.clap.specs.Simple.{new_shape}
use Rattle.clap.specs.declared.builder.arg.Arg.{Arg}
use Rattle.clap.specs.declared.builder.command.Command.{Command}
use Rattle.clap.specs.declared.builder.command.Command.TheViews.{out-Command}

-- The program without its subcommands.
abbrev pub bare_app : App
bare_app = record {
  top = record (new_shape (codes "relief")) {
    disable_help_subcommand = true;
    has_version = true;
    subcommand_required = true;
  };
  subs = [];
}

-- The argument has this rule and is not global.
abbrev pub IsArg : Rule → Arg → Type 0
IsArg rule a = (rule_of a ≡ rule) × (a.global ≡ false)

-- The command has this shape, no subcommands and no global arguments.
abbrev pub IsLeaf : Shape → Command → Type 0
IsLeaf shape c =
    (app_of c ≡ record { top = shape; subs = [] }) × ((out-Command c).has_globals ≡ false)
