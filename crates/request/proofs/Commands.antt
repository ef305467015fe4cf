-- An argument that is not global adds its rule to the `Shape` of a command without subcommands and
-- without global arguments (`IsLeaf`). Such a command as a subcommand adds its shape to the `App`.
use Rattle.std.proofs.Common.{◌≡◌, ◌++◌, ◌∷◌, [], ◌||◌, ap, ap₂, ◌∙◌}
use Rattle.clap.specs.Words.{App, Rule, Shape, app_of, with_rule, with_subcommand}
use Rattle.clap.specs.Built.{AddsArg, AddsSubcommand}
use Rattle.clap.specs.declared.builder.arg.Arg.{Arg}
use Rattle.clap.specs.declared.builder.command.Command.{Command}
use Rattle.request.specs.Commands.{IsArg, IsLeaf}

pub leaf_with : (old new : Command) (a : Arg) (s : Shape) (r : Rule) → IsLeaf s old → IsArg r a →
    AddsArg old a new → IsLeaf (record s { rules = s.rules ++ r ∷ [] }) new
leaf_with old new a s r leaf is adds =
    (adds.shape is.1 ∙ ap₂ with_rule leaf.0 is.0, adds.globals ∙ ap₂ (λ x y. x || y) leaf.1 is.1)

pub app_with : (old new sub : Command) (app : App) (s : Shape) → app_of old ≡ app → IsLeaf s sub →
    AddsSubcommand old sub new → app_of new ≡ with_subcommand app s
app_with old new sub app s is leaf adds = adds.shape leaf.1
    ∙ ap₂ with_subcommand is (ap (λ (a : App). a.top) leaf.0)
