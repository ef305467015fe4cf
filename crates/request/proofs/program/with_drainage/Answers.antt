use Rattle.std.proofs.Common.{refl}
use Rattle.std.proofs.lemmas.Result.{IfOk-weaker}
use Rattle.request.proofs.Commands.{app_with}
use Rattle.request.proofs.program.with_drainage.Goals as goal

pub returns : goal.returns
returns c = IfOk-weaker c.subcommand.result _ _ (λ r h.
    app_with _ r _ _ _ refl c.in_ok-drainage_command.ensures h) c.subcommand.ensures
