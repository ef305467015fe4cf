use Rattle.std.proofs.lemmas.Result.{IfOk-weaker}
use Rattle.request.proofs.Commands.{leaf_with}
use Rattle.request.proofs.program.rise_command.Goals as goal

pub returns : goal.returns
returns c =
    let with_radius =
    leaf_with _ _ _ _ _ c.in_ok-map_command.ensures c.radius_option.ensures c.in_ok-arg.ensures in
    IfOk-weaker c.arg-2.result _ _ (λ r h.
    leaf_with _ r _ _ _ with_radius c.required_words.ensures h) c.arg-2.ensures
