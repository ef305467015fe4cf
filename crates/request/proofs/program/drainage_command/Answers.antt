use Rattle.std.proofs.lemmas.Result.{IfOk-weaker}
use Rattle.request.proofs.Commands.{leaf_with}
use Rattle.request.proofs.program.drainage_command.Goals as goal

pub returns : goal.returns
returns c =
    let with_sink =
    leaf_with _ _ _ _ _ c.in_ok-map_command.ensures c.sink_option.ensures c.in_ok-arg.ensures in
    IfOk-weaker c.arg-2.result _ _ (λ r h.
    leaf_with _ r _ _ _ with_sink c.sink_words.ensures h) c.arg-2.ensures
