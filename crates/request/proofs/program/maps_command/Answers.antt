use Rattle.std.proofs.lemmas.Result.{IfOk-weaker}
use Rattle.request.proofs.Commands.{leaf_with}
use Rattle.request.proofs.program.maps_command.Goals as goal

pub returns : goal.returns
returns c =
    let with_sink =
    leaf_with _ _ _ _ _ c.in_ok-map_command.ensures c.sink_option.ensures c.in_ok-arg.ensures in
    let with_gauge =
    leaf_with _ _ _ _ _ with_sink c.gauge_option.ensures c.in_ok-arg-2.ensures in
    IfOk-weaker c.arg-3.result _ _ (λ r h.
    leaf_with _ r _ _ _ with_gauge c.required_words.ensures h) c.arg-3.ensures
