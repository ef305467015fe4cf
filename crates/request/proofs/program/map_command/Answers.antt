use Rattle.std.proofs.Common.{rules}
use Rattle.std.proofs.lemmas.Result.{IfOk-weaker}
use Rattle.clap.specs.Simple.{new_shape}
use Rattle.request.specs.Commands.{IsLeaf}
use Rattle.request.proofs.Commands.{leaf_with}
use Rattle.request.proofs.program.map_command.Goals as goal

pub returns : goal.returns
returns c =
    let begun : IsLeaf (new_shape c.args.name.now) c.after_help.result = search rules in
    let with_tile = leaf_with _ _ _ _ _ begun c.tile_option.ensures c.in_ok-arg.ensures in
    let with_workers =
    leaf_with _ _ _ _ _ with_tile c.workers_option.ensures c.in_ok-arg-2.ensures in
    let with_scale =
    leaf_with _ _ _ _ _ with_workers c.scale_option.ensures c.in_ok-arg-3.ensures in
    IfOk-weaker c.arg-4.result _ _ (λ r h.
    leaf_with _ r _ _ _ with_scale c.progress_flag.ensures h) c.arg-4.ensures
