use Rattle.std.proofs.Common.{◌∙◌, ap, codes}
use Rattle.std.proofs.lemmas.Result.{IfOk-weaker}
use Rattle.clap.specs.Words.{with_subcommand}
use Rattle.request.specs.CommandLine.{drainage_shape}
use Rattle.request.proofs.Commands.{app_with}
use Rattle.request.proofs.program.program.Goals as goal

pub returns : goal.returns
returns c =
    let with_fill = c.in_ok-program.ensures
    ∙ ap (λ a. with_subcommand a (drainage_shape (codes "fill"))) c.bare_program.ensures in
    let with_flow = c.in_ok-program-2.ensures
    ∙ ap (λ a. with_subcommand a (drainage_shape (codes "flow"))) with_fill in
    let with_accumulate = c.in_ok-program-3.ensures
    ∙ ap (λ a. with_subcommand a (drainage_shape (codes "accumulate"))) with_flow in
    let with_basins = c.in_ok-program-4.ensures
    ∙ ap (λ a. with_subcommand a (drainage_shape (codes "basins"))) with_accumulate in
    let with_catchments =
    app_with _ _ _ _ _ with_basins c.in_ok-catchments_command.ensures c.in_ok-program-5.ensures in
    let with_view =
    app_with _ _ _ _ _ with_catchments c.in_ok-view_command.ensures c.in_ok-program-6.ensures in
    let with_rise =
    app_with _ _ _ _ _ with_view c.in_ok-rise_command.ensures c.in_ok-program-7.ensures in
    IfOk-weaker c.subcommand-4.result _ _ (λ r h.
    app_with _ r _ _ _ with_rise c.in_ok-maps_command.ensures h) c.subcommand-4.ensures
