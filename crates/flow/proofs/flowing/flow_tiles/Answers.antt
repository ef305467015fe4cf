use Rattle.std.proofs.Common.{refl}
use Rattle.flow.specs.TileFlow.{IsTileFlow}
use Rattle.flow.specs.Whole.{directed_on}
use Rattle.flow.proofs.Together.{jobs_gave}
use Rattle.flow.proofs.flowing.flow_tiles.Goals as goal

pub returns-clause-flows : goal.returns-clause-flows
returns-clause-flows g c =
    jobs_gave (IsTileFlow (directed_on c.args.tiling.now c.args.codes.now) c.args.tiling.now) _ _ c.tiles.ensures.value
    (λ outs count each. record { size = (refl, refl); count = count; each = each }) c.run.ensures.len
    c.run.ensures.given
