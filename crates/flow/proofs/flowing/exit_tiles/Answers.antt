use Rattle.std.proofs.Common.{refl}
use Rattle.flow.specs.Whole.{directed_on}
use Rattle.flow.proofs.Together.{jobs_gave}
use Rattle.flow.proofs.flowing.exit_tiles.Goals as goal

pub returns-clause-flows : goal.returns-clause-flows
returns-clause-flows g c =
    let t = c.args.tiling.now in
    let d = directed_on t c.args.codes.now in
    jobs_gave _ _ _ c.tiles.ensures.value (λ outs count each. record {
      cutting = c.tiles.ensures.lawful;
      ends = c.requires.grid.ends;
      of_tiles = record { size = (refl, refl); count = count; each = each };
    }) c.run.ensures.len c.run.ensures.given
