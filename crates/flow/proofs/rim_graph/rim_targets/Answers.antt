use Rattle.std.proofs.Common.{◌*◌, ap, arith}
use Rattle.tiles.specs.Cutting.{bounds_of}
use Rattle.tiles.specs.RimNumbers.{stride}
use Rattle.flow.proofs.Ranges.{mapped_all}
use Rattle.flow.proofs.rim_graph.rim_targets.Goals as goal

pub returns : goal.returns
returns g c = mapped_all _ c.loop-tile.invariant (ap (λ n. n * stride (bounds_of c.args.tiling.now 0)) (omega arith))
