use Rattle.std.proofs.Common.{arith}
use Rattle.flow.proofs.Ending.{end-inside}
use Rattle.flow.proofs.ends.Paths.are_zero.Goals as goal

pub returns : goal.returns
returns g c _ i below =
    let self = c.args.self.now in
    let streams = self.sound.streams in
    c.loop-node.invariant _ (omega (arith, end-inside streams i below)) (streams.ends i below)
