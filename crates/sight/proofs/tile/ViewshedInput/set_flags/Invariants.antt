use Rattle.std.proofs.Common.{◌-◌, ◌*◌}
use Rattle.sight.specs.Flags.{AreFlagsBelow, IsFlagOf}
use Rattle.sight.proofs.tile.ViewshedInput.set_flags.Given as goal

abbrev pub invariant-loop-row : goal.invariant-loop-row
invariant-loop-row l = AreFlagsBelow l.fn.bounds
    (IsFlagOf l.check l.self.grid.now.terrain l.observer l.self.target_height l.self.radius)
    ((l.row - l.fn.bounds.top) * l.fn.bounds.cols) l.flags
