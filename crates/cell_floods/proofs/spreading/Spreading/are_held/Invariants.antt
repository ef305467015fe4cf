use Rattle.std.proofs.Common.{◌<◌, ℕ}
use Rattle.cell_floods.specs.Spreading.{IsHeld}
use Rattle.cell_floods.proofs.spreading.Spreading.are_held.Given as goal

abbrev pub invariant-loop-node : goal.invariant-loop-node
invariant-loop-node l = (a : ℕ) → a < l.node → IsHeld l.self.net.now l.self.levels.items a
