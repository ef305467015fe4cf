use Rattle.std.proofs.Common.{◌<◌, ◌↔◌, ℕ, IsSome, IsTrue, None, get_or}
use Rattle.cell_floods.proofs.cell_net.have_data.Given as goal

abbrev pub invariant-loop-cell : goal.invariant-loop-cell
invariant-loop-cell l = IsTrue l.all ↔ ((k : ℕ) → k < l.cell-index → IsSome (get_or l.cells k None))
