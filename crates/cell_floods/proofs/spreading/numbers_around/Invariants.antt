use Rattle.std.proofs.Common.{◌≡◌, ◌<◌, ℕ, get_or}
use Rattle.cell_floods.specs.Spreading.{number_of, waiting}
use Rattle.cell_floods.proofs.spreading.numbers_around.Given as goal

abbrev pub invariant-loop-node : goal.invariant-loop-node
invariant-loop-node l = l.least < waiting →
    (k : ℕ) × (k < l.node-index) × (number_of l.labels (get_or l.around k 0) ≡ l.least)
