use Rattle.std.proofs.Common.{◌≡◌, ◌<◌, ◌⊎◌, ℕ, None, true}
use Rattle.floods.specs.Notes.{no_label}
use Rattle.cell_floods.specs.Cells.{cell_at}
use Rattle.cell_floods.specs.Spreading.{HasLabel, number_of}
use Rattle.cell_floods.proofs.spreading.Spreading.are_labelled.Given as goal

abbrev pub invariant-loop-node : goal.invariant-loop-node
invariant-loop-node l = l.all ≡ true → (a : ℕ) → a < l.node → HasLabel l.self.labels.items a
    ⊎ ((cell_at l.self.net.now a ≡ None) × (number_of l.self.labels.items a ≡ no_label))
