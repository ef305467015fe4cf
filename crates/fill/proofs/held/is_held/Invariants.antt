use Rattle.std.proofs.Common.{◌≡◌, ℕ, ◌<◌, ℤ, ◌≤ℤ◌, get_or, None, Some}
use Rattle.terrain.specs.Ways.{around_index}
use Rattle.fill.proofs.held.is_held.Given as goal

abbrev pub invariant-loop-way : goal.invariant-loop-way
invariant-loop-way l = (way : ℕ) → way < l.way → (near : ℤ)
    × (get_or l.cells (get_or (around_index l.fn.cols l.fn.index) way 0) None ≡ Some near) × (l.level ≤ℤ near)
