use Rattle.std.proofs.Common.{◌≡◌, take, true, unwrap_or}
use Rattle.std.specs.List.{All}
use Rattle.terrain.specs.StoredCells.{no_data}
use Rattle.cell_floods.specs.Spreading.{IsNoneBelow}
use Rattle.cell_floods.proofs.spreading.Spreading.has_none_below.Given as goal

abbrev pub invariant-loop-node : goal.invariant-loop-node
invariant-loop-node l = l.none ≡ true → All
    (IsNoneBelow (unwrap_or l.level no_data) l.self.levels.items) (take l.node-index l.around)
