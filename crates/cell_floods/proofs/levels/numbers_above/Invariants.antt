use Rattle.std.proofs.Common.{◌≡◌, length, map, take}
use Rattle.floods.specs.Notes.{height_or_lack}
use Rattle.cell_floods.proofs.levels.numbers_above.Given as goal

abbrev pub invariant-loop-node : goal.invariant-loop-node
invariant-loop-node g l =
    let stored = g.N.HeightAbove.stored l.lowest in
    record {
      size : length l.above.items ≡ length l.levels;
      same : map stored (take l.node l.above.items) ≡ map height_or_lack (take l.node l.levels);
    }
