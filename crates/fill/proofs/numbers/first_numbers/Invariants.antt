use Rattle.std.proofs.Common.{◌+◌, ◌*◌, ◌≤◌}
use Rattle.fill.proofs.Firsts.{AreFirstNumbers}
use Rattle.fill.proofs.numbers.first_numbers.Given as goal

abbrev pub invariant-loop-flood : goal.invariant-loop-flood
invariant-loop-flood l = record {
  firsts : AreFirstNumbers l.floods l.flood-index l.firsts.items l.count;
  few : l.count ≤ l.flood-index * (l.tiling.side * l.tiling.side + 1);
}
