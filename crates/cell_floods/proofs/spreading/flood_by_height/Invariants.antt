use Rattle.std.proofs.Common.{◌≡◌}
use Rattle.cell_floods.specs.Spreading.{IsSound}
use Rattle.cell_floods.proofs.spreading.flood_by_height.Given as goal

abbrev pub invariant-loop-node : goal.invariant-loop-node
invariant-loop-node l = record {
  net : l.spreading.net.now ≡ l.net;
  sound : IsSound l.now l.spreading;
}
