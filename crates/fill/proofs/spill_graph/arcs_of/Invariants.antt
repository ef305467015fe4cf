use Rattle.std.proofs.Common.{◌≡◌, map, take}
use Rattle.fill.specs.Gathering.{arc_of}
use Rattle.fill.proofs.spill_graph.arcs_of.Given as goal

abbrev pub invariant-loop-join : goal.invariant-loop-join
invariant-loop-join l = l.arcs.items ≡ map arc_of (take l.join-index l.joins)
