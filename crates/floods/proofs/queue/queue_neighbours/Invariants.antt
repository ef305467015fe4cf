use Rattle.std.proofs.Common.{take}
use Rattle.floods.specs.Flood.{Relaxes}
use Rattle.floods.proofs.queue.queue_neighbours.Given as goal

abbrev pub invariant-loop-arc : goal.invariant-loop-arc
invariant-loop-arc l = Relaxes l.labels l.from
    (take l.arc-index l.arcs) l.initial.levels l.levels l.initial.queue l.queue
