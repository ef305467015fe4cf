use Rattle.std.proofs.Common.{pos}
use Rattle.std.proofs.lemmas.List.{take_more}
use Rattle.floods.proofs.Noting.{none_relaxed, more_relaxed}
use Rattle.floods.proofs.queue.queue_neighbours.Goals as goal

pub loop-arc-init : goal.loop-arc-init
loop-arc-init c = none_relaxed c.requires.order c.requires.noted

pub loop-arc-preserved : goal.loop-arc-preserved
loop-arc-preserved c =
    rw (take_more c.args.arcs.now c.loop-arc.arc-index (record { to = 0; height = pos 0 }) c.loop-arc-test.true)
    (more_relaxed _ _ c.loop-arc.invariant c.in_ok-queue_neighbour.ensures)
