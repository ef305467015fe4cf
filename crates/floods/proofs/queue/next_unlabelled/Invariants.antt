use Rattle.std.proofs.Common.{length}
use Rattle.floods.specs.Flood.{InOrder, candidates_in}
use Rattle.floods.proofs.Heaps.{OnlyDoneLeft}
use Rattle.floods.proofs.queue.next_unlabelled.Given as goal

abbrev pub invariant-loop-waiting : goal.invariant-loop-waiting
invariant-loop-waiting l = record {
  order : InOrder l.queue;
  done : OnlyDoneLeft l.labels (candidates_in l.initial.queue) (candidates_in l.queue);
}

abbrev pub decreases-loop-waiting : goal.decreases-loop-waiting
decreases-loop-waiting l = length (candidates_in l.queue)
