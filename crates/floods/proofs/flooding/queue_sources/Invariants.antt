use Rattle.std.proofs.Common.{◌≡◌, length}
use Rattle.floods.specs.Flood.{InOrder, candidates_in, AreSourcesQueued, HasSourcesNoted}
use Rattle.floods.proofs.flooding.queue_sources.Given as goal

abbrev pub invariant-loop-node : goal.invariant-loop-node
invariant-loop-node g l = record {
  order : InOrder l.queue;
  sources : AreSourcesQueued l.node (g.N.Net.source_height l.net) (candidates_in l.queue);
  noted : HasSourcesNoted l.node (g.N.Net.source_height l.net) l.levels;
  size : length l.levels ≡ length l.initial.levels;
}
