use Rattle.std.proofs.Common.{is_none}
use Rattle.std.specs.List.{count_by}
use Rattle.floods.specs.Flood.{InOrder, candidates_in, AreNoted, AreOwn}
use Rattle.floods.proofs.Heaps.{IsFlooding}
use Rattle.floods.proofs.flooding.flood_net.Given as goal

abbrev pub invariant-loop-waiting : goal.invariant-loop-waiting
invariant-loop-waiting g l = record {
  order : InOrder l.queue;
  state : IsFlooding (g.N.Net.joins l.net) (g.N.Net.source_height l.net)
      (g.N.Net.node_count l.net) l.levels l.labels (candidates_in l.queue);
  noted : AreNoted l.labels l.levels (candidates_in l.queue);
  own : AreOwn (g.N.Net.source_height l.net) l.labels l.levels (candidates_in l.queue);
}

abbrev pub decreases-loop-waiting : goal.decreases-loop-waiting
decreases-loop-waiting g l = count_by is_none l.labels
