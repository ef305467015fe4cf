use Rattle.std.proofs.Common.{refl}
use Rattle.fill.proofs.GraphParts.{just_node}
use Rattle.fill.proofs.spill_graph.SpillGraphNet.neighbours.Goals as goal

pub first_from-start-requires : goal.first_from-start-requires
first_from-start-requires c = rw c.deref.ensures.value c.self.invariant.1.rising

pub end_of-end-requires-clause-rising : goal.end_of-end-requires-clause-rising
end_of-end-requires-clause-rising c = rw c.deref-2.ensures.value c.self.invariant.1.rising

pub end_of-end-requires-clause-begin : goal.end_of-end-requires-clause-begin
end_of-end-requires-clause-begin c = rw (c.deref-2.ensures.value, ← c.deref.ensures.value) c.first_from-start.ensures

pub returns : goal.returns
returns c =
    let begin = rw c.deref.ensures.value at c.first_from-start.ensures in
    let end = rw c.deref-2.ensures.value at c.end_of-end.ensures in
    rw (c.in_ok-arcs_of.ensures, c.deref-3.ensures.value, ← c.self.view_is)
    (just_node _ _ _ _ c.self.invariant.1 refl end.from end.few begin.below begin.above end.below end.above)
