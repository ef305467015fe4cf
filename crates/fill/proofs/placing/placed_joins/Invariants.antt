use Rattle.std.proofs.Common.{take, []}
use Rattle.fill.specs.Placing.{AddsPlaced}
use Rattle.fill.proofs.placing.placed_joins.Given as goal

abbrev pub invariant-loop-join : goal.invariant-loop-join
invariant-loop-join l = AddsPlaced l.nodes (take l.join-index l.joins) [] l.placed.items
