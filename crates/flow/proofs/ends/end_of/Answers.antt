use Rattle.flow.proofs.Ending.{ends_here, moves_less, next_on_path}
use Rattle.flow.proofs.ends.end_of.Goals as goal

pub path-preserved : goal.path-preserved
path-preserved g c = next_on_path c.requires.streams _ _ c.next-next.ensures c.path.invariant

pub path-smaller : goal.path-smaller
path-smaller g c = moves_less c.requires.streams _ c.next-next.ensures c.if-next-node.false c.path.invariant.0

pub returns-then-next-node : goal.returns-then-next-node
returns-then-next-node g c = ends_here _ _ c.next-next.ensures c.if-next-node.true c.path.invariant
