use Rattle.tile_jobs.proofs.Steps.{pushes}
use Rattle.tile_jobs.proofs.deque.push.Goals as goal

pub push_as-requires-clause-pushes : goal.push_as-requires-clause-pushes
push_as-requires-clause-pushes g c = rw c.requires.view (pushes g.D.DequeKey.jobs g.D.DequeKey.seats
    g.D.DequeKey.deque _ _ c.args.entry _ c.requires.next)
