use Rattle.tile_jobs.proofs.Steps.{takes_next, finds}
use Rattle.tile_jobs.proofs.deque.pop_next.Goals as goal

pub pop_as-requires-clause-fifo : goal.pop_as-requires-clause-fifo
pop_as-requires-clause-fifo c =
    λ _. takes_next _ _ c.requires.can c.requires.whole.0 c.requires.whole.1

pub pop_as-requires-clause-empty : goal.pop_as-requires-clause-empty
pop_as-requires-clause-empty c = finds _ _ c.requires.can
