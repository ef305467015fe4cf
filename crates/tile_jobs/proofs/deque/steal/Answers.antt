use Rattle.tile_jobs.proofs.Steps.{takes, finds_few}
use Rattle.tile_jobs.proofs.deque.steal.Goals as goal

pub steal_as-requires-clause-takes : goal.steal_as-requires-clause-takes
steal_as-requires-clause-takes c = takes _ _ c.requires.can

pub steal_as-requires-clause-empty : goal.steal_as-requires-clause-empty
steal_as-requires-clause-empty c = rw c.requires.fifo (finds_few _ _ c.requires.can)
