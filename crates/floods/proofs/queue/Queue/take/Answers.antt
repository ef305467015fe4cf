use Rattle.std.proofs.lemmas.List.Sorted.{IsPermutation-sym}
use Rattle.floods.proofs.QueueOrder.{above_top}
use Rattle.floods.proofs.queue.Queue.take.Goals as goal

pub returns-clause-taken : goal.returns-clause-taken
returns-clause-taken c = IsPermutation-sym _ _ c.in_ok-waiting.ensures.permutation

pub returns-clause-lowest : goal.returns-clause-lowest
returns-clause-lowest c = above_top c.in_ok-waiting.waiting _ (c.in_ok-waiting.ensures.below_top c.requires)
