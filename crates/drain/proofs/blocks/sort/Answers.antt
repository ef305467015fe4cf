use Rattle.std.proofs.lemmas.List.Sorted.{IsPermutation-trans}
use Rattle.drain.proofs.blocks.sort.Goals as goal

pub returns : goal.returns
returns c =
    IsPermutation-trans _ _ _ c.sort_by_key.ensures.permutation c.sort_by_key-2.ensures.permutation
