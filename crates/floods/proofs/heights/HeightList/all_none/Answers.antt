use Rattle.floods.proofs.HeightLists.{where-lacking}
use Rattle.floods.proofs.heights.HeightList.all_none.Goals as goal

pub returns : goal.returns
returns c = rw (
  c.in_ok-heights.ensures.items_if_clones_equal (λ y same. same),
  c.in_ok-greatest.ensures.items_if_clones_equal (λ y same. same),
) (where-lacking _)
