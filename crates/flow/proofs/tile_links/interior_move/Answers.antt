use Rattle.flow.proofs.Moved.{moves_inside}
use Rattle.flow.proofs.tile_links.interior_move.Goals as goal

pub returns : goal.returns
returns c = moves_inside _ c.number_of.ensures.few c.number_of.ensures.code
