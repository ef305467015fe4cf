use Rattle.sight.proofs.Rises.{zero_where_seen}
use Rattle.sight.proofs.laws.rise_is_zero_where_ground_is_seen.Goals as goal

pub returns : goal.returns
returns c = zero_where_seen
