use Rattle.sightlines.proofs.Higher.{seen_higher}
use Rattle.sightlines.proofs.laws.seen_targets_stay_seen.Goals as goal

pub returns : goal.returns
returns c = seen_higher
