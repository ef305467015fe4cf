use Rattle.std.proofs.Common.{refl}
use Rattle.std.proofs.lemmas.Option.{slice_get_read}
use Rattle.fill.proofs.Gathered.{labels_within}
use Rattle.map_tests.proofs.pits.raise_first.Goals as goal

pub raise-requires-clause-labels : goal.raise-requires-clause-labels
raise-requires-clause-labels c =
    labels_within _ _ _ 0 _ c.requires.floods
    (slice_get_read _ _ 0 _ refl c.requires.some c.index-floods-0.is)
