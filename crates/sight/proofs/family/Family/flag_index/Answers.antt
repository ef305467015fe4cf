use Rattle.std.proofs.Common.{refl}
use Rattle.sight.proofs.EachRay.{cell_back}
use Rattle.sight.proofs.family.Family.flag_index.Goals as goal

pub returns : goal.returns
returns c = λ y stands. rw (cell_back c.args.self y c.args.ray c.requires.family stands, c.lead_of.ensures) refl
