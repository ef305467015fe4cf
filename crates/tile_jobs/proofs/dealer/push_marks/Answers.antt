use Rattle.tile_jobs.proofs.Residues.{feed_next_end}
use Rattle.tile_jobs.proofs.dealer.push_marks.Goals as goal

pub push-requires-clause-next : goal.push-requires-clause-next
push-requires-clause-next g c = rw c.requires.place (feed_next_end _ _
    _ _ _ c.loop-test.true c.loop.invariant.index)
