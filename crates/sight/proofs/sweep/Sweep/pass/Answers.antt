use Rattle.sight.proofs.Passed.{hides_next}
use Rattle.sight.proofs.sweep.Sweep.pass.Goals as goal

pub returns : goal.returns
returns c =
    let raised = c.in_ok-raise.ensures in
    rw c.swap.ensures.x_after (hides_next _ _ _ _ _ _ c.requires.line.0 c.requires.before raised.0 raised.1)
