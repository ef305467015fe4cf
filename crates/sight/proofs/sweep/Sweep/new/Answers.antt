use Rattle.sight.proofs.Passed.{none_hides}
use Rattle.sight.proofs.sweep.Sweep.new.Goals as goal

pub returns : goal.returns
returns c =
    none_hides _ _ _ c.requires (rw c.new-highest.ensures at c.in_ok-push.ensures) c.nothing.ensures.below
    c.nothing.ensures.at c.nothing.ensures.clear
