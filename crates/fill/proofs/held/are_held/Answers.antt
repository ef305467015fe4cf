use Rattle.std.proofs.lemmas.Bool.{OnTrue_at, OnTrue_from}
use Rattle.fill.proofs.held.are_held.Goals as goal

pub returns-then-are_tiles_held-clause-held : goal.returns-then-are_tiles_held-clause-held
returns-then-are_tiles_held-clause-held c =
    rw (← c.cols.ensures.value) (OnTrue_from _ _ (λ _. OnTrue_at c.if-are_tiles_held.true c.are_tiles_held.ensures))
