use Rattle.request.proofs.words.with_options.Goals as goal

pub returns-in_err-tile-clause-none : goal.returns-in_err-tile-clause-none
returns-in_err-tile-clause-none c = rw c.from_residual.ensures (λ tile workers scale limits given.
    c.in_err-tile.ensures.none tile given.0)

pub returns-in_err-workers-clause-none : goal.returns-in_err-workers-clause-none
returns-in_err-workers-clause-none c = rw c.from_residual-in_err-workers.ensures
    (λ tile workers scale limits given. c.in_err-workers.ensures.none workers given.1)

pub returns-in_err-scale-clause-none : goal.returns-in_err-scale-clause-none
returns-in_err-scale-clause-none c = rw c.from_residual-in_err-scale.ensures
    (λ tile workers scale limits given. c.in_err-scale.ensures.none scale given.2)
