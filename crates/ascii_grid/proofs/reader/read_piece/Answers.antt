use Rattle.std.proofs.Common.{rules}
use Rattle.ascii_grid.proofs.Feeding.{fed_fault, fed_long, fed_whole}
use Rattle.ascii_grid.proofs.Exits.{err_is}
use Rattle.ascii_grid.proofs.reader.read_piece.Goals as goal

pub returns-in_err-take_all-clause-read : goal.returns-in_err-take_all-clause-read
returns-in_err-take_all-clause-read c = λ text k. rw (err_is c.from_residual.ensures.1)
    (fed_fault _ _ text c.args.piece.now _ c.min-within.ensures k _ (c.in_err-take_all.ensures.words text k.words_of))

pub returns-then-within-piece-clause-read : goal.returns-then-within-piece-clause-read
returns-then-within-piece-clause-read c = λ text k. fed_long _ _ text c.args.piece.now _ c.min-within.ensures k _
    c.in_ok-take_all.ensures.scale (search rules) (c.in_ok-take_all.ensures.words text k.words_of)

pub returns-clause-read : goal.returns-clause-read
returns-clause-read c = λ text k. fed_whole _ _ text c.args.piece.now _ c.min-within.ensures k _ (search rules)
    (c.in_ok-take_all.ensures.words text k.words_of)
