use Rattle.sight.proofs.looking.cursor_at.Goals as goal

pub returns-then-rank-last : goal.returns-then-rank-last
returns-then-rank-last c pieces up = c.start.ensures pieces c.args.rank
