use Rattle.std.proofs.Common.{◌∙◌, []}
use Rattle.ascii_grid.proofs.Feeding.{whole_refusal}
use Rattle.ascii_grid.proofs.Exits.{err_is}
use Rattle.ascii_grid.proofs.read.read_text.Goals as goal

pub returns-in_err-feed-clause-fault : goal.returns-in_err-feed-clause-fault
returns-in_err-feed-clause-fault c =
    rw (err_is c.from_residual.ensures.1) (rw c.new-reader.ensures.scale at
    (whole_refusal _ c.args.bytes.now _ (c.in_err-feed.ensures.err [] c.new-reader.ensures.taken)))

pub returns-clause-grid : goal.returns-clause-grid
returns-clause-grid c =
    rw (c.in_ok-feed.ensures.scale ∙ c.new-reader.ensures.scale) at
    (c.finish.ensures.grid c.args.bytes.now (c.in_ok-feed.ensures.taken [] c.new-reader.ensures.taken))

pub returns-clause-fault : goal.returns-clause-fault
returns-clause-fault c =
    rw (c.in_ok-feed.ensures.scale ∙ c.new-reader.ensures.scale) at
    (c.finish.ensures.fault c.args.bytes.now (c.in_ok-feed.ensures.taken [] c.new-reader.ensures.taken))
