use Rattle.std.proofs.Common.{arith}
use Rattle.sight.specs.BlockTops.{ground_of}
use Rattle.sight.proofs.BlockLists.{made_tops}
use Rattle.sight.proofs.tops.near_tops.Goals as goal

pub returns-clause-tops : goal.returns-clause-tops
returns-clause-tops g c =
    let blocks = c.args.blocks.now in
    made_tops 16 (ground_of blocks.cols blocks.rows blocks.cells.now) _ (omega arith)
    (rw (c.bounds.ensures, c.requires.near) at c.in_ok-near.ensures)
