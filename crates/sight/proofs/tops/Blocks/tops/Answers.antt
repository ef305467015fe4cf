use Rattle.std.proofs.lemmas.Result.{IfOk-weaker}
use Rattle.sight.specs.BlockTops.{ground_of}
use Rattle.sight.proofs.BlockLists.{made_tops}
use Rattle.sight.proofs.tops.Blocks.tops.Goals as goal

pub returns : goal.returns
returns c =
    let self = c.args.self.now in
    IfOk-weaker c.entries.result _ _
    (λ v made. made_tops _ (ground_of self.cols self.rows self.cells.now) _ self.sized.0 made)
    (rw c.bounds.ensures at c.entries.ensures)
