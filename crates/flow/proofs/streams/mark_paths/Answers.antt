use borrow.Author.Count.{below_more}
use Rattle.std.proofs.Common.{◌≢◌, get_or, arith}
use Rattle.flow.specs.Sending.{IsMarked}
use Rattle.flow.proofs.Sending.{marks_none}
use Rattle.flow.proofs.streams.mark_paths.Goals as goal

pub loop-node-init : goal.loop-node-init
loop-node-init g c =
    record { marks = marks_none _ _ c.requires.unmarked; early = λ i h. absurd (omega arith) }

pub loop-node-preserved : goal.loop-node-preserved
loop-node-preserved g c = record {
  marks = c.mark_path.ensures.marks;
  early = below_more (λ i. get_or c.args.weights.now i 0 ≢ 0 → IsMarked c.mark_path.new.waits i) _
      (λ i h ne. c.mark_path.ensures.kept i (c.loop-node.invariant.early i h ne)) c.mark_path.ensures.marked;
}

pub returns-clause-marked : goal.returns-clause-marked
returns-clause-marked g c i h = c.loop-node.invariant.early i (omega arith)
