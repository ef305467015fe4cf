use Rattle.std.proofs.Common.{All}
use Rattle.std.proofs.lemmas.List.Elements.{All-get_or}
use Rattle.drain.specs.Counts.{IsCounted}
use Rattle.drain.specs.declared.lowering.Found.{Found}
use Rattle.drain.proofs.rounds.changes_after.Goals as goal

pub push_after-requires-clause-found : goal.push_after-requires-clause-found
push_after-requires-clause-found c =
    let t = c.args.input.now.terrain in
    rw c.found-item.is (All-get_or (λ (f : Found). All (IsCounted t) f.changes.items)
    c.args.outs.now c.loop-found.found-index
    c.found-item.result c.loop-found-test.true c.requires)
