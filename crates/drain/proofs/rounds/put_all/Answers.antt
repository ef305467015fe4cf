use Rattle.std.proofs.Common.{All}
use Rattle.std.proofs.lemmas.List.Elements.{All-get_or}
use Rattle.drain.specs.Counts.{IsCounted}
use Rattle.drain.specs.declared.lowering.Found.{Found}
use Rattle.drain.proofs.rounds.put_all.Goals as goal

pub put_changes-requires-clause-changes : goal.put_changes-requires-clause-changes
put_changes-requires-clause-changes c =
    let t = c.args.grid.now.terrain in
    rw (c.deref.ensures.value, c.found-item.is)
    (All-get_or (λ (f : Found). All (IsCounted t) f.changes.items) c.args.outs.now c.loop-found.found-index
    c.found-item.result c.loop-found-test.true c.requires.changes)
