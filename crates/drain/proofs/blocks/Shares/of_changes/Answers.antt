use Rattle.drain.specs.Counts.{IsChange}
use Rattle.drain.specs.declared.changes.TileEntry.{TileEntry}
use Rattle.std.proofs.lemmas.List.Sorted.{All-permutation}
use Rattle.drain.proofs.blocks.Shares.of_changes.Goals as goal

pub returns-clause-entries : goal.returns-clause-entries
returns-clause-entries c =
    let input = c.args.input.now in
    All-permutation (λ (e : TileEntry). IsChange input.terrain input.steps e.change) _ _
    c.in_ok-sort.ensures c.in_ok-entries.ensures
