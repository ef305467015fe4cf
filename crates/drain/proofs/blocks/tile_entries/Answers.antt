use Rattle.std.proofs.lemmas.List.Elements.{All-get_or, All-push}
use Rattle.drain.specs.Counts.{IsChange}
use Rattle.drain.specs.declared.changes.TileEntry.{TileEntry}
use Rattle.drain.proofs.blocks.tile_entries.Goals as goal

pub loop-change-preserved : goal.loop-change-preserved
loop-change-preserved c =
    let input = c.args.input.now in
    rw c.in_ok-push.ensures.items (All-push (λ (e : TileEntry). IsChange input.terrain input.steps e.change) _ _
    c.loop-change.invariant
    (All-get_or (IsChange input.terrain input.steps) c.args.changes.now c.loop-change.change-index _
    c.loop-change-test.true c.requires))
