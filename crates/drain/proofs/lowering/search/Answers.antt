use Rattle.std.proofs.Common.{◌∙◌, arith}
use Rattle.std.proofs.lemmas.List.Elements.{All-get_or}
use Rattle.drain.specs.Counts.{IsChange}
use Rattle.drain.specs.declared.changes.TileEntry.{TileEntry}
use Rattle.drain.proofs.Sound.{recorded}
use Rattle.drain.proofs.lowering.search.Goals as goal
use Rattle.drain.proofs.lowering.search.Goals.{then-contains+in_ok-record, else-contains}

pub loop-next-preserved-then-is_due : goal.loop-next-preserved-then-is_due
loop-next-preserved-then-is_due c =
    let input = c.args.input.now in
    let entry = All-get_or (λ (e : TileEntry). IsChange input.terrain input.steps e.change)
    c.args.entries.now c.loop-next.next _
    (omega (arith, c.if-next-run-2.true, c.requires.run)) c.requires.entries in
    elim c.if-contains.branch [
      | then-contains+in_ok-record w ↦ record {
        bounds = rw w.lowered-is (w.record.ensures.bounds ∙ c.loop-next.invariant.bounds);
        changes = rw w.lowered-is (recorded _ _
            c.loop-next.invariant.changes entry w.record.ensures.changes);
        next = omega (arith, c.if-next-run-2.true);
      }
      | else-contains w ↦ record {
        bounds = rw w.lowered-is c.loop-next.invariant.bounds;
        changes = rw w.lowered-is c.loop-next.invariant.changes;
        next = omega (arith, c.if-next-run-2.true);
      }
    ]
