use Rattle.std.proofs.Common.{All}
use Rattle.drain.specs.Counts.{IsChange}
use Rattle.drain.specs.declared.changes.TileEntry.{TileEntry}
use Rattle.drain.proofs.blocks.tile_entries.Given as goal

abbrev pub invariant-loop-change : goal.invariant-loop-change
invariant-loop-change l =
    All (λ (e : TileEntry). IsChange l.input.terrain l.input.steps e.change) l.entries.items
