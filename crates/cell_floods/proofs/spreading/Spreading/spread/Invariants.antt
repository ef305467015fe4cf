use Rattle.std.proofs.Common.{◌≡◌, unwrap_or}
use Rattle.terrain.specs.StoredCells.{no_data}
use Rattle.floods.specs.Flood.{entry_of}
use Rattle.cell_floods.specs.Spreading.{Spreads, number_of}
use Rattle.cell_floods.proofs.spreading.Spreading.spread.Given as goal

abbrev pub invariant-loop-to : goal.invariant-loop-to
invariant-loop-to l = record {
  level : entry_of l.initial.self.levels.items l.node ≡ l.level;
  label : number_of l.initial.self.labels.items l.node ≡ l.label;
  spread : Spreads (unwrap_or l.level no_data) l.initial.self l.self;
}
