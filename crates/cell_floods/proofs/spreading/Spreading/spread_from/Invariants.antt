use Rattle.std.proofs.Common.{◌≡◌, ◌+◌, length, unwrap_or}
use Rattle.std.specs.Option.{option_to_list}
use Rattle.terrain.specs.StoredCells.{no_data}
use Rattle.floods.specs.Flood.{entry_of}
use Rattle.cell_floods.specs.Spreading.{Spreads, work_of}
use Rattle.cell_floods.proofs.spreading.Spreading.spread_from.Given as goal

abbrev pub invariant-loop-next : goal.invariant-loop-next
invariant-loop-next l = record {
  level : entry_of l.initial.self.levels.items l.first ≡ l.level;
  spread : Spreads (unwrap_or l.level no_data) l.initial.self l.self;
}

abbrev pub decreases-loop-next : goal.decreases-loop-next
decreases-loop-next l = work_of l.self + length (option_to_list l.next)
