use Rattle.std.proofs.Common.{◌≡◌, map}
use Rattle.cell_floods.specs.declared.tile.FloodWithMeetings.{FloodWithMeetings}
use Rattle.fill.proofs.filling.into_lists.Given as goal

abbrev pub invariant-loop-tile : goal.invariant-loop-tile
invariant-loop-tile l = record {
  floods : l.floods.items ≡ map (λ (x : FloodWithMeetings). x.flood) l.yielded;
  meetings : l.met.items ≡ map (λ (x : FloodWithMeetings). x.meetings) l.yielded;
}
