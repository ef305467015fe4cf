use Rattle.std.specs.List.{All}
use Rattle.cell_floods.specs.Labels.{IsIndexedOf}
use Rattle.cell_floods.proofs.labels.indexed_meetings.Given as goal

abbrev pub invariant-loop-meeting : goal.invariant-loop-meeting
invariant-loop-meeting l = All (IsIndexedOf l.met.items l.fn.meetings.items) l.found.items
