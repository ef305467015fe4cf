use Rattle.std.proofs.Common.{◌≡◌, ◌++◌, map, take}
use Rattle.fill.specs.Crests.{numbered}
use Rattle.fill.proofs.found_joins.push_meetings.Given as goal

abbrev pub invariant-loop-meeting : goal.invariant-loop-meeting
invariant-loop-meeting l =
    l.joins.items ≡ l.initial.joins.items ++ map (numbered l.first) (take l.meeting-index l.meetings)
