use Rattle.drain.specs.Beginning.{AreBegun}
use Rattle.drain.proofs.Begun.{DrainsBefore}
use Rattle.drain.proofs.beginning.begin_at_sinks.Given as goal

abbrev pub invariant-loop-sink : goal.invariant-loop-sink
invariant-loop-sink l =
    AreBegun l.grid.terrain l.window.bounds (DrainsBefore l.grid.terrain l.sink-items l.sink-index) l.counts
