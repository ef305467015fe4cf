use Rattle.std.proofs.Common.{◌≡◌, None, slice_index_or}
use Rattle.drain.specs.Drops.{IsGreatestFall}
use Rattle.drain.proofs.steepness.greatest_fall.Given as goal

abbrev pub invariant-loop-turn : goal.invariant-loop-turn
invariant-loop-turn l = record {
  way : IsGreatestFall l.level l.heights l.parity l.turn l.way;
  cell : l.cell ≡ slice_index_or l.heights l.way None;
}
