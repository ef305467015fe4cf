use Rattle.std.proofs.Common.{◌-◌, length}
use Rattle.ascii_grid.specs.Reading.{HasTaken, IsBetweenHeights}
use Rattle.ascii_grid.proofs.tokenizer.Tokenizer.take_scaled.Given as goal

abbrev pub invariant-loop-at : goal.invariant-loop-at
invariant-loop-at l = record {
  taken : HasTaken l.initial.self l.self l.bytes l.initial.from l.at;
  between : IsBetweenHeights l.self;
}

abbrev pub decreases-loop-at : goal.decreases-loop-at
decreases-loop-at l = length l.initial.bytes - l.at
