use Rattle.std.proofs.Common.{◌-◌, length}
use Rattle.ascii_grid.specs.Reading.{HasTaken}
use Rattle.ascii_grid.proofs.tokenizer.Tokenizer.take_all.Given as goal

abbrev pub invariant-loop-at : goal.invariant-loop-at
invariant-loop-at l = HasTaken l.initial.self l.self l.bytes l.initial.at l.at

abbrev pub decreases-loop-at : goal.decreases-loop-at
decreases-loop-at l = length l.initial.bytes - l.at
