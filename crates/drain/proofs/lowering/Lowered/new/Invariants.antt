use Rattle.std.proofs.Common.{◌≡◌, length}
use Rattle.drain.proofs.lowering.Lowered.new.Given as goal

abbrev pub invariant-loop-row : goal.invariant-loop-row
invariant-loop-row l = length l.rows.items ≡ l._row
