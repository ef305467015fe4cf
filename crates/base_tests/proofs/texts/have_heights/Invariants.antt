use Rattle.std.proofs.Common.{◌≡◌, take}
use Rattle.base_tests.proofs.texts.have_heights.Given as goal

abbrev pub invariant-loop-index : goal.invariant-loop-index
invariant-loop-index l = take l.index l.cells ≡ take l.index l.heights
