use Rattle.std.proofs.Common.{◌≡◌, ◌<◌, ℕ, false, None, length, slice_index_or}
use Rattle.drain.specs.Steepness.{leads_on}
use Rattle.drain.proofs.steepness.onward.Given as goal

abbrev pub invariant-loop-way : goal.invariant-loop-way
invariant-loop-way l = record {
  eight : length l.around.ways ≡ 8;
  before : (k : ℕ) → k < l.way → leads_on l.around (slice_index_or l.around.ways k None) ≡ false;
}
