use Rattle.std.proofs.Common.{◌≡◌, ℕ, ◌<◌, None, length, slice_index_or}
use Rattle.std.specs.Int.{bit_at}
use Rattle.terrain.specs.Raster.{IsHeight}
use Rattle.drain.specs.Beginning.{IsGapOrLower}
use Rattle.drain.proofs.beginning.any_gap_or_lower.Given as goal

abbrev pub invariant-loop-way : goal.invariant-loop-way
invariant-loop-way l = record {
  eight : length l.at ≡ 8;
  some : IsHeight l.level → bit_at l.signs 63 ≡ 1 → (way : ℕ) × (way < l.way)
      × IsGapOrLower l.level (slice_index_or l.cells (slice_index_or l.at way 0) None);
  all : IsHeight l.level → (way : ℕ) → way < l.way →
      IsGapOrLower l.level (slice_index_or l.cells (slice_index_or l.at way 0) None) → bit_at l.signs 63 ≡ 1;
}
