use Rattle.std.proofs.Common.{◌≡◌, ℕ, ◌+◌, ◌<◌, ◌≤◌, ◌⊎◌, None, slice_index_or}
use Rattle.drain.proofs.search.least_around.Given as goal

abbrev pub invariant-loop-way : goal.invariant-loop-way
invariant-loop-way l = record {
  low : l.least ≤ l.bound;
  each : (way : ℕ) → way < l.way → slice_index_or l.cells (slice_index_or l.at way 0) None ≡ l.level →
      l.least ≤ slice_index_or l.counts (slice_index_or l.at way 0) 0 + 1;
  one : (l.least ≡ l.bound) ⊎ ((way : ℕ) × (way < 8)
      × (slice_index_or l.cells (slice_index_or l.at way 0) None ≡ l.level)
      × (l.least ≡ slice_index_or l.counts (slice_index_or l.at way 0) 0 + 1) × (l.least < l.bound));
}
