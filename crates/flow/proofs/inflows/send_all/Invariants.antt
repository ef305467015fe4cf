use Rattle.std.proofs.Common.{◌≡◌, ℕ, ◌<◌, length, get_or}
use Rattle.tile_jobs.specs.Sums.{sum_below}
use Rattle.tiles.specs.RimNumbers.{rim_number_count}
use Rattle.flow.specs.Inflows.{entering}
use Rattle.flow.proofs.inflows.send_all.Given as goal

abbrev pub invariant-loop-number : goal.invariant-loop-number
invariant-loop-number l = record {
  size : length l.listed ≡ rim_number_count l.tiling;
  each : (k : ℕ) → k < rim_number_count l.tiling →
      get_or l.listed k 0 ≡ sum_below (entering l.tiling l.targets l.totals k) l.number;
}
