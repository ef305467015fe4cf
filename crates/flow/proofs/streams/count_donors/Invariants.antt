use Rattle.std.proofs.Common.{◌≡◌, ℕ, ◌<◌, length, get_or}
use Rattle.tile_jobs.specs.Sums.{sum_below}
use Rattle.flow.specs.Sending.{donor}
use Rattle.flow.proofs.streams.count_donors.Given as goal

abbrev pub invariant-loop-node : goal.invariant-loop-node
invariant-loop-node g l = record {
  size : length l.counts ≡ length (g.L.Links.list l.links);
  each : (i : ℕ) → i < length (g.L.Links.list l.links) →
      get_or l.counts i 0 ≡ sum_below (donor (g.L.Links.list l.links) i) l.node;
}
