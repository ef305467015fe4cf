use Rattle.std.proofs.Common.{arith, ap}
use Rattle.tile_jobs.specs.Ends.{DealerState}
use Rattle.tile_jobs.proofs.Steps.{forks}
use Rattle.tile_jobs.proofs.dealer.Dealer.split_end.Goals as goal

pub another-pass-requires : goal.another-pass-requires
another-pass-requires c = let e = ap (λ (d : DealerState). d.marks_due) c.self.view_is in
    forks _ _ c.self.invariant.0.0 c.self.invariant.0.1 (omega (arith, e, c.requires))
