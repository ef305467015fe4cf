use Rattle.std.proofs.Common.{arith, subst, ◌≡◌, ◌-◌, ℕ, true}
use Rattle.horizons.specs.Horizons.{hides}
use Rattle.sight.specs.Hiding.{rise_at}
use Rattle.sight.proofs.looking.SweepLookup.raise.Goals as goal

pub returns-clause-raised : goal.returns-clause-raised
returns-clause-raised c y stands =
    let is = c.loop-clear.invariant in
    let below : c.loop-clear.hidden ≡ c.loop-clear.clear - 1 = omega arith in
    record {
      rises = omega arith;
      most = is.order.2;
      clear = is.clear y stands;
      hidden = λ less.
          subst (λ (h : ℕ).
          hides c.args.self.now.sweep.highest c.args.rank c.args.target
          (rise_at c.args.cells.now c.args.family h c.args.target.line y) ≡ true) below
          (is.blocked y stands);
    }
