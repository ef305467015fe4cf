use Rattle.std.proofs.Common.{arith, ◌∙◌, ◌-◌, false, not}
use Rattle.std.proofs.lemmas.Bool.{OnTrue_from, not-true}
use Rattle.horizons.specs.Merging.{IsAboveOn}
use Rattle.horizons.proofs.Merged.{even_between}
use Rattle.horizons.proofs.merging.is_never_above.Goals as goal

pub returns : goal.returns
returns c =
    let targets = c.args.targets.now in
    OnTrue_from (not _) (IsAboveOn targets c.args.one c.args.other false _ _) (λ yes i t low high at.
    even_between targets c.args.one c.args.other false _ (c.args.end - 1) c.requires.targets (omega arith)
    (omega arith) (λ u at_u. c.is_above_at.ensures u at_u ∙ c.if-is_above_at.false)
    (λ u at_u. c.is_above_at-2.ensures u at_u ∙ not-true _ yes) i t low (omega arith) at)
