use Rattle.std.proofs.Common.{None, sym, ◌∙◌, arith}
use Rattle.std.proofs.lemmas.Bool.{false≢true}
use Rattle.drain.specs.Steepness.{leads_on}
use Rattle.drain.proofs.Greatest.{none_passes}
use Rattle.drain.proofs.steepness.onward.Goals as goal

pub unreachable-requires : goal.unreachable-requires
unreachable-requires c =
    false≢true (sym (none_passes (leads_on c.args.around.now) c.args.around.now.ways None
    (λ k h. c.loop-way.invariant.before k (omega arith))) ∙ c.requires)
