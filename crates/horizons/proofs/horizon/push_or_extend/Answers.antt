use Rattle.std.proofs.Common.{arith, rules, ◌≡◌, ◌-◌, Some, refl}
use Rattle.std.specs.Prelude.{slice_get}
use Rattle.std.proofs.lemmas.Option.{slice_get_read}
use Rattle.horizons.proofs.Pieces.{pushed, lengthened, within_count}
use Rattle.horizons.proofs.horizon.push_or_extend.Goals as goal

pub returns-then-eq-clause-pushed : goal.returns-then-eq-clause-pushed
returns-then-eq-clause-pushed c =
    let pieces = c.args.pieces.now.items in
    let last = c.len-count.result - 1 in
    let at : slice_get pieces last ≡ Some c.index.result.now =
    slice_get_read pieces _ last _ refl (omega arith) c.index.ensures in
    let same : c.index.result.now.ramp ≡ c.args.piece.ramp = search rules in
    lengthened pieces last _ _ (omega arith) at (omega (arith, within_count pieces last _ at)) same

pub returns-clause-pushed : goal.returns-clause-pushed
returns-clause-pushed c = rw c.in_ok-push.ensures.items (pushed _ _)
