use Rattle.std.proofs.Common.{sym, arith}
use Rattle.std.proofs.lemmas.Option.{slice_get-get_or, get_or_from_slice_get}
use Rattle.horizons.proofs.merging.is_above_at.Goals as goal

pub is_above-requires-clause-target : goal.is_above-requires-clause-target
is_above-requires-clause-target c =
    c.requires.targets.each c.args.index _ (slice_get-get_or c.args.targets.now c.args.index _ c.requires.index)

pub is_above-requires-clause-at : goal.is_above-requires-clause-at
is_above-requires-clause-at c =
    c.requires.one c.args.index _ (omega arith) (omega arith)
    (slice_get-get_or c.args.targets.now c.args.index _ c.requires.index)

pub is_above-requires-clause-other : goal.is_above-requires-clause-other
is_above-requires-clause-other c =
    c.requires.other c.args.index _ (omega arith) (omega arith)
    (slice_get-get_or c.args.targets.now c.args.index _ c.requires.index)

pub returns : goal.returns
returns c t at = sym (rw (get_or_from_slice_get _ _ t _ at) at c.is_above.ensures)
