use Rattle.std.proofs.Common.{arith, ◌∙◌, sym, ◌≡◌, ◌<◌, length}
use Rattle.tile_jobs.proofs.Seats.{took_among}
use Rattle.std.proofs.lemmas.List.{get_or_default}
use Rattle.tile_jobs.proofs.ends.steal_among.Goals as goal

pub returns-in-Job-clause-ends : goal.returns-in-Job-clause-ends
returns-in-Job-clause-ends c =
    let len : length c.loop-k.others.items ≡ length c.args.others.now.items =
    grind arith in
    let low : c.loop-k.k < length c.args.others.now.items = grind arith in
    took_among _ _ _ _ _ c.loop-k.invariant.kept len low
    (λ d. rw (get_or_default c.loop-k.others.items c.loop-k.k d c.index_mut.result.now (omega arith)
    ∙ sym c.index_mut.ensures.value) c.in-Job.ensures)
