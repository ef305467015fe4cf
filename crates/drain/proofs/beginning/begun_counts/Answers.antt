use Rattle.std.proofs.Common.{◌≡◌, ℕ, ◌+◌, List, get_or, rules, ap, ◌∙◌, arith}
use Rattle.std.proofs.lemmas.List.{get_or-replicate}
use Rattle.drain.proofs.Begun.{begun_none, begun_shown, heights_shown}
use Rattle.drain.proofs.beginning.begun_counts.Goals as goal

pub loop-row-init : goal.loop-row-init
loop-row-init c =
    let same = c.in_ok-counts.ensures.items_if_clones_equal (λ n is. is) in
    begun_none (omega (arith, c.in_ok-counts.ensures.len, c.in_ok-counts.counts.ok.0)) (λ s has. has.0)
    (λ k below. ap (λ (xs : List ℕ). get_or xs k 0) same
    ∙ get_or-replicate _ k _ 0 (omega (arith, below)))

pub begin_along-requires-clause-heights : goal.begin_along-requires-clause-heights
begin_along-requires-clause-heights c =
    heights_shown c.args.grid.now.terrain c.args.window.now c.requires.lawful (search rules) c.requires.shown

pub begin_at_sinks-requires : goal.begin_at_sinks-requires
begin_at_sinks-requires c =
    let last : c.loop-row.row ≡ c.args.window.now.bounds.rows + 1 = omega arith in
    rw (c.deref_mut-2.ensures.value)
    (begun_shown c.args.grid.now.terrain c.args.window.now c.requires.shown (rw last at c.loop-row.invariant))
