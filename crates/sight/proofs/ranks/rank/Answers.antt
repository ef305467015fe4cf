use Rattle.std.proofs.Common.{arith, sym, ap, ◌∙◌, List, get_or, pos}
use Rattle.std.specs.Prelude.{slice_get}
use Rattle.std.proofs.lemmas.Option.{slice_get-get_or}
use Rattle.horizons.specs.declared.target.Target.{Target}
use Rattle.sight.proofs.Ranking.{ranks_more}
use Rattle.sight.proofs.ranks.rank.Goals as goal

pub loop-rank-preserved : goal.loop-rank-preserved
loop-rank-preserved c =
    let rays = c.args.rays.now in
    let number = c.index-number.result in
    let t = get_or rays number (record { offset = pos 0; line = 0 }) in
    let at = slice_get-get_or rays number (record { offset = pos 0; line = 0 }) (omega arith) in
    let ok = sym c.in_ok-map_err.ensures.variant in
    rw (rw ok at c.push.ensures.items)
    (ranks_more _ number rays _ _ t (c.requires.each number t at) at c.loop-rank.invariant)

pub are_sorted-requires : goal.are_sorted-requires
are_sorted-requires c i t at =
    c.loop-rank.invariant.each i t
    (ap (λ (xs : List Target). slice_get xs i) (sym c.deref-else-contains.ensures.value) ∙ at)
