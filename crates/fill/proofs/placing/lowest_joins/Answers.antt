use Rattle.std.proofs.Common.{◌≡◌, length, arith}
use Rattle.fill.proofs.Lowest.{kept_same, kept_more, all_kept, ordered}
use Rattle.fill.proofs.placing.lowest_joins.Goals as goal

pub loop-index-preserved-then-is_repeat : goal.loop-index-preserved-then-is_repeat
loop-index-preserved-then-is_repeat c =
    let joins = c.sort_unstable.new.self.items in
    kept_same (ordered joins c.sort_unstable.ensures.sorted) (omega arith) c.loop-index.invariant
    ((rw c.deref.ensures.value at c.is_repeat.ensures).0 c.if-is_repeat.true)

pub loop-index-preserved : goal.loop-index-preserved
loop-index-preserved c =
    let joins = c.sort_unstable.new.self.items in
    rw c.in_ok-push.ensures.items (kept_more (ordered joins c.sort_unstable.ensures.sorted)
    (omega arith) c.index.ensures c.loop-index.invariant (λ again.
    let yes = (rw c.deref.ensures.value at c.is_repeat.ensures).1 again in
    absurd cc))

pub returns : goal.returns
returns c =
    let joins = c.sort_unstable.new.self.items in
    let all : c.loop-index.index ≡ length joins = omega arith in
    all_kept c.sort_unstable.ensures.permutation (rw all at c.loop-index.invariant)
