use Rattle.sightlines.specs.Walk.{walk_blocks}
use Rattle.sightlines.proofs.Seen.{hidden_by_columns, seen_if_open}
use Rattle.sightlines.proofs.Heights.{are_heights}
use Rattle.sightlines.proofs.line.may_see.Goals as goal

pub returns-then-is_blocked_from : goal.returns-then-is_blocked_from
returns-then-is_blocked_from c =
    let t = c.args.grid.now.terrain in
    let lines = c.in-Some.lines in
    hidden_by_columns _ (walk_blocks t.cells lines.columns) (walk_blocks t.cells lines.rows) c.in-Some.ensures.seen
    (rw c.cells-cells.ensures.value at (c.is_blocked_from.ensures c.if-is_blocked_from.true))

pub returns : goal.returns
returns c =
    let t = c.args.grid.now.terrain in
    let lines = c.in-Some.lines in
    let are = c.in-Some.ensures in
    seen_if_open _ _ (walk_blocks t.cells lines.columns) (walk_blocks t.cells lines.rows) c.is_blocked_from-2.result
    are.seen (are.reached c.args.target_height)
    (λ yes. rw c.cells-cells.ensures.value at (c.is_blocked_from-2.ensures yes))

pub is_blocked_from-requires-clause-heights : goal.is_blocked_from-requires-clause-heights
is_blocked_from-requires-clause-heights c =
    rw c.cells-cells.ensures.value (are_heights _ c.cells-cells.ensures.lawful.terrain)

pub is_blocked_from-requires-2-clause-heights : goal.is_blocked_from-requires-2-clause-heights
is_blocked_from-requires-2-clause-heights c =
    rw c.cells-cells.ensures.value (are_heights _ c.cells-cells.ensures.lawful.terrain)
