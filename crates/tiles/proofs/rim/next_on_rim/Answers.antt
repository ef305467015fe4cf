use Rattle.std.proofs.Common.{◌≢◌, ◌+◌, ◌-◌, arith}
use Rattle.tiles.proofs.RimSteps.{rim_row_end, rim_across, in_first_col}
use Rattle.tiles.proofs.rim.next_on_rim.Goals as goal

pub returns-then-row-last_row-clause-left : goal.returns-then-row-last_row-clause-left
returns-then-row-last_row-clause-left c =
    rim_row_end c.args.bounds c.args.place (omega arith) (omega arith)
    (c.requires.state.on_rim c.requires.more)

pub returns-clause-left : goal.returns-clause-left
returns-clause-left c =
    let b = c.args.bounds in
    let p = c.args.place in
    let state = c.requires.state in
    let on = state.on_rim c.requires.more in
    let rows = state.some_row in
    let cols = state.some_col in
    let bottom : p.row + 1 ≢ b.top + b.rows = omega arith in
    let right : p.col + 1 ≢ b.left + b.cols = omega arith in
    let left = in_first_col b p on c.if-row-bounds.false bottom right in
    rim_across b p (b.left + b.cols - 1) left (omega arith)
    (omega arith) c.if-row-bounds.false bottom on
