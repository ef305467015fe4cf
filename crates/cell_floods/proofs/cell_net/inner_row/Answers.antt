use Rattle.std.proofs.Common.{arith}
use Rattle.cell_floods.proofs.InnerRows.{inner_row_ends}
use Rattle.cell_floods.proofs.cell_net.inner_row.Goals as goal

pub overflow_mul-start : goal.overflow_mul-start
overflow_mul-start g c = let ends = inner_row_ends c.args.rows c.args.cols c.args.row
    _ c.requires.size c.requires.few_cols c.requires.few_rows c.requires.row in
    omega (arith, ends)

pub overflow_add-start-2 : goal.overflow_add-start-2
overflow_add-start-2 g c = let ends = inner_row_ends c.args.rows c.args.cols c.args.row
    _ c.requires.size c.requires.few_cols c.requires.few_rows c.requires.row in
    omega (arith, ends)

pub offset_bounds-list-start : goal.offset_bounds-list-start
offset_bounds-list-start g c = let ends = inner_row_ends c.args.rows c.args.cols c.args.row
    _ c.requires.size c.requires.few_cols c.requires.few_rows c.requires.row in
    omega (arith, ends)
