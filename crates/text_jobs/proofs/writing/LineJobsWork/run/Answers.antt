use Rattle.std.proofs.Common.{arith, ◌∙◌, length}
use Rattle.text_jobs.proofs.Parts.{first_row_below, part_within, lines_of_part}
use Rattle.text_jobs.proofs.writing.LineJobsWork.run.Goals as goal

pub overflow_mul-part : goal.overflow_mul-part
overflow_mul-part g c =
    let w = c.args.self.now in
    let within = part_within (length w.cells.now) w.cols w.rows_each c.args.job c.min.result
    (first_row_below _ _ c.args.job w.some_row c.requires) c.min.ensures in
    omega (arith, within)

pub overflow_mul-part-2 : goal.overflow_mul-part-2
overflow_mul-part-2 g c =
    let w = c.args.self.now in
    let within = part_within (length w.cells.now) w.cols w.rows_each c.args.job c.min.result
    (first_row_below _ _ c.args.job w.some_row c.requires) c.min.ensures in
    omega (arith, within)

pub offset_bounds-self-first : goal.offset_bounds-self-first
offset_bounds-self-first g c =
    let w = c.args.self.now in
    let within = part_within (length w.cells.now) w.cols w.rows_each c.args.job c.min.result
    (first_row_below _ _ c.args.job w.some_row c.requires) c.min.ensures in
    omega (arith, within)

pub slice_bounds-part-end : goal.slice_bounds-part-end
slice_bounds-part-end g c =
    let w = c.args.self.now in
    part_within (length w.cells.now) w.cols w.rows_each c.args.job c.min.result
    (first_row_below _ _ c.args.job w.some_row c.requires) c.min.ensures

pub returns-in-Ok-clause-given : goal.returns-in-Ok-clause-given
returns-in-Ok-clause-given g c =
    let w = c.args.self.now in
    let below = first_row_below _ _ c.args.job w.some_row c.requires in
    c.in-Ok.ensures ∙ lines_of_part (g.E.MapCell.text w.scale w.nodata.now)
    w.cols w.rows_each w.cells.now c.args.job c.min.result w.some_col below c.min.ensures
