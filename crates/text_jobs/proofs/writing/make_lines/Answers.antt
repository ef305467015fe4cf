use Rattle.std.proofs.Common.{arith, length, sym, ap, ◌∙◌}
use Rattle.std.specs.Int.{div_ceil}
use Rattle.ascii_grid.proofs.RowText.{whole_rows}
use Rattle.text_jobs.proofs.Parts.{parts_joined}
use Rattle.text_jobs.proofs.writing.make_lines.Goals as goal

pub run-requires-clause-jobs : goal.run-requires-clause-jobs
run-requires-clause-jobs g c κs within =
    let size = rw (← c.cols-cols.ensures.value, ← c.rows-rows.ensures.value) at c.requires.size in
    let rows = whole_rows (length c.args.cells.now) c.cols-cols.result c.rows-rows.result size
    (omega (arith, c.cols-cols.ensures.value, c.cols-cols.ensures.lawful.terrain.some_col)) in
    let jobs = c.div_ceil.ensures ∙ sym (ap (λ n. div_ceil n c.max-rows_each.result) rows) in
    omega (arith, jobs)

pub returns-in-Ok : goal.returns-in-Ok
returns-in-Ok g c =
    let size = rw (← c.cols-cols.ensures.value, ← c.rows-rows.ensures.value) at c.requires.size in
    let rows = whole_rows (length c.args.cells.now) c.cols-cols.result c.rows-rows.result size
    (omega (arith, c.cols-cols.ensures.value, c.cols-cols.ensures.lawful.terrain.some_col)) in
    let jobs = c.div_ceil.ensures ∙ sym (ap (λ n. div_ceil n c.max-rows_each.result) rows) in
    let text = g.E.MapCell.text c.scale.result c.args.nodata.now in
    let texts = c.in-Ok.texts in
    let joined = parts_joined text c.cols-cols.result c.max-rows_each.result
    c.args.cells.now texts.items c.div_ceil.result (omega (arith, c.max-rows_each.ensures))
    (omega (arith, texts.ok.0, c.in-Ok.ensures.len)) jobs c.in-Ok.ensures.given in
    rw (c.scale.ensures.value, c.cols-cols.ensures.value, c.rows-rows.ensures.value) at
    (rw rows at joined)
