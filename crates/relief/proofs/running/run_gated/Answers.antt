use Rattle.std.proofs.Common.{◌≡◌, subst, None}
use Rattle.std.proofs.lemmas.Result.{err_from_is_err_and}
use Rattle.terrain.specs.Raster.{Raster}
use Rattle.relief.specs.MadeMap.{made_text}
use Rattle.relief.specs.MapText.{IsMapText}
use Rattle.relief.specs.Refusals.{IsFaultOnGrid, request_fault}
use Rattle.relief.proofs.Draining.{fault_on_grid_without_sinks}
use Rattle.relief.proofs.Ran.{reading_refused, making_refused, writing_failed, ran}
use Rattle.relief.proofs.running.run_gated.Goals as goal

pub returns-in_err-grid : goal.returns-in_err-grid
returns-in_err-grid g c =
    let p = err_from_is_err_and c.from_residual.result c.from_residual.ensures.1 in
    let reads = rw c.scale.ensures.value at c.in_err-grid.ensures in
    rw (p.1, p.2) (reading_refused g.R.Read.remaining g.W.Write.contents c.args.options.now
    c.args.reader.now c.read_grid.new.reader c.args.writer.now c.in_err-grid.field-0.0 reads)

pub returns-in_err-grid-2 : goal.returns-in_err-grid-2
returns-in_err-grid-2 g c =
    let p = err_from_is_err_and c.from_residual-in_err-grid-2.result
    c.from_residual-in_err-grid-2.ensures.1 in
    let reads = rw c.scale.ensures.value at c.in_ok-grid.ensures in
    rw (p.1, p.2) (making_refused g.R.Read.remaining g.W.Write.contents c.args.options.now
    c.args.reader.now c.read_grid.new.reader c.args.writer.now c.args.writer.now c.in_ok-grid.grid
    reads c.in_err-grid-2.field-0.0
    c.in_err-grid-2.ensures.fault)

pub returns-in_err-made : goal.returns-in_err-made
returns-in_err-made g c =
    let p =
    err_from_is_err_and c.from_residual-in_err-made.result c.from_residual-in_err-made.ensures.1 in
    let reads = rw c.scale.ensures.value at c.in_ok-grid.ensures in
    let w = c.args.options.now in
    rw (p.1, p.2)
    (making_refused g.R.Read.remaining g.W.Write.contents w c.args.reader.now c.read_grid.new.reader
    c.args.writer.now c.args.writer.now c.in_ok-grid.grid reads c.in_err-made.field-0.0
    (fault_on_grid_without_sinks w c.in_ok-grid.grid _ w.sinks (subst (λ
    (r : Raster). IsFaultOnGrid w r
    c.in_err-made.field-0.0) c.in_ok-grid-2.ensures.grid c.in_err-made.ensures.fault)))

pub returns-in_err-write_map : goal.returns-in_err-write_map
returns-in_err-write_map g c =
    let p = err_from_is_err_and c.from_residual-in_err-write_map.result
    c.from_residual-in_err-write_map.ensures.1 in
    let reads = rw c.scale.ensures.value at c.in_ok-grid.ensures in
    let w = c.args.options.now in
    rw (p.1, p.2) (writing_failed g.R.Read.remaining g.W.Write.contents w c.args.reader.now
    c.read_grid.new.reader c.args.writer.now c.write_map.new.writer c.in_ok-grid.grid reads _
    (subst (λ (r : Raster). IsMapText r w.map (made_text c.in_ok-made.made))
    c.in_ok-grid-2.ensures.grid c.in_ok-made.ensures.map) _
    (subst (λ (r : Raster). request_fault w r ≡ None)
    c.in_ok-grid-2.ensures.grid c.in_ok-made.ensures.ready) c.in_err-write_map.ensures)

pub returns : goal.returns
returns g c =
    let reads = rw c.scale.ensures.value at c.in_ok-grid.ensures in
    let w = c.args.options.now in
    ran g.R.Read.remaining g.W.Write.contents w c.args.reader.now c.read_grid.new.reader
    c.args.writer.now c.write_map.new.writer c.in_ok-grid.grid reads _
    (subst (λ (r : Raster). IsMapText r w.map (made_text c.in_ok-made.made))
    c.in_ok-grid-2.ensures.grid c.in_ok-made.ensures.map) c.in_ok-write_map.ensures
