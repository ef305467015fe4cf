use Rattle.std.proofs.Common.{◌<◌, length, get_or, arith}
use Rattle.std.proofs.lemmas.List.{get_or_default}
use Rattle.std.proofs.lemmas.Result.{err_from_is_err_and}
use Rattle.ascii_grid.proofs.RowText.{pieces_split}
use Rattle.ascii_grid.proofs.Writing.{failed, then}
use Rattle.request.specs.declared.map.DrainageMap.{DrainageMap}
use Rattle.request.specs.declared.map.DrainageMap.TheVariants.{Fill}
use Rattle.relief.specs.MadeMap.{layer_text}
use Rattle.relief.proofs.several.write_several.Goals as goal

pub returns-in_err-write_one : goal.returns-in_err-write_one
returns-in_err-write_one g c =
    let p = err_from_is_err_and c.from_residual.result c.from_residual.ensures.1 in
    let maps = c.args.maps.now in
    let index = c.loop-index.index in
    let map : DrainageMap = get_or maps index Fill in
    let lt : index < length maps = omega arith in
    rw (p.1, p.2) (failed _ _ _ _ _ _ _ (pieces_split (layer_text c.args.made.now) maps map index lt
    (get_or_default maps index Fill map lt))
    (then _ c.args.writer.now c.loop-index.writer c.write_one.new.writer _ _ _ _
    c.loop-index.invariant c.in_err-write_one.ensures))
