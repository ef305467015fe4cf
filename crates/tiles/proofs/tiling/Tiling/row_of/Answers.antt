use Rattle.std.proofs.Common.{◌≡◌, ◌+◌, ◌-◌, ◌*◌, ◌<◌, length, Some, ap, refl, ◌∙◌, arith, slice_get, slice_range}
use Rattle.std.proofs.lemmas.Option.{slice_get_read}
use Rattle.tiles.specs.declared.bounds.Bounds.{Bounds}
use Rattle.tiles.specs.Cutting.{bounds_of}
use Rattle.tiles.proofs.PutBack.{row_in_list, row_is}
use Rattle.tiles.proofs.tiling.Tiling.row_of.Goals as goal

pub part-requires : goal.part-requires
part-requires g c =
    let v = c.index-results-tile.result in
    let lists = c.requires.lists in
    let count = lists.count in
    let below : c.args.tile < length c.args.results.now = omega (arith, count, c.requires.tile) in
    let at : slice_get c.args.results.now c.args.tile ≡ Some v = slice_get_read c.args.results.now
    (length c.args.results.now) c.args.tile v refl below c.index-results-tile.is in
    let b = bounds_of c.args.self.now c.args.tile in
    rw (c.bounds-top.ensures.value, c.deref.ensures.value)
    (row_in_list b c.args.row (length v.items)
    (lists.each c.args.tile v at) c.requires.row.0 c.requires.row.1)

pub returns : goal.returns
returns g c =
    let v = c.index-results-tile.result in
    let lists = c.requires.lists in
    let count = lists.count in
    let below : c.args.tile < length c.args.results.now = omega (arith, count, c.requires.tile) in
    let at : slice_get c.args.results.now c.args.tile ≡ Some v = slice_get_read c.args.results.now
    (length c.args.results.now) c.args.tile v refl below c.index-results-tile.is in
    let b = c.bounds-top.result in
    let value = c.bounds-top.ensures.value in
    let from = (c.args.row - b.top) * b.cols in
    row_is c.args.self.now c.args.results.now c.args.tile c.args.row v c.part.result.now from
    c.bounds-top.ensures.lawful c.requires.tile lists at c.requires.row.0 c.requires.row.1
    (ap (λ (z : Bounds). (c.args.row - z.top) * z.cols) value)
    (c.part.ensures.value
    ∙ ap (λ xs. slice_range xs from (from + b.cols)) c.deref.ensures.value
    ∙ ap (λ (z : Bounds). slice_range v.items from (from + z.cols)) value)
