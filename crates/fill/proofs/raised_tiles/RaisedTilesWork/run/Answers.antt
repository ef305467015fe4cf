use Rattle.std.proofs.Common.{◌+◌, ◌*◌, ◌<◌, length, ap, refl, ◌∙◌, arith}
use Rattle.std.proofs.lemmas.List.{get_or_default}
use Rattle.std.proofs.lemmas.List.Folds.{length-flat_map-take}
use Rattle.std.proofs.lemmas.Option.{slice_get_read}
use Rattle.cell_floods.specs.TileFlood.{Flood}
use Rattle.fill.specs.Numbers.{first_of}
use Rattle.fill.specs.RaisedTiles.{raised_cell}
use Rattle.fill.proofs.Numbered.{place_at}
use Rattle.fill.proofs.Raised.{raised_places}
use Rattle.fill.proofs.raised_tiles.RaisedTilesWork.run.Goals as goal

pub new-raised-requires : goal.new-raised-requires
new-raised-requires c =
    let m = c.args.self.now in
    let floods = m.floods.items in
    let tile = c.args.job in
    let f = c.index.result.now in
    let below : tile < length floods = omega (arith, c.requires, m.fit.count) in
    let all = length-flat_map-take (λ (g : Flood). g.table.places) floods tile f below in
    omega (
      arith,
      c.index-first.ensures ∙
          get_or_default m.firsts.items tile _ 0 (omega (arith, below, m.numbers.size)) ∙ m.numbers.each tile below,
      all,
      ap (λ g. length g.table.places) c.index.ensures,
      m.crests_size,
    )

pub runs-requires-clause-cells : goal.runs-requires-clause-cells
runs-requires-clause-cells c =
    let m = c.args.self.now in
    let floods = m.floods.items in
    let tile = c.args.job in
    let f = c.index.result.now in
    let there = slice_get_read floods _ tile f refl (omega (arith, c.requires, m.fit.count)) c.index.ensures in
    rw c.view-view.ensures
    (c.new-raised.ensures.size ∙ m.fit.sizes tile f there ∙ ap (λ x. x.rows * x.cols) (m.fit.bounds tile f there))

pub returns-clause-given : goal.returns-clause-given
returns-clause-given c =
    let m = c.args.self.now in
    let floods = m.floods.items in
    let tile = c.args.job in
    let f = c.index.result.now in
    let below : tile < length floods = omega (arith, c.requires, m.fit.count) in
    let there = slice_get_read floods _ tile f refl below c.index.ensures in
    (rw c.view-view.ensures at c.in_ok-runs.ensures) (raised_cell m.tiling floods m.crests.items)
    (raised_places tile m.lawful m.fit there _ c.requires (λ some.
    m.bare (first_of floods tile + 0) (place_at floods tile 0 there some ∙ (m.numbers.lawful tile f there).table.first))
    (rw (
      c.index-first.ensures ∙ get_or_default m.firsts.items tile _ 0 (omega (arith, below, m.numbers.size)) ∙
          m.numbers.each tile below,
      c.deref.ensures.value,
    ) at c.new-raised.ensures))
