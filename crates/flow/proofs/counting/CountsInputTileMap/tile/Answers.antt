use Rattle.std.proofs.Common.{◌≡◌, length, Some, slice_get, refl, ap, ◌∙◌, arith}
use Rattle.std.proofs.lemmas.Option.{slice_get_read}
use Rattle.tiles.specs.Cutting.{cell_count}
use Rattle.tile_maps.proofs.Whole.{tile_of_entries}
use Rattle.flow.specs.Counting.{IsCountAt}
use Rattle.flow.proofs.Counted.{counts_size, entry_counted}
use Rattle.flow.proofs.counting.CountsInputTileMap.tile.Goals as goal

pub tile_counts-requires-clause-countable : goal.tile_counts-requires-clause-countable
tile_counts-requires-clause-countable c =
    let m = c.args.self.now in
    m.countable.each c.args.tile c.index-flow.result.now (slice_get_read m.flows.items (length m.flows.items)
    c.args.tile c.index-flow.result.now refl (omega (arith, c.requires, m.countable.count)) c.index-flow.ensures)

pub returns : goal.returns
returns c =
    let m = c.args.self.now in
    let flow = c.index-flow.result.now in
    let there : slice_get m.flows.items c.args.tile ≡ Some flow =
    slice_get_read m.flows.items (length m.flows.items) c.args.tile flow refl
    (omega (arith, c.requires, m.countable.count)) c.index-flow.ensures in
    let counts = c.in_ok-counts.ensures in
    let size = counts_size counts ∙ (m.countable.each c.args.tile flow there).size ∙
    ap (λ x. cell_count x c.args.tile) m.countable.same_cutting in
    tile_of_entries m.tiling.now c.args.tile (IsCountAt m.tiling.now m.flows.items m.inflows)
    c.in_ok-counts.counts.items size (λ p i codes s. entry_counted s c.args.tile flow there counts p i)
