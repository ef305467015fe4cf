use Rattle.std.proofs.Common.{◌≡◌, length, get_or, None, Some, slice_get, ap, refl, ◌∙◌, arith}
use Rattle.std.proofs.lemmas.Option.{slice_get_read}
use Rattle.std.proofs.lemmas.List.FromFn.{length-map-range_with_len}
use Rattle.tile_maps.proofs.Whole.{tile_of_entries}
use Rattle.flow.specs.TileLinks.{where_data}
use Rattle.flow.specs.Numbering.{IsEndNumberAt, cell_numbers_by}
use Rattle.flow.proofs.Numbered.{entry_numbered, numbers_few}
use Rattle.flow.proofs.numbering.NumberingTileMap.tile.Goals as goal

pub invariant_of-exit_numbers : goal.invariant_of-exit_numbers
invariant_of-exit_numbers g c =
    let m = c.args.self.now in
    let f = c.index-flow.result.now in
    record {
      ready = (m.ready.each c.args.tile f (slice_get_read m.flows.items (length m.flows.items) c.args.tile f refl
          (omega (arith, c.requires, m.ready.count)) c.index-flow.ensures)).numbered;
    }

pub exit_numbers-requires-clause-few : goal.exit_numbers-requires-clause-few
exit_numbers-requires-clause-few g c i below =
    let m = c.args.self.now in
    let f = c.index-flow.result.now in
    numbers_few (m.ready.each c.args.tile f (slice_get_read m.flows.items (length m.flows.items) c.args.tile f refl
    (omega (arith, c.requires, m.ready.count)) c.index-flow.ensures)).numbered i below

pub cell_numbers-requires-clause-size : goal.cell_numbers-requires-clause-size
cell_numbers-requires-clause-size g c =
    let m = c.args.self.now in
    let f = c.index-flow.result.now in
    let ready = m.ready.each c.args.tile f (slice_get_read m.flows.items (length m.flows.items) c.args.tile f refl
    (omega (arith, c.requires, m.ready.count)) c.index-flow.ensures) in
    omega (
      arith,
      ap length c.deref.ensures.value,
      c.in_ok-numbers.ensures.size,
      ready.numbered.codes_size,
      ap length c.links.ensures.codes,
    )

pub returns : goal.returns
returns g c =
    let m = c.args.self.now in
    let f = c.index-flow.result.now in
    let there : slice_get m.flows.items c.args.tile ≡ Some f =
    slice_get_read m.flows.items (length m.flows.items) c.args.tile f refl (omega (arith, c.requires, m.ready.count))
    c.index-flow.ensures in
    let ready = m.ready.each c.args.tile f there in
    let made = c.in_ok-values.ensures ∙ ap (λ l. cell_numbers_by l c.deref.result.now) c.links.ensures.codes ∙
    ap (cell_numbers_by f.codes) c.deref.ensures.value in
    let size = ap length made ∙ length-map-range_with_len (λ i. where_data (get_or f.codes i None)
    (get_or c.in_ok-numbers.numbers.items i 0)) 0 (length f.codes) ∙ ready.numbered.codes_size ∙ ready.size in
    tile_of_entries m.tiling.now c.args.tile (IsEndNumberAt m.tiling.now m.flows.items m.outlets
    (g.N.EndNumbering.numbers m.numbers)) c.in_ok-values.values.items size (λ p i d s. entry_numbered s c.args.tile f
    there c.in_ok-numbers.ensures made p i)
