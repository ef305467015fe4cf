use Rattle.std.proofs.Common.{arith, rules, refl, sym, ap, subst, ◌∙◌, ◌*◌, ℤ, length, get_or, Option, Vec, Global}
use Rattle.std.proofs.lemmas.Option.{slice_get_read}
use Rattle.terrain.proofs.Places.{make_place}
use Rattle.tiles.specs.Cutting.{IsInBounds, IsWithin}
use Rattle.tiles.specs.declared.bounds.Bounds.{Bounds}
use Rattle.tile_maps.specs.Maps.{IsMadeUpTo}
use Rattle.sight.specs.BlockTops.{ground_of, blocks_begun, IsBlockTop, IsTileTops}
use Rattle.sight.proofs.BlockLists.{begins_there}
use Rattle.sight.proofs.tops.TileTopsPlaceMap.entry.Goals as goal

pub index_of-requires-clause-inside : goal.index_of-requires-clause-inside
index_of-requires-clause-inside c =
    let block = c.args.block in
    let first = make_place (block.row * 16) (block.col * 16) in
    let within : IsWithin c.args.self.now.tiles.now.tiling.now first = search rules in
    rw c.blocks_begun-begun.ensures
    (begins_there _ block ((c.bounds.ensures.places first).0 (within, sym c.tile_of-tile.ensures.number)))

pub returns : goal.returns
returns c =
    let tiles = c.args.self.now.tiles.now in
    let t = ground_of tiles.blocks.now.cols tiles.blocks.now.rows tiles.blocks.now.cells.now in
    let tile = c.tile_of-tile.result in
    let list = c.index-self-tile.result in
    let listed =
    subst (λ (v : Vec (Option ℤ) Global). IsTileTops tiles.tiling.now t tile v.items) (sym c.index-self-tile.is)
    (c.args.self.now.listed tile list c.tile_of-tile.ensures.below) in
    let made =
    subst (λ (b : Bounds). IsMadeUpTo b (IsBlockTop 16 t) (b.rows * b.cols) list.items)
    (sym (c.blocks_begun-begun.ensures ∙ ap blocks_begun c.bounds.ensures.value)) listed in
    let first = make_place (c.args.block.row * 16) (c.args.block.col * 16) in
    let within : IsWithin tiles.tiling.now first = search rules in
    let inside : IsInBounds c.blocks_begun-begun.result c.args.block =
    rw c.blocks_begun-begun.ensures (begins_there _ c.args.block
    ((c.bounds.ensures.places first).0 (within, sym c.tile_of-tile.ensures.number))) in
    let index = c.index_of.result in
    let at =
    slice_get_read list.items (length list.items) index _ refl (omega (arith, c.index_of.ensures.below, made.size))
    (c.index.ensures ∙
    ap (λ (v : Vec (Option ℤ) Global). get_or v.items index c.index.result.now)
    (sym c.index-self-tile.is)) in
    made.each c.args.block inside (rw c.index_of.ensures.value at c.index_of.ensures.below) c.index.result.now
    (rw c.index_of.ensures.value at at)
