use Rattle.std.proofs.Common.{◌≡◌, ◌<◌, ◌*◌, ℕ, get_or, Option, None, sym, ap, subst, ◌∙◌, arith, set, ◌+◌}
use Rattle.std.proofs.lemmas.List.{get_or_default}
use Rattle.terrain.specs.declared.place.Place.{Place}
use Rattle.tiles.specs.Cutting.{index_in}
use Rattle.tiles.specs.RimNumbers.{side_place}
use Rattle.flow.specs.TileLinks.{IsMove}
use Rattle.flow.proofs.Moved.{AreMovesUpTo, moves_first, moves_next, moves_all}
use Rattle.flow.proofs.tile_links.set_moves.Goals as goal

pub loop-side-init : goal.loop-side-init
loop-side-init c = moves_first c.requires.size c.set_interior_moves.ensures

pub loop-side-preserved : goal.loop-side-preserved
loop-side-preserved c =
    let b = c.args.bounds in
    let cells = c.args.cells.now in
    let k = index_in b (side_place b b c.loop-side.side) in
    let move = c.rim_move.result in
    let at : c.index_of-index.result ≡ k = c.index_of-index.ensures.value ∙
    ap (index_in b) c.side_place-place.ensures in
    let below : k < b.rows * b.cols = omega (arith, at, c.index_of-index.ensures.below) in
    let read : c.index-cells-index.result ≡ get_or cells k None = c.index-cells-index.is ∙
    get_or_default cells c.index_of-index.result c.index-cells-index.result None (omega (
      arith,
      c.requires.size,
      c.index_of-index.ensures.below,
    )) ∙ ap (λ i. get_or cells i None) at in
    let here : IsMove b k (get_or cells k None) move =
    subst (λ (code : Option ℕ). IsMove b k code move) read
    (subst (λ (p : Place). IsMove b (index_in b p) c.index-cells-index.result move) c.side_place-place.ensures
    c.rim_move.ensures) in
    subst (λ i. AreMovesUpTo b cells (c.loop-side.side + 1) (set c.loop-side.moves i move)) (sym at)
    (moves_next c.loop-side.side move below here c.loop-side.invariant)

pub returns : goal.returns
returns c = moves_all _ c.requires.small.some_col (omega arith) c.loop-side.invariant
