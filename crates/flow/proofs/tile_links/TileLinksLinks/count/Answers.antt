use Rattle.std.proofs.Common.{◌+◌, ◌-◌, length, get_or, ap, arith}
use Rattle.std.proofs.lemmas.List.FromFn.{length-map-range_with_len}
use Rattle.flow.specs.TileLinks.{reach}
use Rattle.flow.proofs.tile_links.TileLinksLinks.count.Goals as goal

pub returns : goal.returns
returns c =
    let moves = c.self.inside.moves in
    let cols = c.self.inside.cols in
    omega (
      arith,
      ap (λ l. length l.links) c.self.view_is,
      length-map-range_with_len (λ i. reach cols i (get_or moves.items i 0) - (cols + 1)) 0 (length moves.items),
    )
