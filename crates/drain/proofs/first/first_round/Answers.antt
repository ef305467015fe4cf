use Rattle.std.proofs.Common.{◌≡◌, ◌∙◌, length, arith}
use Rattle.tiles.specs.Cutting.{tile_count}
use Rattle.drain.proofs.Sound.{first_counts, first_lists}
use Rattle.drain.proofs.first.first_round.Goals as goal

pub put_back-requires : goal.put_back-requires
put_back-requires g c =
    let v = c.args.tiling.now in
    let lists = c.in_ok-lists.lists in
    let count : length lists.items ≡ tile_count v =
    omega (arith, lists.ok.0, c.in_ok-lists.ensures.len) ∙ c.tiles.ensures.value in
    rw c.deref.ensures.value (first_lists c.args.grid.now.terrain v lists.items c.requires count (λ j d below.
    c.in_ok-lists.ensures.given j d (rw c.tiles.ensures.value below)))

pub returns-in-Ok-clause-counts : goal.returns-in-Ok-clause-counts
returns-in-Ok-clause-counts g c =
    let v = c.args.tiling.now in
    let lists = c.in_ok-lists.lists in
    let count : length lists.items ≡ tile_count v =
    omega (arith, lists.ok.0, c.in_ok-lists.ensures.len) ∙ c.tiles.ensures.value in
    first_counts c.args.grid.now.terrain v lists.items c.requires count (λ j d below.
    c.in_ok-lists.ensures.given j d (rw c.tiles.ensures.value below)) c.tiles.ensures.lawful
    (rw c.deref.ensures.value at c.in-Ok.ensures)
