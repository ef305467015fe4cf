use Rattle.std.proofs.Common.{◌≡◌, ◌+◌, ◌*◌, ◌≤◌, ap, ◌∙◌, arith}
use Rattle.std.proofs.Math.Nat.{mul-le-mul}
use Rattle.tiles.specs.Cutting.{tile_count, bounds_of}
use Rattle.tiles.specs.RimNumbers.{stride}
use Rattle.tiles.proofs.tiling.Tiling.rim_numbers_of.Goals as goal

pub bounds-requires : goal.bounds-requires
bounds-requires c = omega (arith, c.requires)

pub returns-clause-below : goal.returns-clause-below
returns-clause-below c =
    let next : c.args.tile + 1 ≤ tile_count c.args.self.now = omega (arith, c.requires) in
    let same : c.side_count-count.result ≤ c.side_count-count.result = omega arith in
    let most : (c.args.tile + 1) * c.side_count-count.result
    ≤ tile_count c.args.self.now * c.side_count-count.result = mul-le-mul next same in
    let more : (c.args.tile + 1) * c.side_count-count.result
    ≡ c.args.tile * c.side_count-count.result + c.side_count-count.result = grind arith in
    let count : c.side_count-count.result ≡ stride (bounds_of c.args.self.now 0) =
    c.side_count-count.ensures.value ∙ ap stride c.bounds.ensures.value in
    omega (arith, most, more, ap (λ n. tile_count c.args.self.now * n) count)
