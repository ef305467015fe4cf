use Rattle.std.proofs.Common.{◌≡◌, ◌+◌, ◌*◌, ◌∙◌, ap, arith, rules}
use Rattle.tiles.specs.RimNumbers.{rim_number, rim_place}
use Rattle.tiles.proofs.RimNumbered.{number_below, rim_back}
use Rattle.tiles.proofs.tiling.Tiling.rim_number.Goals as goal

pub returns-clause-back : goal.returns-clause-back
returns-clause-back c on =
    let value : c.tile_of-tile.result * c.side_count.result + c.side_number.result
    ≡ rim_number c.args.self.now c.args.place = search rules in
    ap (rim_place c.args.self.now) value
    ∙ rim_back c.args.self.now c.tile_of-tile.ensures.lawful c.args.place c.requires on

pub returns-clause-below : goal.returns-clause-below
returns-clause-below c =
    let value : c.tile_of-tile.result * c.side_count.result + c.side_number.result
    ≡ rim_number c.args.self.now c.args.place = search rules in
    omega (
      arith,
      value,
      number_below c.args.self.now c.tile_of-tile.ensures.lawful c.args.place c.requires,
    )
