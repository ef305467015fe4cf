use Rattle.std.proofs.Common.{◌≡◌, ◌-◌, ◌*◌, ℕ, subst, arith}
use Rattle.tile_maps.specs.Maps.{IsMadeUpTo}
use Rattle.sight.proofs.by_place.entries.Goals as goal

pub returns : goal.returns
returns g c =
    let b = c.args.bounds in
    let all : c.loop-row.row - b.top ≡ b.rows = omega arith in
    subst (λ (n : ℕ). IsMadeUpTo b (g.M.PlaceMap.has c.args.map.now) (n * b.cols) c.loop-row.list.items) all
    c.loop-row.invariant
