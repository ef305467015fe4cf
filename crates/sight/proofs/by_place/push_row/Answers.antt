use Rattle.std.proofs.Common.{◌≡◌, ◌+◌, ◌-◌, ◌*◌, ℕ, ◌++◌, ◌∷◌, [], ap, subst, arith}
use Rattle.terrain.proofs.Places.{make_place}
use Rattle.tiles.specs.Cutting.{index_in}
use Rattle.tile_maps.specs.Maps.{IsMadeUpTo}
use Rattle.tile_maps.proofs.TileLists.{made_push}
use Rattle.sight.proofs.by_place.push_row.Goals as goal

pub loop-col-preserved : goal.loop-col-preserved
loop-col-preserved g c =
    let b = c.args.bounds in
    let Has = g.M.PlaceMap.has c.args.map.now in
    let p = make_place c.args.row c.loop-col.col in
    let next : index_in b p + 1 ≡ (c.args.row - b.top) * b.cols + (c.loop-col.col + 1 - b.left) = omega arith in
    let more =
    made_push b Has p _ _ (omega arith, omega arith, omega arith, omega arith) c.loop-col.invariant
    c.entry.ensures in
    rw c.in_ok-push.ensures.items
    (subst (λ (n : ℕ). IsMadeUpTo b Has n (c.loop-col.list.items ++ c.entry.result ∷ [])) next more)

pub returns : goal.returns
returns g c =
    let b = c.args.bounds in
    let up : c.args.row + 1 - b.top ≡ (c.args.row - b.top) + 1 = omega (arith, c.requires.row) in
    let wide : c.loop-col.col - b.left ≡ b.cols = omega arith in
    let all : (c.args.row - b.top) * b.cols + (c.loop-col.col - b.left) ≡ (c.args.row + 1 - b.top) * b.cols = omega (
      arith,
      wide,
      ap (λ (n : ℕ). n * b.cols) up,
    ) in
    subst (λ (n : ℕ). IsMadeUpTo b (g.M.PlaceMap.has c.args.map.now) n c.loop-col.list.items) all c.loop-col.invariant
