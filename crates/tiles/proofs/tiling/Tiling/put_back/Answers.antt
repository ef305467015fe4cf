use Rattle.std.proofs.Common.{◌≡◌, ℕ, ◌*◌, subst, arith}
use Rattle.tiles.specs.PuttingBack.{IsPutBackBelow}
use Rattle.tiles.proofs.PutBack.{IsPutBack-from_below}
use Rattle.tiles.proofs.tiling.Tiling.put_back.Goals as goal

pub returns : goal.returns
returns g c =
    let t = c.args.self.now in
    let end = c.loop-row.invariant.end in
    let last : c.loop-row.row ≡ t.rows =
    omega (arith, end, c.loop-row-test.false, c.loop-row.auto.row-end) in
    IsPutBack-from_below t c.args.results.now c.loop-row.whole.items
    (subst (λ (n : ℕ). IsPutBackBelow t c.args.results.now (n * t.cols) c.loop-row.whole.items)
    last c.loop-row.invariant.put)
