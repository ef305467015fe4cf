use Rattle.std.proofs.Common.{◌≡◌, ◌+◌, ◌*◌, ◌<◌, ap, ◌∙◌, arith}
use Rattle.std.proofs.lemmas.Nat.{mul-add-lt}
use Rattle.tiles.proofs.view.TileView.beside.Goals as goal

pub part-requires : goal.part-requires
part-requires g c =
    let a = c.self.inside in
    let p = c.args.place in
    let row : p.row < a.tiling.rows = omega (arith, c.if-place-rows.false, c.rows.ensures.value) in
    let col : p.col + 1 < a.tiling.cols =
    omega (arith, c.if-place-cols.false, c.cols-cols.ensures.value) in
    let low = mul-add-lt p.row a.tiling.cols (p.col + 1) a.tiling.rows row col in
    let at : c.index_in.result ≡ p.row * a.tiling.cols + p.col =
    c.index_in.ensures ∙ ap (λ n. p.row * n + p.col) c.cols-cols.ensures.value in
    omega (arith, at, low, c.self.invariant.1.size, c.if-place-eq0.false)
