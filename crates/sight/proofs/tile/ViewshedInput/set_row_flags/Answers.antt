use Rattle.std.proofs.Common.{◌≡◌, ◌+◌, ◌-◌, ◌*◌, ℕ, set, ap, subst, arith}
use Rattle.terrain.proofs.Places.{make_place}
use Rattle.tiles.specs.Cutting.{index_in}
use Rattle.tiles.proofs.TileOrder.{index_in_below}
use Rattle.sight.specs.Flags.{AreFlagsBelow, IsFlagOf}
use Rattle.sight.proofs.FlagLists.{flagged_more}
use Rattle.sight.proofs.tile.ViewshedInput.set_row_flags.Goals as goal

pub bounds-flags-first : goal.bounds-flags-first
bounds-flags-first c =
    let below =
    index_in_below c.args.bounds (make_place c.args.row c.loop-col.col)
    (omega (arith, c.requires.row), omega (arith, c.requires.row), omega arith, omega arith) in
    omega (arith, below, c.loop-col.invariant.size)

pub loop-col-preserved : goal.loop-col-preserved
loop-col-preserved c =
    let self = c.args.self.now in
    let b = c.args.bounds in
    let Holds = IsFlagOf c.args.check self.grid.now.terrain c.args.observer.now self.target_height self.radius in
    let p = make_place c.args.row c.loop-col.col in
    let at : (c.args.row - b.top) * b.cols + (c.loop-col.col - b.left) ≡ index_in b p = omega arith in
    let next : (c.args.row - b.top) * b.cols + (c.loop-col.col - b.left) + 1 ≡
    (c.args.row - b.top) * b.cols + (c.loop-col.col + 1 - b.left) = omega arith in
    let more =
    flagged_more b Holds p _ _ _ (omega arith, omega arith, omega arith, omega arith) at c.loop-col.invariant
    c.flag_of.ensures in
    subst (λ (n : ℕ).
    AreFlagsBelow b Holds n
    (set c.loop-col.flags ((c.args.row - b.top) * b.cols + (c.loop-col.col - b.left)) c.flag_of.result))
    next more

pub returns : goal.returns
returns c =
    let self = c.args.self.now in
    let b = c.args.bounds in
    let up : c.args.row + 1 - b.top ≡ (c.args.row - b.top) + 1 = omega (arith, c.requires.row) in
    let wide : c.loop-col.col - b.left ≡ b.cols = omega arith in
    let all : (c.args.row - b.top) * b.cols + (c.loop-col.col - b.left) ≡ (c.args.row + 1 - b.top) * b.cols = omega (
      arith,
      wide,
      ap (λ (n : ℕ). n * b.cols) up,
    ) in
    subst (λ (n : ℕ).
    AreFlagsBelow b
    (IsFlagOf c.args.check self.grid.now.terrain c.args.observer.now self.target_height self.radius) n
    c.loop-col.flags) all c.loop-col.invariant
