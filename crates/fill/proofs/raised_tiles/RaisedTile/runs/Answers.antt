use Rattle.std.proofs.Common.{◌≡◌, ◌+◌, ◌*◌, arith, subst}
use Rattle.std.proofs.lemmas.Result.{IfOk-weaker}
use Rattle.tiles.specs.Cutting.{bounds_of}
use Rattle.fill.specs.RaisedRuns.{runs_of}
use Rattle.fill.specs.RaisedTiles.{HasRow}
use Rattle.fill.proofs.RaisedRuns.{next_row, row_of_tile}
use Rattle.std.proofs.lemmas.Nat.{mul-le}
use Rattle.cell_floods.proofs.TileRectangles.{bounds_limits}
use Rattle.fill.proofs.raised_tiles.RaisedTile.runs.Goals as goal

pub loop-row-init : goal.loop-row-init
loop-row-init c raised all = record { sound = c.new-runs.ensures raised; each = λ p inside under. absurd (omega arith) }

pub push_row-requires-clause-start : goal.push_row-requires-clause-start
push_row-requires-clause-start c =
    let b = c.bounds-top.result in
    let e = c.bounds-top.ensures in
    let limits = bounds_limits _ b e.lawful.cutting e.inside in
    omega (
      arith,
      mul-le c.loop-row.row b.cols 4096 4096 (omega (arith, limits, c.loop-row-test.true)) (omega (arith, limits)),
    )

pub loop-row-preserved : goal.loop-row-preserved
loop-row-preserved c raised all =
    let v = c.args.view.now in
    let b = bounds_of v.cutting v.tile in
    let row = c.loop-row.row in
    let has =
    row_of_tile c.args.self.now raised v.cutting _ row (rw c.bounds-top.ensures.value at c.loop-row-test.true) all in
    next_row raised v row _ _
    (rw c.row.ensures.value at
    (rw c.row.ensures.size at ((rw (c.bounds-top.ensures.value, c.requires.cols) at c.in_ok-push_row.ensures) raised
    (subst (HasRow c.args.self.now raised (row * b.cols) ((b.top + row) * v.cutting.cols + b.left)) (cc) has))))
    (c.loop-row.invariant raised all)

pub returns : goal.returns
returns c = IfOk-weaker c.into_runs.result (λ w. w.items ≡ runs_of c.loop-row.runs) _ (λ w is raised all.
    let are = c.loop-row.invariant raised all in
    rw is (record {
      sound = are.sound;
      each =
          λ p inside. are.each p inside (omega (arith, inside, rw c.bounds-top.ensures.value at c.loop-row-test.false));
    })) c.into_runs.ensures
