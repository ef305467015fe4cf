use Rattle.std.proofs.Common.{◌≡◌, ◌+◌, ◌*◌, ℕ, List, sym, subst, arith}
use Rattle.terrain.proofs.Places.{make_place}
use Rattle.tiles.specs.Windows.{AreSeenBelow, spot_index}
use Rattle.tiles.proofs.Spots.{seen_push}
use Rattle.tiles.proofs.window.load_row_beside.Goals as goal

pub loop-col-preserved : goal.loop-col-preserved
loop-col-preserved g c =
    let v = c.args.view.now in
    let b = c.args.bounds in
    let s = make_place c.args.row c.loop-col.col in
    let more = seen_push v c.args.seen c.args.none b s c.loop-col.list.items c.spot_value.result
    (c.requires.row, c.loop-col-test.true) c.loop-col.invariant c.spot_value.ensures in
    let next : spot_index b s + 1 ≡ c.args.row * (b.cols + 2) + (c.loop-col.col + 1) =
    omega arith in
    subst (λ (n : ℕ). AreSeenBelow {X =
    g.row.T.Denot} v c.args.seen c.args.none b n c.push.new.self.items) next
    (subst (λ (xs : List g.row.T.Denot). AreSeenBelow v c.args.seen c.args.none b
    (spot_index b s + 1) xs) (sym c.in_ok-push.ensures.items) more)

pub loop-col-init : goal.loop-col-init
loop-col-init g c =
    let width = c.args.bounds.cols + 2 in
    let start : c.args.row * width ≡ c.args.row * width + 0 = omega arith in
    rw start at c.requires.old

pub returns : goal.returns
returns g c =
    let width = c.args.bounds.cols + 2 in
    let end : c.args.row * width + c.loop-col.col ≡ (c.args.row + 1) * width = omega arith in
    rw end at c.loop-col.invariant
