use Rattle.std.proofs.Common.{◌≡◌, ◌+◌, ◌*◌, ◌++◌, ◌∷◌, [], ℕ, List, sym, ap, subst, ◌∙◌, arith}
use Rattle.terrain.proofs.Places.{make_place}
use Rattle.tiles.specs.declared.bounds.Bounds.{Bounds}
use Rattle.tiles.specs.Windows.{AreSeenBelow, spot_index}
use Rattle.tiles.proofs.Spots.{seen_push, seen_row}
use Rattle.tiles.proofs.window.load_row_across.Goals as goal

pub returns : goal.returns
returns g c =
    let v = c.args.view.now in
    let seen = c.args.seen in
    let none = c.args.none in
    let b = c.args.bounds in
    let row = c.args.row in
    let old = c.args.list.now.items in
    let first = make_place row 0 in
    let last = make_place row (b.cols + 1) in
    let entries = c.row.result.now in
    let start : spot_index b first ≡ row * (b.cols + 2) = omega arith in
    let before = subst (λ (n : ℕ). AreSeenBelow {X = g.row.T.Denot} v seen none b n old)
    (sym start) c.requires.old in
    let one = seen_push v seen none b first old c.spot_value-first.result
    (omega (arith, c.requires.row), omega arith) before c.spot_value-first.ensures in
    let next : spot_index b first + 1 ≡ row * (b.cols + 2) + 1 = omega arith in
    let begun = subst (λ (n : ℕ). AreSeenBelow {X = g.row.T.Denot} v seen none b n
    (old ++ c.spot_value-first.result ∷ [])) next one in
    let count = c.row.ensures.size ∙ ap (λ (z : Bounds). z.cols) (sym c.requires.bounds) in
    let across = seen_row v seen none b row (old ++ c.spot_value-first.result ∷ []) entries
    c.requires.bounds c.requires.seen c.requires.row.0 c.requires.row.1 c.row.ensures.value count
    begun in
    let near : row * (b.cols + 2) + 1 + b.cols ≡ spot_index b last = omega arith in
    let most = subst (λ (n : ℕ). AreSeenBelow {X = g.row.T.Denot} v seen none b n
    ((old ++ c.spot_value-first.result ∷ []) ++ entries)) near across in
    let all = seen_push v seen none b last ((old ++ c.spot_value-first.result ∷ []) ++ entries)
    c.spot_value-last.result (omega (arith, c.requires.row), omega arith) most
    c.spot_value-last.ensures in
    let end : spot_index b last + 1 ≡ (row + 1) * (b.cols + 2) = omega arith in
    let items : c.push-2.new.self.items ≡ ((old ++ c.spot_value-first.result ∷ []) ++ entries)
    ++ c.spot_value-last.result ∷ [] =
    c.in_ok-push-2.ensures.items
    ∙ ap (λ (xs : List g.row.T.Denot). xs ++ c.spot_value-last.result ∷ [])
    (c.in_ok-extend_from_slice.ensures.items
    ∙ ap (λ (xs : List g.row.T.Denot). xs ++ entries) c.in_ok-push.ensures.items) in
    subst (λ (n : ℕ). AreSeenBelow {X = g.row.T.Denot} v seen none b n c.push-2.new.self.items) end
    (subst (λ (xs : List g.row.T.Denot). AreSeenBelow v seen none b (spot_index b last + 1) xs)
    (sym items) all)
