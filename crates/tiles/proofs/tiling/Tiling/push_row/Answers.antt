use Rattle.std.proofs.Common.{◌≡◌, ℕ, ◌<◌, subst, ap, ◌∙◌, arith}
use Rattle.tiles.specs.Cutting.{across}
use Rattle.tiles.specs.PuttingBack.{IsPutBackBelow}
use Rattle.tiles.proofs.PutBack.{crossed_length, crossed_below, crossed_at, crosses_more, crossed_all}
use Rattle.tiles.proofs.tiling.Tiling.push_row.Goals as goal

pub row_of-requires-clause-tile : goal.row_of-requires-clause-tile
row_of-requires-clause-tile g c =
    let end = c.loop-column.invariant.end in
    let column : c.loop-column.column < across c.args.self.now =
    omega (arith, end, c.loop-column-test.true) in
    rw c.first_tile-first.ensures (crossed_below c.args.self.now c.args.row c.loop-column.column
    c.across-column-end.ensures.lawful c.requires.row column)

pub row_of-requires-clause-row : goal.row_of-requires-clause-row
row_of-requires-clause-row g c =
    let end = c.loop-column.invariant.end in
    let column : c.loop-column.column < across c.args.self.now =
    omega (arith, end, c.loop-column-test.true) in
    let at = crossed_at c.args.self.now c.args.row c.loop-column.column
    c.across-column-end.ensures.lawful c.requires.row column in
    rw c.first_tile-first.ensures (at.0, at.1)

pub loop-column-preserved : goal.loop-column-preserved
loop-column-preserved g c =
    let t = c.args.self.now in
    let end = c.loop-column.invariant.end in
    let column : c.loop-column.column < across t = omega (arith, end, c.loop-column-test.true) in
    record {
      first = c.loop-column.invariant.first;
      end = end;
      crossed_length = crosses_more t c.args.results.now c.args.row c.loop-column.column
          c.first_tile-first.result c.loop-column.whole.items c.row_of.result.now
          c.extend_from_slice.new.self.items
          c.across-column-end.ensures.lawful c.requires.row column c.first_tile-first.ensures
          c.in_ok-extend_from_slice.ensures.items c.loop-column.invariant.crossed_length
          c.row_of.ensures;
    }

pub returns : goal.returns
returns g c =
    let t = c.args.self.now in
    let end = c.loop-column.invariant.end in
    let last : c.loop-column.column ≡ across t =
    omega (arith, end, c.loop-column-test.false, c.loop-column.auto.column-end) in
    subst (λ (n : ℕ). IsPutBackBelow t c.args.results.now n c.loop-column.whole.items)
    (ap (λ n. crossed_length t c.args.row n) last
    ∙ crossed_all t c.args.row c.across-column-end.ensures.lawful)
    c.loop-column.invariant.crossed_length
