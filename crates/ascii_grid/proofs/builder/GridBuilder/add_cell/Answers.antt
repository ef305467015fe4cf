use Rattle.std.proofs.Common.{◌≡◌, ◌<◌, ◌≤◌, length, arith, ap, sym, ◌∙◌}
use Rattle.std.proofs.lemmas.Bool.{lt-ltb, le-ltb}
use Rattle.ascii_grid.specs.GridText.{is_cell, cells_wanted}
use Rattle.ascii_grid.specs.Reading.{flat}
use Rattle.ascii_grid.proofs.Cells.{meaning_cell, meaning_nothing}
use Rattle.ascii_grid.proofs.AddedWords.{is_short, place_of, HasReadHeights-push}
use Rattle.ascii_grid.proofs.builder.GridBuilder.add_cell.Goals as goal

pub returns-then-place-self-clause-word : goal.returns-then-place-self-clause-word
returns-then-place-self-clause-word c = λ ps hs word h short e.
    let over : cells_wanted (flat ps) ≤ length hs = omega (arith, place_of, c.args.self.now.cells.ok.0) in
    rw (is_short, h.whole, le-ltb)

pub returns-in_default-clause-word : goal.returns-in_default-clause-word
returns-in_default-clause-word c = λ ps hs word h short e.
    let at : c.len-place.result ≡ length hs = omega (arith, place_of, c.args.self.now.cells.ok.0) in
    let room : c.len-place.result < cells_wanted (flat ps) = omega arith in
    rw (
      ← at,
      is_short,
      h.whole,
      lt-ltb,
      ap (λ n. is_cell c.args.self.now.scale n word) (sym h.nodata) ∙ meaning_nothing _ _ (sym e ∙ c.in_default.is),
    )

pub returns-clause-word : goal.returns-clause-word
returns-clause-word c = λ ps hs word h short e.
    let j = c.args.self.now in
    let x = c.in-Cell.cell in
    let is = meaning_cell (is_cell j.scale j.nodata word) _ x (sym e ∙ c.in-Cell.is) in
    let room : length j.cells.items < j.wanted = omega (arith, j.cells.ok.0) in
    HasReadHeights-push j (record j { cells = c.push_reserved.new.self }) ps hs word x h short is.0 is.1 room
    c.push_reserved.ensures.items
