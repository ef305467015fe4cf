use Rattle.std.proofs.Common.{ap, sym, ◌∙◌}
use Rattle.terrain.specs.Decimal.{scaled_value}
use Rattle.ascii_grid.specs.Meaning.{meaning_of}
use Rattle.ascii_grid.proofs.builder.GridBuilder.add_height.Goals as goal

pub returns-clause-word : goal.returns-clause-word
returns-clause-word c = λ ps hs h.
    let same = c.as_bytes.ensures.value in
    c.add_cell.ensures.word ps hs c.args.word.now h c.requires
    (c.cell-meaning.ensures (h.value ∙ ap (scaled_value c.args.self.now.scale) (sym same)) ∙
    ap (λ n. meaning_of c.args.self.now.scale n c.args.word.now) same)
