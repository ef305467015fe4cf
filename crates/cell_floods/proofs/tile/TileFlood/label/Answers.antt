use Rattle.std.proofs.Common.{get_or, None, is_none, sym, ap, ◌∙◌}
use Rattle.tiles.proofs.Cut.{in_bounds_parts}
use Rattle.tiles.proofs.TileOrder.{entry_in-inside}
use Rattle.cell_floods.proofs.tile.TileFlood.label.Goals as goal

pub returns-clause-level : goal.returns-clause-level
returns-clause-level c =
    let f = c.args.self.now in
    let found = c.in_ok-index.ensures in
    let level =
    entry_in-inside f.bounds f.levels c.args.place (in_bounds_parts f.bounds c.args.place found.0)
    ∙ ap (λ n. get_or f.levels n None) (sym found.1) in
    c.label_at.ensures.level ∙ ap is_none (sym level)
