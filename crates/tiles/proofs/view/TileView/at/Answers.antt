use Rattle.std.proofs.Common.{◌≡◌, true, sym, subst, ◌∙◌}
use Rattle.tiles.specs.Cutting.{View, is_shown}
use Rattle.tiles.proofs.Shown.{shown_index}
use Rattle.tiles.proofs.view.TileView.at.Goals as goal

pub element-requires : goal.element-requires
element-requires g c =
    let a = c.self.inside in
    let v : View g.row.T.Denot =
    record { cutting = a.tiling; tile = a.tile; cells = a.cells.now } in
    let shown : is_shown a.tiling a.tile c.args.place ≡ true =
    subst (λ (w : View g.row.T.Denot). is_shown w.cutting w.tile c.args.place
    ≡ true) (sym c.self.view_is) (sym c.shows.ensures ∙ c.if-shows.true) in
    rw (c.index_in.ensures, c.cols.ensures.value)
    (shown_index v c.args.place c.self.invariant.1 shown)
