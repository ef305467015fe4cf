use Rattle.std.proofs.Common.{◌+◌, ◌<◌, ◌∙◌, ℕ, List, get_or, sym, ap, subst}
use Rattle.terrain.specs.Ways.{around_index}
use Rattle.tiles.specs.Windows.{area_of}
use Rattle.tiles.proofs.SpotWays.{around_below}
use Rattle.tiles.proofs.window.Window.around.Goals as goal

pub returns-clause-below : goal.returns-clause-below
returns-clause-below g c = λ way below.
    let b = c.args.self.now.bounds in
    subst (λ (at : List ℕ). get_or at way 0 < area_of b) (sym (c.around_index.ensures
    ∙ ap (λ (n : ℕ). around_index (b.cols + 2) n) c.index.ensures.value))
    (around_below b c.args.spot c.requires way below)
