use Rattle.std.proofs.Common.{◌≡◌, ◌<◌, length, get_or, None, ap, subst, ◌∙◌, arith}
use Rattle.std.proofs.lemmas.List.{get_or_default}
use Rattle.tiles.specs.Cutting.{place_in, index_in}
use Rattle.tiles.proofs.TileOrder.{index_in_below}
use Rattle.flow.specs.TileFlow.{Flow}
use Rattle.flow.specs.TileLinks.{ends_by}
use Rattle.flow.proofs.Listed.{made_at}
use Rattle.flow.proofs.Piece.{end_listed}
use Rattle.flow.proofs.tile_exits.TileExits.exit_at.Goals as goal

pub returns : goal.returns
returns c =
    let b = c.self.inside.bounds in
    let cells = c.self.inside.links.codes in
    let links = c.self.inside.links.links in
    let i = index_in b c.args.place in
    let inside = rw (← c.self.view_is) at c.requires in
    let below : index_in c.self.inside.bounds c.args.place < length c.self.inside.links.codes =
    omega (arith, index_in_below b c.args.place inside, c.self.invariant.lawful.codes_size) in
    let end : c.end_in-end.result ≡ get_or (ends_by c.self.inside.links.links)
    (index_in c.self.inside.bounds c.args.place) 0 = c.end_in-end.ensures ∙ end_listed c.self.invariant i below in
    subst (λ (f : Flow). c.where_data.result ≡ get_or f.exits (index_in f.bounds c.args.place) None) c.self.view_is
    (c.where_data.ensures ∙ made_at cells (λ i. place_in b (get_or (ends_by links) i 0)) (length cells) i _ _ below
    below (rw c.index_of.ensures.value at c.code.ensures ∙ get_or_default cells i None _ below)
    (c.place_at.ensures.value ∙ ap (place_in b) end))
