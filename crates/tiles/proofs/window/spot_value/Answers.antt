use Rattle.std.proofs.Common.{◌∙◌, Option, sym, subst}
use Rattle.std.specs.Prelude.{MatchOption}
use Rattle.terrain.specs.declared.place.Place.{Place}
use Rattle.tiles.specs.Windows.{IsOff, Shows}
use Rattle.tiles.proofs.Spots.{seen_at}
use Rattle.tiles.proofs.window.spot_value.Goals as goal

pub returns-in-Some : goal.returns-in-Some
returns-in-Some g c =
    let shows = subst (λ (o : Option Place). MatchOption o (IsOff c.args.bounds c.args.spot)
    (λ p. Shows c.args.bounds c.args.spot p)) c.in-Some.is c.place_shown.ensures in
    seen_at c.args.view.now c.args.none c.args.seen c.args.bounds c.args.spot c.in-Some.place
    c.copied.result c.unwrap_or.result c.requires.bounds c.requires.seen c.requires.spot shows
    (sym c.contains.ensures ∙ c.if-contains.true) (c.copied.ensures ∙ c.at.ensures)
    c.unwrap_or.ensures
