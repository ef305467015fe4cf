use Rattle.std.proofs.Common.{◌≡◌, ℤ, Option, None, unwrap_or, sym, ap, subst, ◌∙◌}
use Rattle.std.specs.Prelude.{IfSome}
use Rattle.terrain.specs.Neighbours.{height_at}
use Rattle.terrain.specs.Sinks.{with_sinks}
use Rattle.terrain.specs.declared.place.Place.{Place}
use Rattle.tiles.specs.Cutting.{IsInBounds, bounds_of, terrain_of}
use Rattle.std.proofs.lemmas.Option.{same_Some}
use Rattle.cell_floods.specs.TileFlood.{IsEndHeight}
use Rattle.cell_floods.proofs.EndCells.{near_shown, touches_itself, end_found, end_missed, no_data_ends}
use Rattle.cell_floods.proofs.ends.end_height.Goals as goal

pub returns-in_default-at-clause-some : goal.returns-in_default-at-clause-some
returns-in_default-at-clause-some c named p sinks e =
    let v = c.args.view.now in
    let t = with_sinks (terrain_of v) named in
    let inside = subst (λ (o : Option Place).
    IfSome o (IsInBounds (bounds_of v.cutting v.tile))) c.in-Some.is c.requires in
    let none : height_at t c.in-Some.place ≡ None =
    near_shown v c.in-Some.place c.in-Some.place inside (touches_itself c.in-Some.place)
    ∙ ap (λ (o : Option (Option ℤ)). unwrap_or o None) (sym c.in_default-at.ensures) in
    subst (λ (q : Place). IsEndHeight t q c.no_data-in_default-at.result)
    (same_Some c.in-Some.place p (sym c.in-Some.is ∙ e))
    (subst (IsEndHeight t c.in-Some.place) (sym c.no_data-in_default-at.ensures)
    (no_data_ends t c.in-Some.place none))

pub returns-then-is_end-clause-some : goal.returns-then-is_end-clause-some
returns-then-is_end-clause-some c named p sinks e =
    let v = c.args.view.now in
    let t = with_sinks (terrain_of v) named in
    let inside = subst (λ (o : Option Place).
    IfSome o (IsInBounds (bounds_of v.cutting v.tile))) c.in-Some.is c.requires in
    let is : height_at t c.in-Some.place ≡ c.in-Some-at.cell.now =
    near_shown v c.in-Some.place c.in-Some.place inside (touches_itself c.in-Some.place)
    ∙ ap (λ (o : Option (Option ℤ)). unwrap_or o None) (sym c.in-Some-at.ensures) in
    subst (λ (q : Place). IsEndHeight t q c.in-Some-at.cell.now)
    (same_Some c.in-Some.place p (sym c.in-Some.is ∙ e))
    (end_found t c.in-Some.place c.is_end.result c.in-Some-at.cell.now is
    (c.is_end.ensures named sinks).0 c.if-is_end.true)

pub returns-else-is_end-clause-some : goal.returns-else-is_end-clause-some
returns-else-is_end-clause-some c named p sinks e =
    let t = with_sinks (terrain_of c.args.view.now) named in
    let none = end_missed t c.in-Some.place c.is_end.result
    (c.is_end.ensures named sinks).1 c.if-is_end.false in
    subst (λ (q : Place). IsEndHeight t q c.no_data-else-is_end.result)
    (same_Some c.in-Some.place p (sym c.in-Some.is ∙ e))
    (subst (IsEndHeight t c.in-Some.place) (sym c.no_data-else-is_end.ensures) none)
