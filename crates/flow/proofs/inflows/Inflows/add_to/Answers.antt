use Rattle.std.proofs.Common.{◌+◌, ◌^◌, ◌<◌, get_or, ap, subst, sym, ◌∙◌}
use Rattle.terrain.specs.declared.place.Place.{Place}
use Rattle.tiles.specs.Cutting.{IsInBounds, bounds_of, index_in}
use Rattle.flow.specs.Inflows.{listed_inflow}
use Rattle.flow.proofs.inflows.Inflows.add_to.Goals as goal

pub add_all-requires-clause-fits : goal.add_all-requires-clause-fits
add_all-requires-clause-fits c =
    subst (λ i. (p : Place) → IsInBounds (bounds_of i.cutting c.args.tile) p →
    get_or c.args.weights.now (index_in (bounds_of i.cutting c.args.tile) p) 0 + listed_inflow i p < 2 ^ 32)
    (sym c.self.view_is ∙ ap (λ l. record { cutting = c.self.inside.tiling; listed = l }) (sym c.deref.ensures.value))
    c.requires.fits

pub returns-clause-each : goal.returns-clause-each
returns-clause-each c =
    rw (← ap (λ l. record { cutting = c.self.inside.tiling; listed = l }) c.deref.ensures.value ∙ c.self.view_is)
    c.add_all.ensures.each
