use Rattle.std.proofs.Common.{◌+◌, ◌^◌, ◌<◌, get_or, set, Option, sym, ap, ◌∙◌, arith, rules}
use Rattle.terrain.specs.declared.place.Place.{Place}
use Rattle.tiles.specs.Cutting.{index_in}
use Rattle.flow.specs.Inflows.{adds_at}
use Rattle.flow.proofs.RimAdded.{added, own_adds}
use Rattle.flow.proofs.inflows.add_at.Goals as goal

pub overflow_add-weights : goal.overflow_add-weights
overflow_add-weights c =
    let inside = rw c.in-Some.is at c.requires.inside in
    let fits : get_or c.args.weights.now c.index_of.result 0 + c.args.amount < 2 ^ 32 = omega (
      arith,
      c.requires.fits _ inside,
      ap (λ o. adds_at o c.args.amount c.in-Some.place) c.in-Some.is,
      own_adds,
      ap (λ n. get_or c.args.weights.now n 0) c.index_of.ensures.value,
    ) in
    search rules

pub returns-in-Some-clause-each : goal.returns-in-Some-clause-each
returns-in-Some-clause-each c p i =
    let inside = rw c.in-Some.is at c.requires.inside in
    ap (λ n. get_or (set c.args.weights.now n (get_or c.args.weights.now n 0 + c.args.amount))
    (index_in c.args.bounds p) 0) c.index_of.ensures.value ∙ added c.args.bounds c.args.weights.now c.in-Some.place
    c.args.amount c.requires.size inside p i ∙
    ap (λ (o : Option Place). get_or c.args.weights.now (index_in c.args.bounds p) 0 + adds_at o c.args.amount p)
    (sym c.in-Some.is)
