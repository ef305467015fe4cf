use Rattle.std.proofs.Common.{sym, subst}
use Rattle.terrain.specs.Raster.{Raster}
use Rattle.drain.specs.Steps.{AreSteps}
use Rattle.drainage.specs.Drained.{Drained, IsDraining, AllFlowEnds, directed_of}
use Rattle.drain.proofs.TileLists.{coded_whole}
use Rattle.drain.proofs.DrainedLemmas.{are_draining}
use Rattle.drainage.proofs.Ends.{falling_ends}
use Rattle.drain.proofs.draining.directions.Goals as goal

pub put_back-requires : goal.put_back-requires
put_back-requires g c =
    let coded = c.in_ok-steps.ensures.counted.1 in
    rw c.deref.ensures.value (record { count = coded.size; each = λ tile list at. (coded.each tile list at).size })

pub new-requires : goal.new-requires
new-requires g c =
    let t = c.args.filled.now.terrain in
    let made = c.in_ok-steps in
    let steps = c.of-reported.result.value.items in
    let stepped = subst (λ v. AreSteps t v.items) (sym c.of-reported.ensures) made.ensures.counted.0 in
    let codes = c.in-Ok.codes.items in
    let all = coded_whole made.field-0.codes c.requires made.ensures.lawful.1
    made.ensures.counted.1 (rw c.deref.ensures.value at c.in-Ok.ensures) in
    rw c.grid.ensures.value (are_draining t steps codes stepped all)

pub returns-in-Ok-clause-codes : goal.returns-in-Ok-clause-codes
returns-in-Ok-clause-codes g c =
    let t = c.args.filled.now.terrain in
    let made = c.in_ok-steps in
    let all = coded_whole made.field-0.codes c.requires
    made.ensures.lawful.1 made.ensures.counted.1 (rw c.deref.ensures.value at c.in-Ok.ensures) in
    rw c.new.ensures all

pub returns-in-Ok-clause-ends : goal.returns-in-Ok-clause-ends
returns-in-Ok-clause-ends g c =
    let t = c.args.filled.now.terrain in
    let made = c.in_ok-steps in
    let steps = c.of-reported.result.value.items in
    let stepped = subst (λ v. AreSteps t v.items) (sym c.of-reported.ensures) made.ensures.counted.0 in
    let codes = c.in-Ok.codes.items in
    let all = coded_whole made.field-0.codes c.requires made.ensures.lawful.1
    made.ensures.counted.1 (rw c.deref.ensures.value at c.in-Ok.ensures) in
    let d : Drained = record { terrain = c.grid.result.now.terrain; steps = steps; codes = codes } in
    let draining = subst (λ (x : Raster). IsDraining (record { terrain = x.terrain; steps = steps; codes = codes }))
    (sym c.grid.ensures.value) (are_draining t steps codes stepped all) in
    subst (λ (x : Drained). AllFlowEnds (directed_of x)) (sym c.new.ensures) (falling_ends d draining)
