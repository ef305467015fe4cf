use Rattle.std.proofs.Common.{Some, refl, sym, subst}
use Rattle.drainage.specs.Drained.{directed_of}
use Rattle.request.specs.declared.map.DrainageMap.{DrainageMap}
use Rattle.relief.specs.MadeMap.{HasCounts}
use Rattle.relief.proofs.several.make_counts.Goals as goal

pub returns-in_ok-counts-in-Accumulate-clause-made :
    goal.returns-in_ok-counts-in-Accumulate-clause-made
returns-in_ok-counts-in-Accumulate-clause-made g c requested =
    let counts = c.in_ok-counts-in-Accumulate.counts in
    subst (λ (m : DrainageMap). HasCounts (directed_of c.args.directions.now) c.args.gauges.now m
    (Some counts)) (sym c.in-Accumulate.is)
    (counts, refl, c.in_ok-counts-in-Accumulate.ensures.values)

pub returns-in_ok-numbers-in-Basins-clause-made : goal.returns-in_ok-numbers-in-Basins-clause-made
returns-in_ok-numbers-in-Basins-clause-made g c requested =
    let numbers = c.in_ok-numbers-in-Basins.numbers in
    subst (λ (m : DrainageMap). HasCounts (directed_of c.args.directions.now) c.args.gauges.now m
    (Some numbers)) (sym c.in-Basins.is)
    (numbers, refl, c.in_ok-numbers-in-Basins.ensures.values)

pub returns-in_ok-numbers-in-Catchments-clause-made :
    goal.returns-in_ok-numbers-in-Catchments-clause-made
returns-in_ok-numbers-in-Catchments-clause-made g c requested =
    let numbers = c.in_ok-numbers-in-Catchments.numbers in
    subst (λ (m : DrainageMap). HasCounts (directed_of c.args.directions.now) c.args.gauges.now m
    (Some numbers)) (sym c.in-Catchments.is)
    (numbers, refl, c.in_ok-numbers-in-Catchments.ensures.values)
