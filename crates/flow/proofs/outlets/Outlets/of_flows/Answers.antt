use Rattle.std.proofs.Common.{◌<◌, length, get_or, ap, ◌∙◌, arith}
use Rattle.std.proofs.lemmas.List.FromFn.{length-map-range_with_len}
use Rattle.flow.specs.RimGraph.{rim_outlets_by}
use Rattle.flow.proofs.Ending.{end-inside}
use Rattle.tiles.proofs.RimNumbered.{few_numbers}
use Rattle.flow.proofs.RimFlows.{links_size, rim_streams, outlets_are}
use Rattle.flow.proofs.outlets.Outlets.of_flows.Goals as goal

pub rim_outlets-requires-clause-targets : goal.rim_outlets-requires-clause-targets
rim_outlets-requires-clause-targets g c = cc

pub ends-requires-clause-streams : goal.ends-requires-clause-streams
ends-requires-clause-streams g c = rim_streams c.requires.flows.1 c.requires.links

pub ends-requires-clause-few : goal.ends-requires-clause-few
ends-requires-clause-few g c = omega (arith, links_size c.requires.flows.1 c.requires.links, few_numbers)

pub rim_outlets-requires-clause-size : goal.rim_outlets-requires-clause-size
rim_outlets-requires-clause-size g c =
    ap length c.deref-2.ensures.value ∙ c.in_ok-ends.ensures.size ∙ links_size c.requires.flows.1 c.requires.links

pub rim_outlets-requires-clause-inside : goal.rim_outlets-requires-clause-inside
rim_outlets-requires-clause-inside g c =
    let made = c.requires.links in
    let size = links_size c.requires.flows.1 made in
    λ i h. (let here : i < length c.args.rim_graph.now.links.items = omega arith in
    omega (
      arith,
      ap (λ l. get_or l i 0) c.deref-2.ensures.value,
      c.in_ok-ends.ensures.each i here,
      end-inside (rim_streams c.requires.flows.1 made) i here,
    ))

pub invariant_of-result : goal.invariant_of-result
invariant_of-result g c = ap length c.in_ok-outlets.ensures ∙ length-map-range_with_len _ 0 _

pub returns-clause-outlets : goal.returns-clause-outlets
returns-clause-outlets g c d f =
    outlets_are f c.requires.links c.in_ok-ends.ensures (c.in_ok-outlets.ensures ∙
    ap (rim_outlets_by c.args.tiling.now (g.F.ExitList.flows c.args.flows.now)) c.deref-2.ensures.value)
