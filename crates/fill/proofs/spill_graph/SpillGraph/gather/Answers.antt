use Rattle.std.proofs.Common.{length, ap, sym, ◌∙◌}
use Rattle.std.proofs.lemmas.List.{length-map}
use Rattle.fill.proofs.Gathered.{joins_below, is_graph, is_graph_of}
use Rattle.fill.proofs.Numbered.{fit_of}
use Rattle.fill.proofs.spill_graph.SpillGraph.gather.Goals as goal

pub invariant_of-tiles : goal.invariant_of-tiles
invariant_of-tiles c = record { fit = fit_of c.requires.1; numbers = rw c.deref.ensures.value c.in_ok-firsts.ensures }

pub placed_joins-requires : goal.placed_joins-requires
placed_joins-requires c =
    let t = c.requires.0 in
    let k = c.args.tiling.now in
    let floods = c.args.floods.now in
    let gathered = c.in_ok-gathered.ensures in
    rw (c.deref-2.ensures.value, c.deref-3.ensures.value, ← (sym (ap length c.in_ok-nodes.ensures ∙ length-map _ _)))
    (joins_below t k floods c.requires.1 c.in_ok-firsts.ensures.lawful _ gathered)

pub invariant_of-result : goal.invariant_of-result
invariant_of-result c =
    let t = c.requires.0 in
    let k = c.args.tiling.now in
    let floods = c.args.floods.now in (
      c.requires.1.lawful,
      is_graph t k floods c.requires.1 c.in_ok-firsts.ensures.lawful c.in_ok-nodes.nodes.items _ _
          c.in_ok-joins.joins.items c.in_ok-gathered.ensures c.in_ok-nodes.ensures
          (rw (c.deref-2.ensures.value, c.deref-3.ensures.value) at c.in_ok-placed.ensures) c.in_ok-joins.ensures
          c.in_ok-sources.sources.items c.in_ok-sources.ensures.size,
    )

pub returns : goal.returns
returns c t are =
    let k = c.args.tiling.now in
    let floods = c.args.floods.now in
    is_graph_of t k floods are c.in_ok-firsts.ensures.lawful c.in_ok-nodes.nodes.items _ _ c.in_ok-joins.joins.items
    c.in_ok-gathered.ensures c.in_ok-nodes.ensures
    (rw (c.deref-2.ensures.value, c.deref-3.ensures.value) at c.in_ok-placed.ensures) c.in_ok-joins.ensures
    (c.in_ok-sources.ensures.right t are)
