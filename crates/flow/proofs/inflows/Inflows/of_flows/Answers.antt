use Rattle.std.proofs.Common.{length, drop, sym, ap, ◌∙◌, arith}
use Rattle.std.proofs.lemmas.List.{take_at}
use Rattle.tile_jobs.specs.Sums.{sum_below}
use Rattle.tiles.specs.RimNumbers.{rim_number_count}
use Rattle.flow.specs.Inflows.{entering}
use Rattle.tiles.proofs.RimNumbered.{few_numbers}
use Rattle.flow.proofs.RimFlows.{links_size, rim_streams, target_listed, targets_size, targets_within}
use Rattle.flow.proofs.RimTotals.{weights_size, total_few}
use Rattle.flow.proofs.RimInflows.{entering_few, inflows_are}
use Rattle.flow.proofs.inflows.Inflows.of_flows.Goals as goal

pub totals-requires-clause-streams : goal.totals-requires-clause-streams
totals-requires-clause-streams c = rim_streams c.requires.flows.1 c.requires.links

pub totals-requires-clause-few : goal.totals-requires-clause-few
totals-requires-clause-few c = omega (arith, links_size c.requires.flows.1 c.requires.links, few_numbers)

pub totals-requires-clause-same : goal.totals-requires-clause-same
totals-requires-clause-same c =
    weights_size c.requires.flows.1 c.requires.flows.2 c.requires.links c.in_ok-weights.ensures ∙
    sym (links_size c.requires.flows.1 c.requires.links)

pub totals-requires-clause-fits : goal.totals-requires-clause-fits
totals-requires-clause-fits c i h =
    let made = c.requires.links in
    omega (
      arith,
      total_few c.requires.flows.1 c.requires.flows.2 made c.in_ok-weights.ensures i
          (omega (arith, links_size c.requires.flows.1 made)),
    )

pub send_all-requires-clause-targets : goal.send_all-requires-clause-targets
send_all-requires-clause-targets c = targets_size _ _ (c.deref-2.ensures.value ∙ c.requires.targets)

pub send_all-requires-clause-within : goal.send_all-requires-clause-within
send_all-requires-clause-within c i h =
    rw (target_listed _ _ (c.deref-2.ensures.value ∙ c.requires.targets) i h) (targets_within c.requires.flows.1 i)

pub send_all-requires-clause-totals : goal.send_all-requires-clause-totals
send_all-requires-clause-totals c =
    ap length c.deref-3.ensures.value ∙ c.in_ok-totals.ensures.size ∙ links_size c.requires.flows.1 c.requires.links

pub send_all-requires-clause-few : goal.send_all-requires-clause-few
send_all-requires-clause-few c k = omega (
  arith,
  entering_few c.requires.flows.1 c.requires.flows.2 (c.deref-2.ensures.value ∙ c.requires.targets) c.requires.links
      c.in_ok-weights.ensures c.in_ok-totals.ensures k,
  ap (λ l. sum_below (entering c.args.tiling.now c.deref-2.result.now l k) (rim_number_count c.args.tiling.now))
      c.deref-3.ensures.value,
)

pub send_all-requires-clause-none : goal.send_all-requires-clause-none
send_all-requires-clause-none c =
    rw c.deref_mut.ensures.value (rw c.rim_number_count.ensures.value at c.in_ok-listed.ensures)

pub returns-clause-inflows : goal.returns-clause-inflows
returns-clause-inflows c d f counts =
    let t = c.args.tiling.now in
    let targets = c.deref-2.result.now in
    let sent = c.send_all.new.listed in
    let all = take_at sent (drop (length sent) c.in_ok-listed.listed.items) c.in_ok-listed.listed.len
    (c.send_all.auto.listed ∙ c.deref_mut.ensures.len) in
    inflows_are f counts (c.deref-2.ensures.value ∙ c.requires.targets) c.requires.links c.in_ok-weights.ensures
    c.in_ok-totals.ensures (rw all (rw c.deref-3.ensures.value at c.send_all.ensures))
