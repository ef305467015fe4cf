use Rattle.std.proofs.Common.{◌≡◌, ℕ, ◌+◌, ◌<◌, List, length, get_or, ap, ◌∙◌, arith}
use Rattle.std.specs.Prelude.{slice_index}
use Rattle.std.proofs.lemmas.Result.{IfOk-weaker}
use Rattle.flow.specs.TileFlow.{Flow}
use Rattle.flow.specs.Streams.{AreSums, total}
use Rattle.flow.specs.TileLinks.{counts_by, links_by}
use Rattle.flow.specs.Counting.{AreCounts}
use Rattle.flow.proofs.counting.tile_counts.Goals as goal

pub inflow_weights-requires-clause-size : goal.inflow_weights-requires-clause-size
inflow_weights-requires-clause-size c = omega arith

pub totals_of_few-requires-clause-streams : goal.totals_of_few-requires-clause-streams
totals_of_few-requires-clause-streams c = rw c.links-links.ensures.links c.requires.countable.streams

pub totals_of_few-requires-clause-few : goal.totals_of_few-requires-clause-few
totals_of_few-requires-clause-few c = omega (arith, ap length c.links-links.ensures.links)

pub totals_of_few-requires-clause-same : goal.totals_of_few-requires-clause-same
totals_of_few-requires-clause-same c = omega (
  arith,
  c.in_ok-weights.ensures.size,
  ap length c.links-links.ensures.links,
)

pub totals_of_few-requires-clause-fits : goal.totals_of_few-requires-clause-fits
totals_of_few-requires-clause-fits c i h = omega (
  arith,
  c.requires.countable.totals_fit _ c.in_ok-weights.ensures i (omega (arith, ap length c.links-links.ensures.links)),
  ap (λ l. total l c.in_ok-weights.weights.items i) c.links-links.ensures.links,
)

pub counts-requires-clause-totals : goal.counts-requires-clause-totals
counts-requires-clause-totals c = omega (arith, ap length c.links-links.ensures.codes)

added_by : (f : Flow) {links weights added : List ℕ} → links ≡ links_by f.bounds f.codes → AreSums links weights added →
    AreSums (links_by f.bounds f.codes) weights added
added_by f {weights = weights} {added = added} made summed = rw made at summed

pub counts-requires-clause-added : goal.counts-requires-clause-added
counts-requires-clause-added c = omega (
  arith,
  (added_by c.args.flow.now c.links-links.ensures.links c.in_ok-added.ensures).size,
  ap length c.deref.ensures.value,
  ap length c.links-links.ensures.codes,
)

pub counts-requires-clause-fits : goal.counts-requires-clause-fits
counts-requires-clause-fits c i h =
    let below : i < length c.args.flow.now.codes = omega (arith, ap length c.links-links.ensures.codes) in
    let there : i < length (links_by c.args.flow.now.bounds c.args.flow.now.codes) = omega arith in
    omega (
      arith,
      c.totals-totals.ensures.each i there,
      (added_by c.args.flow.now c.links-links.ensures.links c.in_ok-added.ensures).each i there,
      c.requires.countable.totals_fit _ c.in_ok-weights.ensures i below,
      ap (λ l. get_or l i 0) c.deref.ensures.value,
    )

pub returns : goal.returns
returns c =
    IfOk-weaker _ (λ v. v.items ≡ counts_by c.links-links.result.now.codes (λ i. slice_index c.totals-totals.result.now
    i + slice_index c.deref.result.now i)) (λ v. AreCounts c.args.inflows.now c.args.tile c.args.flow.now v.items)
    (λ v e. record {
      weights = c.in_ok-weights.weights.items;
      totals = c.totals-totals.result.now;
      added = c.in_ok-added.added.items;
      weighed = c.in_ok-weights.ensures;
      counted = c.totals-totals.ensures;
      summed = added_by c.args.flow.now c.links-links.ensures.links c.in_ok-added.ensures;
      made = e ∙
          ap (λ x. counts_by x (λ i. slice_index c.totals-totals.result.now i + slice_index c.deref.result.now i))
          c.links-links.ensures.codes ∙
          ap (λ l. counts_by c.args.flow.now.codes (λ i. slice_index c.totals-totals.result.now i + slice_index l i))
          c.deref.ensures.value;
    }) c.counts.ensures
