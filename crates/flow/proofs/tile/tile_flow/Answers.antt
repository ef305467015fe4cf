use Rattle.std.proofs.Common.{◌≡◌, ℕ, List, length, ap, refl, ◌∙◌, arith}
use Rattle.flow.specs.Streams.{AreSums}
use Rattle.flow.specs.TileFlow.{Flow}
use Rattle.flow.specs.TileLinks.{links_by, weights_by}
use Rattle.flow.proofs.Counted.{weights_size}
use Rattle.flow.proofs.Piece.{lists_seen, streams, few, fits, sizes, counts_are, exits_kept}
use Rattle.flow.proofs.tile.tile_flow.Goals as goal

pub totals-requires-clause-streams : goal.totals-requires-clause-streams
totals-requires-clause-streams c =
    let s = lists_seen c.in_ok-exits.ensures c.requires c.bounds.ensures.lawful in
    rw c.links-links.ensures.links (streams s)

pub totals-requires-clause-few : goal.totals-requires-clause-few
totals-requires-clause-few c =
    let s = lists_seen c.in_ok-exits.ensures c.requires c.bounds.ensures.lawful in
    omega (arith, few, ap length c.links-links.ensures.links)

pub totals-requires-clause-same : goal.totals-requires-clause-same
totals-requires-clause-same c =
    let s = lists_seen c.in_ok-exits.ensures c.requires c.bounds.ensures.lawful in
    let weighed = c.in_ok-weights.ensures ∙ ap weights_by c.links-links.ensures.codes in
    cc (weights_size c.in_ok-exits.exits.codes, sizes s)

pub totals-requires-clause-fits : goal.totals-requires-clause-fits
totals-requires-clause-fits c =
    let s = lists_seen c.in_ok-exits.ensures c.requires c.bounds.ensures.lawful in
    rw c.links-links.ensures.links (rw (c.in_ok-weights.ensures ∙ ap weights_by c.links-links.ensures.codes) (fits s))

summed_by : (f : Flow) {links codes_weights totals : List ℕ} → links ≡ links_by f.bounds f.codes →
    codes_weights ≡ weights_by f.codes → AreSums links codes_weights totals →
    AreSums (links_by f.bounds f.codes) (weights_by f.codes) totals
summed_by f made weighed summed = rw weighed at (rw made at summed)

pub invariant_of-result : goal.invariant_of-result
invariant_of-result c =
    let s = lists_seen c.in_ok-exits.ensures c.requires c.bounds.ensures.lawful in
    let weighed = c.in_ok-weights.ensures ∙ ap weights_by c.links-links.ensures.codes in (
      c.in_ok-totals.ensures.size ∙ ap length c.links-links.ensures.links ∙ sizes s,
      summed_by c.in_ok-exits.exits c.links-links.ensures.links weighed c.in_ok-totals.ensures,
    )

pub returns : goal.returns
returns c =
    let v = c.args.codes.now in
    let f = c.in_ok-exits.exits in
    let totals = c.in_ok-totals.totals.items in
    let s = lists_seen c.in_ok-exits.ensures c.requires c.bounds.ensures.lawful in
    let weighed = c.in_ok-weights.ensures ∙ ap weights_by c.links-links.ensures.codes in
    record {
      exits = exits_kept _ c.in_ok-exits.ensures;
      counts = counts_are s (summed_by f c.links-links.ensures.links weighed c.in_ok-totals.ensures) _ refl refl;
    }
