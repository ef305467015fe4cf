use Rattle.flow.proofs.Linked.{flows_from, counts_from, links_are}
use Rattle.flow.proofs.links.RimLinks.join.Goals as goal

pub of-requires : goal.of-requires
of-requires c = (c.requires.0, flows_from c.cols.ensures.lawful c.requires.1 c.requires.2)

pub of_flows-requires-clause-flows : goal.of_flows-requires-clause-flows
of_flows-requires-clause-flows c = (
  c.requires.0,
  flows_from c.cols.ensures.lawful c.requires.1 c.requires.2,
  counts_from c.requires.2,
)

pub of_flows-requires-2-clause-flows : goal.of_flows-requires-2-clause-flows
of_flows-requires-2-clause-flows c = (c.requires.0, flows_from c.cols.ensures.lawful c.requires.1 c.requires.2)

pub returns-clause-links : goal.returns-clause-links
returns-clause-links c d ends of_tiles =
    let s = flows_from c.cols.ensures.lawful ends of_tiles in
    links_are s c.in_ok-inflows.ensures.cutting c.in_ok-outlets.ensures.cutting (c.in_ok-inflows.ensures.inflows d s
    (counts_from of_tiles)) (c.in_ok-outlets.ensures.outlets d s)
