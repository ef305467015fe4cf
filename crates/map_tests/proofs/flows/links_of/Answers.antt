use Rattle.drainage.specs.Drained.{directed_of}
use Rattle.map_tests.proofs.flows.links_of.Goals as goal

pub join-requires : goal.join-requires
join-requires c = (directed_of c.args.ways.now, c.requires.ends, c.requires.flows)
