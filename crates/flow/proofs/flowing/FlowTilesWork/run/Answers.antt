use Rattle.flow.proofs.flowing.FlowTilesWork.run.Goals as goal

pub tile_flow-requires : goal.tile_flow-requires
tile_flow-requires c = rw c.view-view.ensures c.args.self.now.flows.ends
