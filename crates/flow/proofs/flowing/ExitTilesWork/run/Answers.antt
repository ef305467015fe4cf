use Rattle.flow.proofs.flowing.ExitTilesWork.run.Goals as goal

pub tile_exits-requires : goal.tile_exits-requires
tile_exits-requires c = rw c.view-view.ensures c.args.self.now.flows.ends
