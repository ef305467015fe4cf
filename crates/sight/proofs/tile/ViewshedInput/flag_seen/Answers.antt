use Rattle.sight.proofs.FlagLists.{left_seen}
use Rattle.sight.proofs.tile.ViewshedInput.flag_seen.Goals as goal

pub returns-in-Ok : goal.returns-in-Ok
returns-in-Ok c = left_seen _ c.args.self.now.grid.now.terrain _ _ _ _ _ c.set_flags-2.ensures c.in-Ok.ensures
