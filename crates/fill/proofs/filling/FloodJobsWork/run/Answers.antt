use Rattle.fill.proofs.Raised.{flood_of_view, meetings_of_view}
use Rattle.fill.proofs.filling.FloodJobsWork.run.Goals as goal

pub returns-clause-given : goal.returns-clause-given
returns-clause-given c = (
  flood_of_view _ _ _ _ _ _ _ c.args.self.now.cuts c.view-view.ensures c.cells.ensures.value c.sinks.ensures.value
      c.in-Ok.ensures.flood,
  meetings_of_view _ _ c.args.job c.args.self.now.cuts c.view-view.ensures c.cells.ensures.value c.sinks.ensures.value _
      _ c.in-Ok.ensures.meetings,
)
