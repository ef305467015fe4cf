use Rattle.request.proofs.words.map_of.Goals as goal

pub returns-in-view-clause-none : goal.returns-in-view-clause-none
returns-in-view-clause-none c = rw c.in-view.is c.view_of.ensures.none
