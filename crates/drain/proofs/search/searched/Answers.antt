use Rattle.std.proofs.lemmas.Option.{MatchOption-at_some}
use Rattle.drain.specs.Search.{same}
use Rattle.drain.proofs.search.searched.Goals as goal

pub returns-in-Some : goal.returns-in-Some
returns-in-Some c =
    rw c.deref.ensures.value at
    (MatchOption-at_some _ _ c.in-Some.lower c.in-Some.is c.in_ok-lower.ensures.lower).0

pub returns-in-None : goal.returns-in-None
returns-in-None c = same
