use Rattle.fill.proofs.Raised.{filled_tile}
use Rattle.fill.proofs.raising.raise.Goals as goal

pub returns-clause-filled : goal.returns-clause-filled
returns-clause-filled c t floods tile are there least = filled_tile are tile _ there least c.in_ok-raised_by.ensures
