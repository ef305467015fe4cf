-- How steals change a seat's ends (handles of deques), by their outcome: a job was taken, a steal
-- lost a race, or the seat has its end mark of each deque tried. A deque's end marks come after its
-- jobs, one for each seat (`feed` of `Board`).
-- Private.
use Rattle.std.specs.Prelude.{ℕ, List}
use Rattle.tile_jobs.specs.declared.ends.RoundOutcome.{RoundOutcome}
use Rattle.tile_jobs.specs.declared.ends.RoundOutcome.TheVariants.{Job, LostRace, Nothing}
use Rattle.tile_jobs.specs.Ends.{EndState, TookAmong, LostAmong, MarksAmong}

-- How steals at the ends `from..to` change all ends, by the outcome of the steals. For a job the
-- definition does not say that its end is one of `from..to`.
abbrev pub StealsAmong : ℕ → ℕ → List EndState → List EndState → RoundOutcome → Type 0
StealsAmong from to es fs (Job j) = TookAmong es j fs
StealsAmong from to es fs LostRace = LostAmong from to es fs
StealsAmong from to es fs Nothing = MarksAmong from to es fs
