-- Picks a condition by the outcome of one steal: a job, the seat's end mark, or a lost race.
-- Private.
use Rattle.std.specs.Prelude.{ℕ}
use Rattle.tile_jobs.specs.declared.ends.StealOutcome.{StealOutcome}
use Rattle.tile_jobs.specs.declared.ends.StealOutcome.TheVariants.{Job, Mark, Missed}

-- The condition for this outcome: `job`, `mark` or `missed`.
abbrev pub MatchSteal : StealOutcome → Type 0 → Type 0 → (ℕ → Type 0) → Type 0
MatchSteal (Job j) mark missed job = job j
MatchSteal Mark mark missed job = mark
MatchSteal Missed mark missed job = missed
