-- A worker begins at a new seat. It returns its seat and a result of each job taken, or a fault.
-- Private.
use Rattle.std.specs.Prelude.{◌≡◌, ℕ, ◌<◌, ◌≤◌, List, Result, IfOk, IfErr, length, slice_index_or}
use Rattle.tile_jobs.specs.declared.JobFault.{JobFault}
use Rattle.tile_jobs.specs.declared.JobFault.TheVariants.{Memory}
use Rattle.tile_jobs.specs.declared.worker.WorkerResult.{WorkerResult}
use Rattle.tile_jobs.specs.Results.{AreJobResults, HasResult}
use Rattle.tile_jobs.specs.Board.{times}
use Rattle.tile_jobs.specs.Ends.{SeatState, SameSeat, HasAllMarks, IsNew}

module _ {O : Type 0} where
  -- The worker took jobs until its seat had an end mark of each deque. `output` has a result of
  -- each job taken, and each result is one that its job may return, by `gives`.
  pub record IsWorked (gives : ℕ → O → Type 0) (seat : SeatState)
      (output : WorkerResult O) : Type 0 where
    pub same : SameSeat seat output.seat
    pub empty : HasAllMarks output.seat
    pub right : AreJobResults gives seat.own.jobs output.answers.items
    pub whole : (j : ℕ) → 0 < times j output.seat.taken → HasResult output.answers.items j

  -- A worker's outcome: its seat and the results of all jobs taken (`IsWorked`), or the fault
  -- `Memory`.
  abbrev pub IsOutcome : (ℕ → O → Type 0) → SeatState → Result (WorkerResult O) JobFault → Type 0
  IsOutcome gives seat result = IfOk result (IsWorked gives seat) × IfErr result (λ e. e ≡ Memory)

  -- The results are the outcomes of the seats' workers, in the order of the seats.
  pub record AreOutcomes (gives : ℕ → O → Type 0) (seats : List SeatState)
      (results : List (Result (WorkerResult O) JobFault)) : Type 0 where
    pub count : length results ≡ length seats
    pub each : (s : ℕ) (d : SeatState) (r : Result (WorkerResult O) JobFault) → s < length seats →
        IsOutcome gives (slice_index_or seats s d) (slice_index_or results s r)

-- The seats took nothing, and their board has at most `most` jobs.
abbrev pub AreNew : ℕ → List SeatState → Type 0
AreNew most seats = (s : ℕ) (d : SeatState) → s < length seats →
    ((slice_index_or seats s d).own.jobs ≤ most) × IsNew (slice_index_or seats s d)
