-- A worker has a result of each job that its seat took.
use Rattle.std.proofs.Common.{◌≡◌, ℕ, ◌+◌, ◌<◌, Result, Ok, Err, sym, subst, ◌==◌, cond, Bool, true, false, List, [], ◌∷◌, ◌++◌, get_or, refl, ◌∙◌, arith}
use Rattle.tile_jobs.specs.declared.slots.JobResult.{JobResult}
use Rattle.tile_jobs.specs.Results.{HasResult}
use Rattle.tile_jobs.proofs.Results.{answered_more, answered_last}
use Rattle.std.specs.Prelude.{IsOkAnd}
use Rattle.tile_jobs.specs.declared.JobFault.{JobFault}
use Rattle.tile_jobs.specs.declared.worker.WorkerResult.{WorkerResult}
use Rattle.tile_jobs.specs.Workers.{IsOutcome}
use Rattle.tile_jobs.specs.Board.{times}
use Rattle.tile_jobs.specs.Ends.{SeatState, SameSeat, HasAllMarks}
use Rattle.tile_jobs.proofs.Entries.{times_append}
use Rattle.tile_jobs.proofs.Seats.{same_trans}

pub seat_trans : (a b c : SeatState) → SameSeat a b → SameSeat b c → SameSeat a c
seat_trans a b c x y = (
  y.0 ∙ x.0,
  same_trans a.own b.own c.own x.1 y.1,
  y.2 ∙ x.2,
  λ k d low. same_trans (get_or a.others k d) (get_or b.others k d) (get_or c.others k d) (x.3 k d low)
      (y.3 k d (omega arith)),
)

module _ {O : Type 0} where
  whole_at : (b : Bool) (j job : ℕ) (taken : List ℕ) (list : List (JobResult O)) (a : JobResult O) → (job == j) ≡ b →
      a.job ≡ job → (0 < times j taken → HasResult list j) → 0 < times j taken + (cond b 1 0 + 0) →
      HasResult (list ++ a ∷ []) j
  whole_at true j job taken list a is e old n = answered_last list a j (e ∙ grind arith)
  whole_at false j job taken list a is e old n = answered_more list _ j (old (omega arith))

  pub whole_more : (j job : ℕ) (taken : List ℕ) (list : List (JobResult O)) (a : JobResult O) → a.job ≡ job →
      (0 < times j taken → HasResult list j) → 0 < times j (taken ++ job ∷ []) → HasResult (list ++ a ∷ []) j
  whole_more j job taken list a e old n = let s = times_append j taken (job ∷ []) in
      whole_at (job == j) j job taken list a refl e old (omega arith)

  pub back_same : (gives : ℕ → O → Type 0) (s t : SeatState) (result : Result (WorkerResult O) JobFault) →
      IsOutcome gives s result → IsOkAnd result (λ output. t ≡ output.seat) → SameSeat s t × HasAllMarks t
  back_same gives s t (Ok output) out e = (rw (← e) at out.0.same, subst HasAllMarks (sym e) out.0.empty)
  back_same gives s t (Err f) out e = absurd e
