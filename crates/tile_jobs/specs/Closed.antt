-- What `Board::close` promises if it succeeds: each job of the board is once in the list of a seat
-- that took it, or once among the jobs left.
-- Public.
use Rattle.std.specs.Prelude.{◌≡◌, ℕ, ◌+◌, ◌%◌, ◌<◌, ◌≤◌, true, List, [], length, drop, get_or}
use Rattle.std.specs.List.{concat}
use Rattle.tile_jobs.specs.Board.{deal, times}
use Rattle.tile_jobs.specs.Sums.{sum_below}
use Rattle.tile_jobs.specs.Ends.{SeatState, HasAllMarks}

-- `left` has jobs of deques 0 to n - 1, in the order of the deques. Of each deque it has the jobs
-- of the deque's deal from some index on, perhaps none.
abbrev pub ArePartsOf : ℕ → ℕ → ℕ → List ℕ → Type 0
ArePartsOf jobs seats n left = (parts : List (List ℕ)) × (length parts ≡ n) × (left ≡ concat parts)
    × ((v : ℕ) → v < n → (k : ℕ) × (get_or parts v [] ≡ drop k (deal jobs seats v)))

-- How often y occurs in all seats' lists of jobs taken.
abbrev pub in_seats : ℕ → ℕ → List SeatState → SeatState → ℕ
in_seats y seats ss d = sum_below (λ s. times y (get_or ss s d).taken) seats

-- `left` has exactly the jobs below `jobs` that no seat took.
pub record IsClosed (jobs seats : ℕ) (ss : List SeatState) (left : List ℕ) : Type 0 where
  -- `left` has, deque by deque, the jobs from some index of the deque's deal on, perhaps none.
  pub parts : ArePartsOf jobs seats seats left
  -- Each job below `jobs` occurs once, in one seat's list or in `left`. No other number occurs.
  pub once : (j : ℕ) (d : SeatState) → j < jobs → in_seats j seats ss d + times j left ≡ 1
  pub none_else : (j : ℕ) (d : SeatState) → jobs ≤ j → in_seats j seats ss d + times j left ≡ 0
  -- End marks follow a deque's jobs, one for each seat. No job is left if some seat took its end
  -- marks of all deques.
  pub empty : (s : ℕ) (d : SeatState) → s < seats → HasAllMarks (get_or ss s d) → left ≡ []
  -- No job of a deque is left if its owner took an end mark there.
  pub own_empty : (s : ℕ) (d : SeatState) → s < seats → (get_or ss s d).own.marked ≡ true →
      (j : ℕ) → j % seats ≡ s → times j left ≡ 0
