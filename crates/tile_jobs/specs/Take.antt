-- What `Seat::try_take` changes in a seat, by the outcome: a job, `Again` or `Empty`.
-- Public.
use Rattle.std.specs.Prelude.{◌≡◌, ℕ, ◌%◌, ◌<◌, ◌⊎◌, true, [], ◌∷◌, ◌++◌, length, All}
use Rattle.tile_jobs.specs.declared.seat.Take.{Take}
use Rattle.tile_jobs.specs.declared.seat.Take.TheVariants.{Job, Again, Empty}
use Rattle.tile_jobs.specs.Ends.{LostAmong, SeatState, HasAllMarks, of}

-- The condition for this outcome: `job`, `again` or `empty`.
abbrev pub MatchTake : Take → (ℕ → Type 0) → Type 0 → Type 0 → Type 0
MatchTake (Job j) job again empty = job j
MatchTake Again job again empty = again
MatchTake Empty job again empty = empty

-- The seat took job j, now the last of the seat's list. A job of another deque is taken only after
-- the end mark of the seat's own deque.
pub record TakesJob (s : SeatState) (j : ℕ) (t : SeatState) : Type 0 where
  pub below : j < s.own.jobs
  pub taken : t.taken ≡ s.taken ++ j ∷ []
  -- Job j is greater than each job of its deque that the seat took before.
  pub rises : All (λ x. x < j) (of (j % s.own.seats) s.own.seats s.taken)
  pub own_first : (j % s.own.seats ≡ s.number) ⊎ (t.own.marked ≡ true)

-- The seat took no job, since a steal at some other deque lost a race.
pub record LosesRace (s t : SeatState) : Type 0 where
  pub taken : t.taken ≡ s.taken
  pub own_first : t.own.marked ≡ true
  pub several : 1 < s.own.seats
  -- At some other deque a steal got no entry, and the seat saw more entries taken than before.
  pub others : LostAmong 0 (length s.others) s.others t.others

-- The seat took no job, and has its end marks of all deques.
pub record FindsNone (s t : SeatState) : Type 0 where
  pub taken : t.taken ≡ s.taken
  pub marks : HasAllMarks t
