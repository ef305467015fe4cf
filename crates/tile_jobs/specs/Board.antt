-- The jobs that a board deals to each deque, and the end marks after them, one for each seat. Also,
-- for lists of jobs: how often a number occurs (`times`), and that a list rises.
-- Public.
use Rattle.std.specs.Prelude.{ℕ, zero, suc, ◌+◌, ◌%◌, ◌<◌, List, [], ◌∷◌, ◌++◌, map, replicate, cond, ◌==◌, AllPairs}
use Rattle.tile_jobs.specs.declared.deque.DequeEntry.{DequeEntry}
use Rattle.tile_jobs.specs.declared.deque.DequeEntry.TheVariants.{Job, End}

-- The jobs dealt to deque v, rising: the numbers below `jobs` whose remainder by `seats` is v.
abbrev pub deal : ℕ → ℕ → ℕ → List ℕ
deal zero seats v = []
deal (suc j) seats v = cond (j % seats == v) (deal j seats v ++ j ∷ []) (deal j seats v)

-- Jobs as entries of a deque.
abbrev pub jobs_in : List ℕ → List DequeEntry
jobs_in js = map Job js

-- All entries pushed to deque v: its jobs, then one end mark for each seat.
unfoldable pub feed : ℕ → ℕ → ℕ → List DequeEntry
feed jobs seats v = jobs_in (deal jobs seats v) ++ replicate seats End

-- The jobs among entries.
abbrev pub jobs_of : List DequeEntry → List ℕ
jobs_of [] = []
jobs_of (Job j ∷ es) = j ∷ jobs_of es
jobs_of (End ∷ es) = jobs_of es

-- The number of end marks among entries.
abbrev pub end_count : List DequeEntry → ℕ
end_count [] = 0
end_count (Job j ∷ es) = end_count es
end_count (End ∷ es) = suc (end_count es)

-- How often x occurs in a list.
abbrev pub times : ℕ → List ℕ → ℕ
times x [] = 0
times x (y ∷ ys) = cond (y == x) 1 0 + times x ys

-- Each number of the list is less than all numbers after it.
abbrev pub IsRising : List ℕ → Type 0
IsRising xs = AllPairs (λ x y. x < y) xs
