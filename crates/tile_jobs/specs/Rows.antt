-- While `Board::close` closes deque by deque, a row for each seat has the seat's ends (handles)
-- of the other seats' deques not closed yet.
-- To close a deque, `close` takes the first end off each row but that of the deque's owner.
-- Private.
use Rattle.std.specs.Prelude.{◌≡◌, ◌≢◌, ℕ, ◌+◌, ◌<◌, ◌==◌, true, cond, List, [], length, drop, slice_index_or}
use Rattle.std.specs.declared.alloc.Global.{Global}
use Rattle.std.specs.declared.vec.Vec.{Vec}
use Rattle.tile_jobs.specs.Board.{deal, times}
use Rattle.tile_jobs.specs.Sums.{sum_below}
use Rattle.tile_jobs.specs.Ends.{DequeId, EndState}

-- For each seat its stealing ends of the deques that are not closed yet.
abbrev pub Rows : Type 0
Rows = List (Vec EndState Global)

-- For each row s below n, except row v, P holds of s and the first end of the row.
abbrev pub EachHead : ℕ → ℕ → Rows → (ℕ → EndState → Type 0) → Type 0
EachHead n v rows P = (s : ℕ) (d : Vec EndState Global) (e : EndState) → s < n → s ≢ v →
    P s (slice_index_or (slice_index_or rows s d).items 0 e)

-- Each row below n, except that of seat v, begins with an end of deque `id`.
abbrev pub HaveHeads : ℕ → ℕ → Rows → DequeId → Type 0
HaveHeads n v rows id = (s : ℕ) (d : Vec EndState Global) (e : EndState) → s < n → s ≢ v →
    (0 < length (slice_index_or rows s d).items)
    × ((slice_index_or (slice_index_or rows s d).items 0 e).id ≡ id)

-- Each new row below n is the old one without its first end; only the row of seat v is unchanged.
abbrev pub WithoutHeads : ℕ → ℕ → Rows → Rows → Type 0
WithoutHeads n v rows new = (s : ℕ) (d : Vec EndState Global) → s < n →
    (slice_index_or new s d).items
    ≡ cond (s == v) (slice_index_or rows s d).items (drop 1 (slice_index_or rows s d).items)

-- `left` has the jobs left in the deque of seat v, whose own end is `own`.
pub record IsLeftOf (own : EndState) (n v : ℕ) (rows : Rows) (left : List ℕ) : Type 0 where
  -- The jobs left are those from some index of the deque's deal on, perhaps none.
  pub part : (k : ℕ) × (left ≡ drop k (deal own.jobs own.seats own.deque))
  -- No job is left if some seat has its end mark of this deque.
  pub own_mark : own.marked ≡ true → left ≡ []
  pub marks : EachHead n v rows (λ s e. e.marked ≡ true → left ≡ [])
  -- A number occurs in the lists of the deque's ends and in `left` together as often as among the
  -- jobs dealt to the deque.
  pub once : (y : ℕ) (f : ℕ → ℕ) → EachHead n v rows (λ s e. times y e.took ≡ f s) →
      times y own.took ≡ f v
      → sum_below f n + times y left ≡ times y (deal own.jobs own.seats own.deque)
