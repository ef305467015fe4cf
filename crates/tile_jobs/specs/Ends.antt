-- The states of seats, of their ends (handles of deques), of dealers and of deques being closed,
-- and how calls change these states. A dealer fills one deque and makes its ends. A pass is a right
-- to act on a deque. Its view, a `Log`, records the pushes and takes made by it (see Rule).
-- Public.
use Rattle.std.specs.Prelude.{◌≡◌, ◌≢◌, ℕ, zero, suc, ◌%◌, ◌<◌, ◌≤◌, ◌⊎◌, Bool, true, false, cond, nat_lt, ◌==◌, List, [], ◌∷◌, ◌++◌, length, get_or, drop, All}
use Rattle.std.specs.List.{concat}
use Rattle.std.specs.declared.alloc.Global.{Global}
use Rattle.atomic_blocks.specs.Lent.{RowsId}
use Rattle.tile_jobs.specs.declared.deque.Log.{Log}
use Rattle.tile_jobs.specs.Board.{deal, feed}
use Rattle.tile_jobs.specs.Rule.{share}

-- The identity of a deque: its memory and its allocator.
abbrev pub DequeId : Type 0
DequeId = RowsId × Global

-- One seat's end (handle) of one deque. `jobs` and `seats` say how many jobs and seats the board
-- has; `deque` is the deque's number. `took` has the jobs that the seat took there; `marked` says
-- whether the seat took its end mark. `seen` counts the entries that the seat saw taken from the
-- deque; it is 0 in the view of the owner, and of a seat that has not tried to steal there.
pub record EndState : Type 0 where
  pub id : DequeId
  pub jobs : ℕ
  pub seats : ℕ
  pub deque : ℕ
  pub took : List ℕ
  pub marked : Bool
  pub seen : ℕ

-- The end of deque `id` with this `marked` and `seen`; all else is as in the view u.
abbrev pub end_from : DequeId → Bool → ℕ → Log → EndState
end_from id marked seen u = record {
  id = id;
  jobs = u.jobs;
  seats = u.seats;
  deque = u.deque;
  took = u.took;
  marked = marked;
  seen = seen;
}

-- A seat's view between two calls: the seat took its end mark if `marked` is true; otherwise it may
-- still take one.
abbrev pub IsSeated : Bool → Log → Type 0
IsSeated marked u = (u.gathered ≡ []) × (u.marks_due ≡ cond marked 0 1)
    × (u.marks ≡ cond marked 1 0) × (length u.took ≤ length (deal u.jobs u.seats u.deque))

-- The owner's view between two calls: all entries were pushed.
abbrev pub IsOwn : Bool → Log → Type 0
IsOwn marked u =
    IsSeated marked u × (u.owns ≡ true) × (u.pushed ≡ length (feed u.jobs u.seats u.deque))

-- A stealing seat's view between two calls: its pass was split off after all entries were pushed.
abbrev pub IsOther : Bool → Log → Type 0
IsOther marked u = IsSeated marked u × (u.ready ≡ true)

-- Both ends are of one deque: `id`, the deque's number, and the board's numbers are equal.
abbrev pub SameEnd : EndState → EndState → Type 0
SameEnd e f = (f.id ≡ e.id) × (f.jobs ≡ e.jobs) × (f.seats ≡ e.seats) × (f.deque ≡ e.deque)

-- From e to f no job was taken at this end, and e's mark stays. If f has no mark, `seen` did not
-- fall.
abbrev pub Kept : EndState → EndState → Type 0
Kept e f = SameEnd e f × (f.took ≡ e.took) × (e.marked ≡ true → f.marked ≡ true)
    × (f.marked ≡ false → e.seen ≤ f.seen)

-- Job j of the deque was taken at this end, and is the last of the end's list.
pub record TookJob (e : EndState) (j : ℕ) (f : EndState) : Type 0 where
  pub same : SameEnd e f
  pub unmarked : e.marked ≡ false
  pub took : f.took ≡ e.took ++ j ∷ []
  -- Job j is greater than all jobs before it in the list.
  pub rises : All (λ x. x < j) e.took
  pub below : j < e.jobs
  pub of_deque : j % e.seats ≡ e.deque
  pub fits : length f.took ≤ length (deal e.jobs e.seats e.deque)

-- A steal at this end lost a race. The end has no mark; `seen` rose, and nothing else changed.
abbrev pub LostSteal : EndState → EndState → Type 0
LostSteal e f = (f ≡ record e { seen = f.seen }) × (e.seen < f.seen) × (e.marked ≡ false)

-- Each end is `Kept`: no job was taken at any of them, and their marks stay.
abbrev pub AllKept : List EndState → List EndState → Type 0
AllKept es fs = (i : ℕ) (d : EndState) → i < length es → Kept (get_or es i d) (get_or fs i d)

-- Job j was taken at one of the ends, and no job at the others.
abbrev pub TookAmong : List EndState → ℕ → List EndState → Type 0
TookAmong es j fs = (k : ℕ) × (k < length es)
    × ((d : EndState) → TookJob (get_or es k d) j (get_or fs k d))
    × ((i : ℕ) (d : EndState) → i ≢ k → i < length es → Kept (get_or es i d) (get_or fs i d))

-- No job was taken, and a steal lost a race at one of the ends `from..to`.
pub record LostAmong (from to : ℕ) (es fs : List EndState) : Type 0 where
  pub kept : AllKept es fs
  pub lost : (k : ℕ) × (from ≤ k) × (k < to)
      × ((d : EndState) → LostSteal (get_or es k d) (get_or fs k d))

-- No job was taken, and the ends `from..to` have their end marks.
pub record MarksAmong (from to : ℕ) (es fs : List EndState) : Type 0 where
  pub kept : AllKept es fs
  pub marks : (k : ℕ) (d : EndState) → from ≤ k → k < to → (get_or fs k d).marked ≡ true

-- The ends before `from` and those from `to` on are unchanged.
abbrev pub SameElsewhere : ℕ → ℕ → List EndState → List EndState → Type 0
SameElsewhere from to es fs =
    (k : ℕ) (d : EndState) → (k < from) ⊎ (to ≤ k) → get_or fs k d ≡ get_or es k d

-- The numbers of a list that have remainder v by `seats`.
abbrev pub of : ℕ → ℕ → List ℕ → List ℕ
of v seats [] = []
of v seats (x ∷ xs) = cond (x % seats == v) (x ∷ of v seats xs) (of v seats xs)

-- The number with index k among the numbers other than n.
abbrev pub skip : ℕ → ℕ → ℕ
skip n k = cond (nat_lt k n) k (suc k)

-- The end is of deque v and lists v's jobs among `taken`, at most as many as were dealt to v.
abbrev pub IsDequeEnd : ℕ → ℕ → ℕ → List ℕ → EndState → Type 0
IsDequeEnd jobs seats v taken e = (e.jobs ≡ jobs) × (e.seats ≡ seats) × (e.deque ≡ v)
    × (e.took ≡ of v seats taken) × (length e.took ≤ length (deal jobs seats v))

-- A seat: its number, its ends and the jobs that it took.
pub record SeatState : Type 0 where
  pub number : ℕ
  -- its end of its own deque, and its ends of the other deques, in their order
  pub own : EndState
  pub others : List EndState
  -- the jobs that it took, in the order taken
  pub taken : List ℕ

-- The seat has one end of each deque, and the end lists the jobs that the seat took from that
-- deque.
pub record IsSeat (s : SeatState) : Type 0 where
  pub below : s.number < s.own.seats
  pub count : suc (length s.others) ≡ s.own.seats
  pub own_is : IsDequeEnd s.own.jobs s.own.seats s.number s.taken s.own
  pub others_are : (k : ℕ) (d : EndState) → k < length s.others →
      IsDequeEnd s.own.jobs s.own.seats (skip s.number k) s.taken (get_or s.others k d)

-- The seat made of these parts.
abbrev pub seat_of : ℕ → EndState → List EndState → List ℕ → SeatState
seat_of number own others taken =
    record { number = number; own = own; others = others; taken = taken }

-- Two states of one seat: its number and the deques of its ends are equal.
abbrev pub SameSeat : SeatState → SeatState → Type 0
SameSeat s t = (t.number ≡ s.number) × SameEnd s.own t.own × (length t.others ≡ length s.others)
    × ((k : ℕ) (d : EndState) → k < length s.others →
    SameEnd (get_or s.others k d) (get_or t.others k d))

-- The seat has its end marks of all deques.
abbrev pub HasAllMarks : SeatState → Type 0
HasAllMarks s = (s.own.marked ≡ true)
    × ((k : ℕ) (d : EndState) → k < length s.others → (get_or s.others k d).marked ≡ true)

-- The seat took no job and no end mark.
abbrev pub IsNew : SeatState → Type 0
IsNew s = (s.taken ≡ []) × (s.own.marked ≡ false)
    × ((k : ℕ) (d : EndState) → k < length s.others → (get_or s.others k d).marked ≡ false)

-- The second state has every end mark that the first has.
abbrev pub MarksStay : SeatState → SeatState → Type 0
MarksStay s t = (s.own.marked ≡ true → t.own.marked ≡ true)
    × ((k : ℕ) (d : EndState) → k < length s.others → (get_or s.others k d).marked ≡ true →
    (get_or t.others k d).marked ≡ true)

-- The dealer of one deque. `marks_due` is one more than the number of stealing ends still to make.
pub record DealerState : Type 0 where
  pub id : DequeId
  pub jobs : ℕ
  pub seats : ℕ
  pub deque : ℕ
  pub marks_due : ℕ

-- The dealer of deque `id` whose view of the deque is u.
abbrev pub dealer_of : DequeId → Log → DealerState
dealer_of id u =
    record { id = id; jobs = u.jobs; seats = u.seats; deque = u.deque; marks_due = u.marks_due }

-- A dealer's view: all entries were pushed and none taken.
abbrev pub IsDealer : Log → Type 0
IsDealer u = (u.owns ≡ true) × (u.pushed ≡ length (feed u.jobs u.seats u.deque)) × (u.gathered ≡ [])
    × (u.took ≡ []) × (u.marks ≡ 0)

-- A new end of the dealer's deque.
abbrev pub fresh : DealerState → EndState
fresh d = record {
  id = d.id;
  jobs = d.jobs;
  seats = d.seats;
  deque = d.deque;
  took = [];
  marked = false;
  seen = 0;
}

-- The list without its element n.
abbrev pub without : {A : Type 0} → ℕ → List A → List A
without n [] = []
without zero (x ∷ xs) = xs
without (suc n) (x ∷ xs) = x ∷ without n xs

-- The end is one of deque v, and nothing was taken at it.
abbrev pub IsFresh : ℕ → ℕ → ℕ → EndState → Type 0
IsFresh jobs seats v e =
    (e.jobs ≡ jobs) × (e.seats ≡ seats) × (e.deque ≡ v) × (e.took ≡ []) × (e.marked ≡ false)

-- The element at each index v is an end of deque v, and nothing was taken at this end.
abbrev pub AllFresh : ℕ → ℕ → List EndState → Type 0
AllFresh jobs seats es =
    (v : ℕ) (d : EndState) → v < length es → IsFresh jobs seats v (get_or es v d)

-- All seats of one deal in their order; each has an end of each deque.
pub record IsDeal (jobs seats : ℕ) (ss : List SeatState) : Type 0 where
  pub count : length ss ≡ seats
  pub numbers : (s : ℕ) (d : SeatState) → s < seats → ((get_or ss s d).number ≡ s)
      × ((get_or ss s d).own.jobs ≡ jobs) × ((get_or ss s d).own.seats ≡ seats)
  pub others : (s : ℕ) (d : SeatState) → s < seats → suc (length (get_or ss s d).others) ≡ seats
  pub ends : (s k : ℕ) (d : SeatState) (e : EndState) → s < seats → suc k < seats →
      (get_or (get_or ss s d).others k e).id ≡ (get_or ss (skip s k) d).own.id

-- A deque that is being closed. `took` has the jobs that its owner took before or pops to close it,
-- `gathered` those taken at the ends joined to the owner's. `marked`: the owner took an end mark.
pub record ClosingState : Type 0 where
  pub id : DequeId
  pub jobs : ℕ
  pub seats : ℕ
  pub deque : ℕ
  pub took : List ℕ
  pub gathered : List ℕ
  -- the number of ends joined, the owner's included; the number of end marks taken at these
  pub back : ℕ
  pub marks : ℕ
  pub marked : Bool

-- The deque that is being closed, from the owner's view of it.
abbrev pub closing_of : DequeId → Bool → Log → ClosingState
closing_of id marked u = record {
  id = id;
  jobs = u.jobs;
  seats = u.seats;
  deque = u.deque;
  took = u.took;
  gathered = concat u.gathered;
  back = share u;
  marks = u.marks;
  marked = marked;
}

-- The owner's view as its deque is closed: an end mark was taken if `marked`, else one may be.
abbrev pub IsClosing : Bool → Log → Type 0
IsClosing marked u = (u.owns ≡ true) × (u.pushed ≡ length (feed u.jobs u.seats u.deque))
    × (marked ≡ true → 0 < u.marks) × (marked ≡ false → 0 < u.marks_due)

-- The closing of a deque, in state s, begins with the owner's end e alone.
abbrev pub Begins : EndState → ClosingState → Type 0
Begins e s = (s.id ≡ e.id) × (s.jobs ≡ e.jobs) × (s.seats ≡ e.seats) × (s.deque ≡ e.deque)
    × (s.took ≡ e.took) × (s.gathered ≡ []) × (s.back ≡ 1) × (e.marked ≡ true → 0 < s.marks)
    × (s.marked ≡ true → 0 < s.marks)

-- From s to t the end e was joined to the owner's, with e's list and e's mark.
abbrev pub AbsorbedEnd : ClosingState → EndState → ClosingState → Type 0
AbsorbedEnd s e t = (t.id ≡ s.id) × (t.jobs ≡ s.jobs) × (t.seats ≡ s.seats) × (t.deque ≡ s.deque)
    × (t.took ≡ s.took) × (t.gathered ≡ s.gathered ++ e.took) × (t.back ≡ suc s.back)
    × (s.marks ≤ t.marks) × (e.marked ≡ true → 0 < t.marks) × (t.marked ≡ s.marked)

-- How many jobs were taken at the ends joined so far. Once all ends are joined, this is the index
-- in the deal of the first job left.
abbrev pub position_of : ClosingState → ℕ
position_of s = length (s.took ++ s.gathered)

-- The jobs dealt to the deque.
abbrev pub deal_of : ClosingState → List ℕ
deal_of s = deal s.jobs s.seats s.deque

-- The owner popped job j, the first job left of those dealt to the deque. No end mark was taken.
abbrev pub PoppedJob : ClosingState → ℕ → ClosingState → Type 0
PoppedJob s j t = (t ≡ record s { took = s.took ++ j ∷ [] }) × (s.marks ≡ 0)
    × (j ∷ drop (suc (position_of s)) (deal_of s) ≡ drop (position_of s) (deal_of s))

-- The owner popped an end mark. If no end mark was taken before, all jobs were taken.
abbrev pub PoppedMark : ClosingState → ClosingState → Type 0
PoppedMark s t = (t ≡ record s { marks = suc s.marks; marked = true })
    × (s.marks ≡ 0 → length (deal_of s) ≤ position_of s)

-- The seats are all those of some deal, in their order.
abbrev pub IsBoard : ℕ → List SeatState → Type 0
IsBoard seats ss = (jobs : ℕ) × (0 < seats) × IsDeal jobs seats ss
