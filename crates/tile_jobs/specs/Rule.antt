-- The pushes and takes on one deque, and the invariant `Lawful` that they keep. The dealer pushes
-- jobs, then end marks. Then the owner pops and the other seats steal, each at most until its first
-- mark. A pass is a right to act on the deque, with a view (`Log`) of its pushes and takes. A push
-- changes the view of its pass as `dealing` says, a pop or steal as `Took` says. Other views stay.
-- Before the first take the dealer splits off a pass for each seat but the owner. Such a pass may
-- take one mark (`after_split`, `split_off`). At the end it is joined to the owner's (`taken_back`,
-- `spent`).
-- Private.
use Rattle.std.specs.Prelude.{◌≡◌, ℕ, zero, suc, ◌+◌, ◌-◌, ◌%◌, ◌<◌, ◌≤◌, ◌⊎◌, true, false, List, [], ◌∷◌, ◌++◌, length, take, drop, All}
use Rattle.std.specs.List.{concat}
use mathlib.Core.Option.{some}
use lib.ListN.{get_elem?}
use Rattle.tile_jobs.specs.declared.deque.DequeEntry.{DequeEntry}
use Rattle.tile_jobs.specs.declared.deque.DequeEntry.TheVariants.{Job, End}
use Rattle.tile_jobs.specs.declared.deque.Log.{Log}
use Rattle.tile_jobs.specs.Board.{deal, feed, jobs_of, end_count, times, IsRising}

-- The sum of f over the views.
abbrev pub sum_over : (Log → ℕ) → List Log → ℕ
sum_over f [] = 0
sum_over f (v ∷ vs) = f v + sum_over f vs

-- The jobs that a pass took, and those of the passes joined to it.
abbrev pub all_taken : Log → List ℕ
all_taken v = v.took ++ concat v.gathered

-- The number of entries that a pass took, with those of the passes joined to it.
abbrev pub taken : Log → ℕ
taken v = length (all_taken v) + v.marks

-- The number of end marks that a pass took or may take, with those of the passes joined to it.
abbrev pub share : Log → ℕ
share v = v.marks_due + v.marks

-- The owner's view before the first push.
abbrev pub blank : Log
blank = record {
  jobs = 0;
  seats = 0;
  deque = 0;
  owns = true;
  pushed = 0;
  ready = false;
  marks_due = 0;
  marks = 0;
  took = [];
  gathered = [];
}

-- The view of a pass that may do nothing, as after the pass was joined to the owner's.
abbrev pub spent : Log
spent = record blank { owns = false }

-- A number in the owner's view after n pushes: 0 before the first push, which sets it to x.
abbrev pub once : ℕ → ℕ → ℕ
once zero x = 0
once (suc n) x = x

-- The dealer's view after n pushes. The first push sets `jobs`, `seats`, `deque` and `marks_due`.
abbrev pub dealing : ℕ → ℕ → ℕ → ℕ → Log
dealing jobs seats v n = record {
  jobs = once n jobs;
  seats = once n seats;
  deque = once n v;
  owns = true;
  pushed = n;
  ready = false;
  marks_due = once n seats;
  marks = 0;
  took = [];
  gathered = [];
}

-- The view u of the pass with number `port` is lawful; `owner` is the number of the owner's pass.
pub record IsOf (jobs seats v pushed owner : ℕ) (port : ℕ) (u : Log) : Type 0 where
  -- A pass that owns the deque, or took or may take an end mark, has the board's `jobs` and `seats`
  -- and the deque's number v.
  pub named : (u.owns ≡ true) ⊎ (0 < share u) → (u.jobs ≡ jobs) × (u.seats ≡ seats) × (u.deque ≡ v)
  pub owns : u.owns ≡ true → (port ≡ owner) × (u.pushed ≡ pushed)
  pub ready : u.ready ≡ true → (pushed ≡ length (feed jobs seats v)) × (0 < share u)
  pub idle : share u ≡ 0 → all_taken u ≡ []
  -- The pass's own list is rising, and so is the list of each pass joined to it.
  pub rising : All IsRising (u.took ∷ u.gathered)

-- A lawful deque: its entries, and the views of all its passes.
pub record Lawful (items : List DequeEntry) (views : List Log) : Type 0 where
  -- how many jobs and seats the board has and the deque's number v (each 0 before the first push),
  -- how many entries were pushed, and the number of the owner's pass
  pub jobs : ℕ
  pub seats : ℕ
  pub v : ℕ
  pub pushed : ℕ
  pub owner : ℕ
  pub within : sum_over taken views ≤ pushed
  -- The deque holds the entries that were pushed and not taken.
  pub held : items ≡ drop (sum_over taken views) (take pushed (feed jobs seats v))
  -- A number occurs in the lists of all passes as often as among the jobs of the entries taken.
  pub each : (x : ℕ) → sum_over (λ u. times x (all_taken u)) views
      ≡ times x (jobs_of (take (sum_over taken views) (feed jobs seats v)))
  pub marks : sum_over (λ u. u.marks) views
      ≡ end_count (take (sum_over taken views) (feed jobs seats v))
  pub marks_due : sum_over share views ≡ seats
  -- No entry is taken before all are pushed.
  pub closed : 0 < sum_over taken views → pushed ≡ length (feed jobs seats v)
  pub views_are : (port : ℕ) (u : Log) → get_elem? views port ≡ some u →
      IsOf jobs seats v pushed owner port u

-- The pass may take: all entries were pushed, and it may still take an end mark.
abbrev pub CanTake : Log → Type 0
CanTake u = (0 < u.marks_due)
    × ((u.ready ≡ true) ⊎ ((u.owns ≡ true) × (u.pushed ≡ length (feed u.jobs u.seats u.deque))))

-- Job j of this deque was taken, and is the last of the view's list.
pub record AddsJob (u : Log) (j : ℕ) (w : Log) : Type 0 where
  pub view : w ≡ record u { took = u.took ++ j ∷ [] }
  pub below : j < u.jobs
  pub of_deque : j % u.seats ≡ u.deque
  -- Job j is greater than all jobs before it in the list.
  pub rises : All (λ x. x < j) u.took
  pub fits : length w.took ≤ length (deal u.jobs u.seats u.deque)
  pub unmarked : u.marks ≡ 0

-- One entry was taken: a job, or an end mark.
abbrev pub Took : Log → List DequeEntry → Log → Type 0
Took u [] w = ⊥
Took u (Job j ∷ []) w = AddsJob u j w
Took u (End ∷ []) w = (w ≡ record u { marks = suc u.marks; marks_due = u.marks_due - 1 })
Took u (_ ∷ _ ∷ _) w = ⊥

-- The view of a stealing pass that is split off: it may take one end mark.
abbrev pub split_off : Log → Log
split_off u = record {
  jobs = u.jobs;
  seats = u.seats;
  deque = u.deque;
  owns = false;
  pushed = 0;
  ready = true;
  marks_due = 1;
  marks = 0;
  took = [];
  gathered = [];
}

-- The owner's view after splitting off a stealing pass.
abbrev pub after_split : Log → Log
after_split u = record u { marks_due = u.marks_due - 1 }

-- The owner's view u after joining a pass of view w: it gets w's lists, marks and marks_due.
abbrev pub taken_back : Log → Log → Log
taken_back u w = record u {
  marks_due = u.marks_due + w.marks_due;
  marks = u.marks + w.marks;
  gathered = u.gathered ++ (w.took ∷ w.gathered);
}

-- One entry was taken: the one at index `taken u` in the order pushed.
abbrev pub TookNext : Log → List DequeEntry → Log → Type 0
TookNext u xs w = Took u xs w
    × ((rest : List DequeEntry) × (xs ++ rest ≡ drop (taken u) (feed u.jobs u.seats u.deque)))
