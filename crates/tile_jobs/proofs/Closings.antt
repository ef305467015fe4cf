-- As a deque is closed, the owner pops the jobs of its deal, the jobs dealt to it, from some index
-- on. Each job of the deal was taken before or is popped. Each end (handle) joined adds 1 to the
-- number of ends joined, and its jobs to those taken.
use Rattle.std.proofs.Common.{◌≡◌, ◌≢◌, ℕ, zero, suc, ◌+◌, ◌<◌, ◌≤◌, Bool, true, false, true≢false, cond, ◌==◌, nat_lt, add-one, List, [], ◌∷◌, ◌++◌, length, drop, replicate, sym, refl, ap, ◌∙◌, arith}
use Rattle.std.proofs.lemmas.Bool.{ne_eqb}
use Rattle.std.proofs.lemmas.List.{append-nil, append_assoc, drop_all}
use lib.ListN.{length-append}
use Rattle.tile_jobs.specs.declared.deque.DequeEntry.{DequeEntry}
use Rattle.tile_jobs.specs.declared.deque.DequeEntry.TheVariants.{Job, End}
use Rattle.tile_jobs.specs.Board.{deal, feed, jobs_in, times}
use Rattle.tile_jobs.specs.Sums.{sum_below}
use Rattle.tile_jobs.specs.declared.deque.Log.{Log}
use Rattle.tile_jobs.specs.Ends.{IsSeated, ClosingState, position_of, deal_of}
use Rattle.tile_jobs.proofs.Entries.{times_append, no_job}

job_at : (d : List ℕ) (n t j : ℕ) (rest : List DequeEntry) → Job j ∷ rest ≡ drop t (jobs_in d ++ replicate n End) →
    j ∷ drop (suc t) d ≡ drop t d
job_at [] n t j rest e = absurd (no_job n t j rest e)
job_at (i ∷ d) n zero j rest e = let q : j ≡ i = cc in rw q refl
job_at (i ∷ d) n (suc t) j rest e = job_at d n t j rest e

end_at : (d : List ℕ) (n t : ℕ) (rest : List DequeEntry) → End ∷ rest ≡ drop t (jobs_in d ++ replicate n End) →
    length d ≤ t
end_at [] n t rest e = omega arith
end_at (i ∷ d) n zero rest e = cc
end_at (i ∷ d) n (suc t) rest e = omega (arith, end_at d n t rest e)

pub feed_job_at : (jobs seats v t j : ℕ) (rest : List DequeEntry) → Job j ∷ rest ≡ drop t (feed jobs seats v) →
    j ∷ drop (suc t) (deal jobs seats v) ≡ drop t (deal jobs seats v)
unfolding feed
feed_job_at jobs seats v t j rest e = job_at _ seats t j rest e

pub feed_end_at : (jobs seats v t : ℕ) (rest : List DequeEntry) → End ∷ rest ≡ drop t (feed jobs seats v) →
    length (deal jobs seats v) ≤ t
unfolding feed
feed_end_at jobs seats v t rest e = end_at _ seats t rest e

pub one_share : (marked : Bool) (u : Log) → IsSeated marked u → u.marks_due + u.marks ≡ 1
one_share true u is = omega (arith, is.1, is.2)
one_share false u is = omega arith

pub mark_shows : (marked : Bool) (u : Log) → IsSeated marked u → marked ≡ true → 0 < u.marks
mark_shows true u is e = omega arith
mark_shows false u is e = absurd (true≢false (sym e))

-- Let the popped jobs p, and then the deal d from index t on, be d from index k on. Then so are p
-- and job j, and then d from index t + 1 on, once j at index t is popped.
pub part_more : (d p : List ℕ) (k t j : ℕ) → t ≡ k + length p → p ++ drop t d ≡ drop k d →
    j ∷ drop (suc t) d ≡ drop t d → (p ++ j ∷ []) ++ drop (suc t) d ≡ drop k d
part_more d p k t j at e next = append_assoc p _ _ ∙ rw next e

-- Once an end mark is popped, the jobs p popped before it are the deal d from some index on.
pub part_ends : (d p : List ℕ) (k t m : ℕ) → p ++ drop t d ≡ drop k d → (m ≡ 0 → length d ≤ t) → (0 < m → p ≡ []) →
    (i : ℕ) × (p ≡ drop i d)
part_ends d p k t zero e past none = (k, sym (append-nil p) ∙ rw (← drop_all t d (past refl)) e)
part_ends d p k t (suc m) e past none = (length d, none (omega arith) ∙ sym (drop_all _ d (omega arith)))

module _ (s0 s : ClosingState) (p : List ℕ)
    (now : s ≡ record s0 { took = s0.took ++ p; marks = s.marks; marked = s.marked }) where
  pub now_deal : deal_of s ≡ deal_of s0
  now_deal = ap deal_of now

  pub now_more : (n : ClosingState) (j : ℕ) → n ≡ record s { took = s.took ++ j ∷ [] } →
      n ≡ record s0 { took = s0.took ++ (p ++ j ∷ []); marks = n.marks; marked = n.marked }
  now_more n j e =
      let marks : n.marks ≡ s.marks = ap (λ (x : ClosingState). x.marks) e in
      let marked : n.marked ≡ s.marked = ap (λ (x : ClosingState). x.marked) e in
      e ∙ ap (λ (x : ClosingState). record x { took = x.took ++ j ∷ [] }) now ∙
      rw (append_assoc s0.took p (j ∷ []), marks, marked) refl

  pub now_place : (n : ClosingState) (j : ℕ) → n ≡ record s { took = s.took ++ j ∷ [] } →
      position_of n ≡ suc (position_of s)
  now_place n j e =
      let a = ap (λ (x : ClosingState). position_of x) e in
      let b = length-append (s.took ++ j ∷ []) s.gathered in
      let c = length-append s.took (j ∷ []) in
      let d = length-append s.took s.gathered in
      omega arith

  pub now_times : (y : ℕ) → times y (s.took ++ s.gathered) ≡ times y (deal_of s) →
      times y (s0.took ++ s0.gathered) + times y p ≡ times y (deal_of s0)
  now_times y e =
      let a = ap (λ (x : ClosingState). times y (x.took ++ x.gathered)) now in
      let b = times_append y (s0.took ++ p) s0.gathered in
      let c = times_append y s0.took p in
      let d = times_append y s0.took s0.gathered in
      let f = ap (times y) now_deal in
      omega arith

pub back_here : (v s b : ℕ) → s ≡ v → b + cond (nat_lt v s) 1 0 ≡ suc s → b + cond (nat_lt v (s + 1)) 1 0 ≡ suc (s + 1)
back_here v s b e h = grind arith

pub back_else : (v s b : ℕ) → s ≢ v → b + cond (nat_lt v s) 1 0 ≡ suc s →
    suc b + cond (nat_lt v (s + 1)) 1 0 ≡ suc (s + 1)
back_else v s b far h = grind arith

pub sum_here : (s v : ℕ) (f : ℕ → ℕ) → s ≡ v →
    sum_below (λ i. cond (i == v) 0 (f i)) (s + 1) ≡ sum_below (λ i. cond (i == v) 0 (f i)) s
sum_here s v f e = let t : (s == v) ≡ true = grind arith in
    rw (add-one, t) (omega arith)

pub sum_else : (s v : ℕ) (f : ℕ → ℕ) → s ≢ v →
    sum_below (λ i. cond (i == v) 0 (f i)) (s + 1) ≡ sum_below (λ i. cond (i == v) 0 (f i)) s + f s
sum_else s v f far = rw (add-one, ne_eqb s v far)
