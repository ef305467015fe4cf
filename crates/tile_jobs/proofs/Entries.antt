-- A deque's feed, all entries pushed to it, has the jobs dealt to it, rising, then the end marks.
-- How often a number occurs in a list.
use Rattle.std.proofs.Common.{◌≡◌, ℕ, zero, suc, ◌+◌, ◌%◌, ◌<◌, ◌≤◌, true, false, cond, ◌==◌, List, [], ◌∷◌, ◌++◌, length, take, drop, get_or, add-one, add-zero, replicate, All, sym, refl, ap, ◌∙◌, subst, arith, eq-eqb, inl, inr}
use Rattle.std.proofs.lemmas.Bool.Decides.{nat_tests}
use Rattle.std.proofs.lemmas.Bool.{cases_eq, ne_eqb}
use Rattle.std.proofs.lemmas.List.{append-nil, length-drop, get_or-drop, get_or-append-add, take_more, drop-drop, take-append-drop}
use Rattle.std.proofs.lemmas.List.Quantifiers.{all_pairs_push}
use lib.ListN.{length-append}
use Rattle.tile_jobs.specs.declared.deque.DequeEntry.{DequeEntry}
use Rattle.tile_jobs.specs.declared.deque.DequeEntry.TheVariants.{Job, End}
use Rattle.tile_jobs.specs.Board.{deal, feed, jobs_in, jobs_of, end_count, times, IsRising}

module _ {A : Type 0} where
  pub cut_below : (xs : List A) (t : ℕ) (x : A) (rest : List A) → x ∷ rest ≡ drop t xs → t < length xs
  cut_below xs t x rest e = omega (arith, ap length e, length-drop t xs)

  pub get_drop : (xs : List A) (t : ℕ) (x d : A) (rest : List A) → x ∷ rest ≡ drop t xs → x ≡ get_or xs t d
  get_drop xs t x d rest e = ap (λ l. get_or l 0 d) e ∙ get_or-drop t xs 0 d ∙ ap (λ n. get_or xs n d) (add-zero t)

  pub cut_take : (xs : List A) (t : ℕ) (x : A) (rest : List A) → x ∷ rest ≡ drop t xs →
      take (suc t) xs ≡ take t xs ++ x ∷ []
  cut_take xs t x rest e =
      ap (λ n. take n xs) (sym (add-one t)) ∙ take_more xs t x (cut_below xs t x rest e) ∙
      ap (λ y. take t xs ++ y ∷ []) (sym (get_drop xs t x x rest e))

  pub cut_drop : (xs : List A) (t : ℕ) (x : A) (rest : List A) → x ∷ rest ≡ drop t xs → rest ≡ drop (suc t) xs
  cut_drop xs t x rest e = ap (drop 1) e ∙ drop-drop 1 t xs ∙ ap (λ n. drop n xs) (add-one t)

  pub cut_past : (xs : List A) (t : ℕ) → [] ≡ drop t xs → length xs ≤ t
  cut_past xs t e = omega (arith, ap length e, length-drop t xs)

pub times_append : (x : ℕ) (xs ys : List ℕ) → times x (xs ++ ys) ≡ times x xs + times x ys
times_append x [] ys = omega arith
times_append x (y ∷ xs) ys = omega (arith, times_append x xs ys)

pub jobs_append : (es fs : List DequeEntry) → jobs_of (es ++ fs) ≡ jobs_of es ++ jobs_of fs
jobs_append [] fs = refl
jobs_append (Job j ∷ es) fs = rw (jobs_append es fs) refl
jobs_append (End ∷ es) fs = jobs_append es fs

pub ends_append : (es fs : List DequeEntry) → end_count (es ++ fs) ≡ end_count es + end_count fs
ends_append [] fs = omega arith
ends_append (Job j ∷ es) fs = ends_append es fs
ends_append (End ∷ es) fs = omega (arith, ends_append es fs)

pub jobs_ends : (n : ℕ) → jobs_of (replicate n End) ≡ []
jobs_ends zero = refl
jobs_ends (suc n) = jobs_ends n

pub ends_ends : (n : ℕ) → end_count (replicate n End) ≡ n
ends_ends zero = refl
ends_ends (suc n) = ap suc (ends_ends n)

pub jobs_jobs : (d : List ℕ) → jobs_of (jobs_in d) ≡ d
jobs_jobs [] = refl
jobs_jobs (j ∷ d) = rw (jobs_jobs d) refl

pub ends_jobs : (d : List ℕ) → end_count (jobs_in d) ≡ 0
ends_jobs [] = refl
ends_jobs (j ∷ d) = ends_jobs d

pub no_job : (n t j : ℕ) (rest : List DequeEntry) → Job j ∷ rest ≡ drop t (replicate n End) → ⊥
no_job zero zero j rest e = cc
no_job zero (suc t) j rest e = cc
no_job (suc n) zero j rest e = cc
no_job (suc n) (suc t) j rest e = no_job n t j rest e

pub job_early : (d : List ℕ) (n t j : ℕ) (rest : List DequeEntry) →
    Job j ∷ rest ≡ drop t (jobs_in d ++ replicate n End) →
    (t < length d) × (end_count (take t (jobs_in d ++ replicate n End)) ≡ 0)
job_early [] n t j rest e = absurd (no_job n t j rest e)
job_early (i ∷ d) n zero j rest e = (omega arith, refl)
job_early (i ∷ d) n (suc t) j rest e = let h = job_early d n t j rest e in (omega arith, h.1)

no_jobs : (n t : ℕ) → jobs_of (take t (replicate n End)) ≡ []
no_jobs n zero = refl
no_jobs zero (suc t) = refl
no_jobs (suc n) (suc t) = no_jobs n t

pub mark_late : (d : List ℕ) (n t : ℕ) → 0 < end_count (take t (jobs_in d ++ replicate n End)) →
    jobs_of (take t (jobs_in d ++ replicate n End)) ≡ d
mark_late [] n zero h = refl
mark_late [] zero (suc t) h = refl
mark_late [] (suc n) (suc t) h = no_jobs n t
mark_late (i ∷ d) n zero h = absurd (omega arith)
mark_late (i ∷ d) n (suc t) h = rw (mark_late d n t h) refl

times_self : (x : ℕ) → ◌≡◌ {A = ℕ} (cond (x == x) 1 0) 1
times_self x = rw eq-eqb refl

pub times_deal : (j seats v y : ℕ) →
    times y (deal (suc j) seats v) ≡ times y (deal j seats v) + cond (j % seats == v) (cond (j == y) 1 0) 0
times_deal j seats v y =
    let split = times_append y (deal j seats v) (j ∷ []) in
    elim (j % seats == v) as (λ b. times y (cond b (deal j seats v ++ j ∷ []) (deal j seats v)) ≡
    times y (deal j seats v) + cond b (cond (j == y) 1 0) 0) [
      | true ↦ omega arith
      | false ↦ omega arith
    ]

pub deal_is : (jobs seats v y : ℕ) → 0 < times y (deal jobs seats v) → (y < jobs) × (y % seats ≡ v)
deal_is zero seats v y n = absurd (omega arith)
deal_is (suc j) seats v y n =
    let split = times_deal j seats v y in
    elim (cases_eq j y) [
      | inl e ↦ elim (cases_eq (j % seats) v) [
        | inl r ↦ (omega arith, ap (λ k. k % seats) (sym e) ∙ r)
        | inr far ↦ let t = ne_eqb (j % seats) v far in
            let h = deal_is j seats v y (let m = rw (split, t) at n in omega arith) in (omega (arith, h.0), h.1)
      ]
      | inr far ↦ let t = ne_eqb j y far in let h = deal_is j seats v y (grind (arith, nat_tests)) in
          (omega (arith, h.0), h.1)
    ]

pub feed_jobs : (jobs seats v : ℕ) → jobs_of (feed jobs seats v) ≡ deal jobs seats v
unfolding feed
feed_jobs jobs seats v = rw (jobs_append, jobs_jobs, jobs_ends, append-nil)

pub feed_ends : (jobs seats v : ℕ) → end_count (feed jobs seats v) ≡ seats
unfolding feed
feed_ends jobs seats v = rw (ends_append, ends_jobs, ends_ends) (omega arith)

pub feed_early : (jobs seats v t j : ℕ) (rest : List DequeEntry) → Job j ∷ rest ≡ drop t (feed jobs seats v) →
    (t < length (deal jobs seats v)) × (end_count (take t (feed jobs seats v)) ≡ 0)
unfolding feed
feed_early jobs seats v t j rest e = job_early (deal jobs seats v) seats t j rest e

pub feed_late : (jobs seats v t : ℕ) → 0 < end_count (take t (feed jobs seats v)) →
    jobs_of (take t (feed jobs seats v)) ≡ deal jobs seats v
unfolding feed
feed_late jobs seats v t h = mark_late _ seats t h

times_at : (xs : List ℕ) (k d : ℕ) → k < length xs → 0 < times (get_or xs k d) xs
times_at [] k d low = absurd (omega arith)
times_at (x ∷ xs) zero d low = let one = times_self x in omega arith
times_at (x ∷ xs) (suc k) d low = let h = times_at xs k d (omega arith) in omega arith

pub all_below : (xs : List ℕ) (j : ℕ) → ((x : ℕ) → 0 < times x xs → x < j) → All (λ x. x < j) xs
all_below xs j less k d low = less (get_or xs k d) (times_at xs k d low)

deal_rises : (jobs seats v : ℕ) → IsRising (deal jobs seats v)
deal_rises zero seats v = λ i k d l low. absurd (omega arith)
deal_rises (suc j) seats v =
    let was = deal_rises j seats v in
    let less = all_below (deal j seats v) j (λ x n. (deal_is j seats v x n).0) in
    elim (j % seats == v) as (λ b. IsRising (cond b (deal j seats v ++ j ∷ []) (deal j seats v))) [
      | true ↦ all_pairs_push (λ x y. x < y) (deal j seats v) j was less
      | false ↦ was
    ]

rising_before : (xs ys : List ℕ) (j x : ℕ) → IsRising (xs ++ j ∷ ys) → 0 < times x xs → x < j
rising_before [] ys j x is n = absurd (omega arith)
rising_before (z ∷ xs) ys j x is n =
    elim (cases_eq z x) [
      | inl e ↦
          let size = length-append xs (j ∷ ys) in
          let less = is 0 (suc (length xs + 0)) j (omega arith) (omega arith) in
          rw (← e) (rw (get_or-append-add xs (j ∷ ys) 0 j) at less)
      | inr far ↦
          let t = ne_eqb z x far in
          rising_before xs ys j x (λ i k d l low. is (suc i) (suc k) d (omega arith) (omega arith))
          (let m = rw t at n in omega arith)
    ]

-- The jobs of the feed before job j, then j, then the jobs after it, are the deal.
feed_parts : (jobs seats v t j : ℕ) (rest : List DequeEntry) → Job j ∷ rest ≡ drop t (feed jobs seats v) →
    jobs_of (take t (feed jobs seats v)) ++ (j ∷ jobs_of rest) ≡ deal jobs seats v
feed_parts jobs seats v t j rest e =
    let all = feed jobs seats v in
    sym (jobs_append (take t all) (Job j ∷ rest)) ∙ ap (λ l. jobs_of (take t all ++ l)) e ∙
    ap jobs_of (take-append-drop t all) ∙ feed_jobs jobs seats v

pub feed_is : (jobs seats v t j : ℕ) (rest : List DequeEntry) → Job j ∷ rest ≡ drop t (feed jobs seats v) →
    (j < jobs) × (j % seats ≡ v)
feed_is jobs seats v t j rest e =
    let before = jobs_of (take t (feed jobs seats v)) in
    let counts = times_append j before (j ∷ jobs_of rest) in
    let one = times_self j in
    deal_is jobs seats v j (subst (λ l. 0 < times j l) (feed_parts jobs seats v t j rest e) (omega arith))

-- A job of the feed is greater than each job before it.
pub feed_rises : (jobs seats v t j : ℕ) (rest : List DequeEntry) → Job j ∷ rest ≡ drop t (feed jobs seats v) → (x : ℕ) →
    0 < times x (jobs_of (take t (feed jobs seats v))) → x < j
feed_rises jobs seats v t j rest e x n =
    rising_before (jobs_of (take t (feed jobs seats v))) (jobs_of rest) j x
    (subst IsRising (sym (feed_parts jobs seats v t j rest e)) (deal_rises jobs seats v)) n
