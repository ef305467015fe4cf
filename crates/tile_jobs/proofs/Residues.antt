-- A job's remainder by `seats` is the number of its deque. If a list of jobs is split by deque, the
-- parts' lengths add up to its length. A deque's feed, all entries pushed to it, has its jobs in
-- rising order, then its end marks.
use Rattle.std.proofs.Common.{◌≡◌, ◌≢◌, ℕ, zero, suc, ◌+◌, ◌%◌, ◌<◌, ◌≤◌, Bool, true, false, cond, ◌==◌, List, [], ◌∷◌, ◌++◌, length, drop, replicate, sym, refl, ap, ◌∙◌, arith, inl, inr}
use Rattle.std.proofs.lemmas.Bool.Decides.{nat_tests}
use lib.ListN.{length-append, length-replicate}
use Rattle.tile_jobs.specs.declared.deque.DequeEntry.TheVariants.{Job, End}
use Rattle.tile_jobs.specs.Rule.{once}
use Rattle.std.proofs.Math.Seq.{drop-append-add}
use Rattle.std.proofs.lemmas.Bool.{cases_eq, eq-eqb, ne_eqb}
use Rattle.std.proofs.lemmas.List.{append-nil, append_assoc, map-append, length-map}
use Rattle.tile_jobs.specs.Board.{deal, feed, jobs_in}
use Rattle.tile_jobs.specs.Sums.{sum_below}
use Rattle.tile_jobs.proofs.Sums.{sum_below-none, sum_below-less, sum_below-except}
use Rattle.tile_jobs.specs.Ends.{of}

of_append : (v seats : ℕ) (xs ys : List ℕ) → of v seats (xs ++ ys) ≡ of v seats xs ++ of v seats ys
of_append v seats [] ys = refl
of_append v seats (x ∷ xs) ys =
    let rest = of_append v seats xs ys in
    elim (x % seats == v) as (λ b. cond b (x ∷ of v seats (xs ++ ys)) (of v seats (xs ++ ys)) ≡
    cond b (x ∷ of v seats xs) (of v seats xs) ++ of v seats ys) [
      | true ↦
          ap (λ l. x ∷ l) rest
      | false ↦ rest
    ]

pub of_here : (v seats : ℕ) (xs : List ℕ) (j : ℕ) → j % seats ≡ v → of v seats (xs ++ j ∷ []) ≡ of v seats xs ++ j ∷ []
of_here v seats xs j e = let t = eq-eqb _ v e in
    of_append v seats xs _ ∙ rw t

pub of_else : (v seats : ℕ) (xs : List ℕ) (j : ℕ) → j % seats ≢ v → of v seats (xs ++ j ∷ []) ≡ of v seats xs
of_else v seats xs j e = let t : (j % seats == v) ≡ false = grind (arith, nat_tests, e) in
    of_append v seats xs _ ∙ rw t (append-nil _)

pub parts_length : (seats : ℕ) (xs : List ℕ) → 0 < seats → sum_below (λ v. length (of v seats xs)) seats ≡ length xs
parts_length seats [] some_seat = sum_below-none (λ v. 0) seats (λ v l. refl)
parts_length seats (x ∷ xs) some_seat =
    let r = x % seats in
    let h = parts_length seats xs some_seat in
    let at =
    sum_below-except (λ v. length (of v seats xs)) (λ v. length (of v seats (x ∷ xs))) seats r (omega arith)
    (λ v l far. rw (ne_eqb r v (λ e. far (sym e))) refl) in
    let here : length (of r seats (x ∷ xs)) ≡ suc (length (of r seats xs)) = rw (eq-eqb r r refl) refl in
    omega arith

pub deal_length : (j seats v : ℕ) → length (deal (suc j) seats v) ≡ cond (j % seats == v) 1 0 + length (deal j seats v)
deal_length j seats v =
    let l = length-append (deal j seats v) (j ∷ []) in
    elim (j % seats == v) as
    (λ b. length (cond b (deal j seats v ++ j ∷ []) (deal j seats v)) ≡ cond b 1 0 + length (deal j seats v))
    [ true ↦ omega arith | false ↦ omega arith ]

pub deals_length : (seats jobs : ℕ) → 0 < seats → sum_below (λ v. length (deal jobs seats v)) seats ≡ jobs
deals_length seats zero some_seat = sum_below-none (λ v. 0) seats (λ v l. refl)
deals_length seats (suc j) some_seat =
    let r = j % seats in
    let h = deals_length seats j some_seat in
    let at =
    sum_below-except (λ v. length (deal j seats v)) (λ v. length (deal (suc j) seats v)) seats r (omega arith)
    (λ v l far. rw (ne_eqb r v (λ e. far (sym e))) refl) in
    let here : length (deal (suc j) seats r) ≡ suc (length (deal j seats r)) =
    deal_length j seats r ∙ rw (eq-eqb r r refl) (omega arith) in
    omega arith

pub room_left : (seats jobs : ℕ) (xs : List ℕ) (w : ℕ) → w < seats →
    ((v : ℕ) → v < seats → length (of v seats xs) ≤ length (deal jobs seats v)) →
    length (of w seats xs) < length (deal jobs seats w) → length xs < jobs
room_left seats jobs xs w low h less =
    let a = parts_length seats xs (omega arith) in
    let b = deals_length seats jobs (omega arith) in
    let c = sum_below-less (λ v. length (of v seats xs)) (λ v. length (deal jobs seats v)) seats w low h less in
    omega arith

-- If deque v's deal of m jobs begins with v's jobs below j and then j, so does v's deal of m + 1
-- jobs.
deal_on_at : (b : Bool) (m seats v j : ℕ) → (m % seats == v) ≡ b → (rest : List ℕ) →
    deal m seats v ≡ deal j seats v ++ j ∷ rest → (more : List ℕ) × (deal (suc m) seats v ≡ deal j seats v ++ j ∷ more)
deal_on_at true m seats v j is rest e = (
  rest ++ m ∷ [],
  rw is (rw e (append_assoc (deal j seats v) (j ∷ rest) (m ∷ []))),
)
deal_on_at false m seats v j is rest e = (rest, rw is e)

pub deal_on : (jobs seats v j : ℕ) → j < jobs → j % seats ≡ v →
    (rest : List ℕ) × (deal jobs seats v ≡ deal j seats v ++ j ∷ rest)
deal_on zero seats v j low rem = absurd (omega arith)
deal_on (suc m) seats v j low rem =
    elim (cases_eq j m) [
      | inl e ↦ ([], ap (λ k. deal (suc k) seats v) (sym e) ∙ rw (eq-eqb _ v rem))
      | inr far ↦ let was = deal_on m seats v j (omega arith) rem in
          deal_on_at _ m seats v j refl _ was.1
    ]

drop_here : {A : Type 0} (xs : List A) (y : A) (ys : List A) (n : ℕ) → n ≡ length xs →
    y ∷ drop (suc n) (xs ++ y ∷ ys) ≡ drop n (xs ++ y ∷ ys)
drop_here xs y ys n e =
    let a : suc n ≡ length xs + 1 = omega arith in
    let b : n ≡ length xs + 0 = omega arith in
    rw a
    (ap (λ l. y ∷ l) (drop-append-add xs _ 1) ∙ sym (drop-append-add xs _ 0) ∙ ap (λ k. drop k (xs ++ y ∷ ys)) (sym b))

-- Job j of deque v is the entry of the feed at index n, where n jobs below j are dealt to v.
pub feed_next_job : (jobs seats v j n : ℕ) → j < jobs → j % seats ≡ v → n ≡ length (deal j seats v) →
    Job j ∷ drop (suc n) (feed jobs seats v) ≡ drop n (feed jobs seats v)
unfolding feed
feed_next_job jobs seats v j n low rem e =
    let on = deal_on jobs seats v j low rem in
    let parts : jobs_in (deal jobs seats v) ++ replicate seats End ≡
    jobs_in (deal j seats v) ++ (Job j ∷ (jobs_in on.0 ++ replicate seats End)) =
    ap (λ l. jobs_in l ++ replicate seats End) on.1 ∙
    ap (λ l. l ++ replicate seats End) (map-append Job (deal j seats v) (j ∷ on.0)) ∙
    append_assoc (jobs_in (deal j seats v)) (jobs_in (j ∷ on.0)) (replicate seats End) in
    rw parts (drop_here (jobs_in (deal j seats v)) (Job j) (jobs_in on.0 ++ replicate seats End) n
    (e ∙ sym (length-map (deal j seats v) Job)))

drop_ends : (n i : ℕ) → i < n → End ∷ drop (suc i) (replicate n End) ≡ drop i (replicate n End)
drop_ends zero i low = absurd (omega arith)
drop_ends (suc n) zero low = refl
drop_ends (suc n) (suc i) low = drop_ends n i (omega arith)

pub feed_next_end : (jobs seats v i n : ℕ) → i < seats → n ≡ length (deal jobs seats v) + i →
    End ∷ drop (suc n) (feed jobs seats v) ≡ drop n (feed jobs seats v)
unfolding feed
feed_next_end jobs seats v i n low e =
    let d = jobs_in (deal jobs seats v) in
    let size = length-map (deal jobs seats v) Job in
    let a : suc n ≡ length d + suc i = omega arith in
    let b : n ≡ length d + i = omega arith in
    ap (λ k. End ∷ drop k (d ++ replicate seats End)) a ∙
    ap (λ l. End ∷ l) (drop-append-add d (replicate seats End) (suc i)) ∙ drop_ends seats i low ∙
    sym (drop-append-add d (replicate seats End) i) ∙ ap (λ k. drop k (d ++ replicate seats End)) (sym b)

pub feed_length : (jobs seats v : ℕ) → length (feed jobs seats v) ≡ length (deal jobs seats v) + seats
unfolding feed
feed_length jobs seats v =
    length-append (jobs_in (deal jobs seats v)) (replicate seats End) ∙
    rw (length-map (deal jobs seats v) Job, length-replicate)

pub once_more : (n x : ℕ) → 0 < n → once n x ≡ x
once_more zero x h = absurd (omega arith)
once_more (suc n) x h = refl

pub sum_skip : (n v : ℕ) (f : ℕ → ℕ) → v < n → sum_below (λ i. cond (i == v) 0 (f i)) n + f v ≡ sum_below f n
sum_skip n v f low =
    sum_below-except (λ i. cond (i == v) 0 (f i)) f n v low (λ i l far. rw (ne_eqb i v far) refl) ∙
    rw (eq-eqb v v refl) (omega arith)
