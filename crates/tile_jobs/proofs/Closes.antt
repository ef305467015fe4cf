-- As a board is closed deque by deque, `left` has the jobs left in the deques closed so far
-- (`IsLeft`). After the last deque it has exactly the jobs that no seat took (`IsClosed`).
use Rattle.std.proofs.Common.{◌≡◌, ◌≢◌, ℕ, zero, suc, ◌+◌, ◌-◌, ◌%◌, ◌<◌, ◌≤◌, true, false, cond, ◌==◌, nat_lt, add-one, add-zero, List, [], ◌∷◌, ◌++◌, length, get_or, drop, sym, refl, ap, ◌∙◌, arith, inl, inr, below_more}
use Rattle.std.proofs.lemmas.Bool.{cases_eq, eq-eqb, ne_eqb}
use Rattle.std.proofs.lemmas.List.{append-nil, length-drop, get_or-drop, get_or_default, drop-drop}
use Rattle.std.proofs.lemmas.List.Folds.{concat-append}
use lib.ListN.{length-append}
use Rattle.tile_jobs.specs.Board.{deal, times}
use Rattle.tile_jobs.specs.Sums.{sum_below}
use Rattle.std.specs.List.{concat}
use Rattle.tile_jobs.specs.Ends.{EndState, SeatState, IsSeat, IsDeal, HasAllMarks, of, skip}
use Rattle.tile_jobs.specs.Closed.{ArePartsOf, in_seats, IsClosed}
use Rattle.tile_jobs.proofs.Entries.{times_append, times_deal, deal_is}
use Rattle.tile_jobs.proofs.Seats.{get_snoc}

pub times_of : (v seats y : ℕ) (xs : List ℕ) → y % seats ≡ v → times y (of v seats xs) ≡ times y xs
times_of v seats y [] rem = refl
times_of v seats y (x ∷ xs) rem =
    let rest = times_of v seats y xs rem in
    elim (cases_eq (x % seats) v) [
      | inl e ↦ rw (eq-eqb (x % seats) v e) (omega arith)
      | inr far ↦
          let none : ◌≡◌ {A = ℕ} (cond (x == y) 1 0) 0 =
          rw (ne_eqb x y (λ e. far (ap (λ k. k % seats) e ∙ rem))) refl in
          rw (ne_eqb (x % seats) v far) (omega arith)
    ]

none_or : (n : ℕ) (P : Type 0) → (0 < n → P) → (P → ⊥) → n ≡ 0
none_or zero P some nope = refl
none_or (suc n) P some nope = absurd (nope (some (omega arith)))

pub deal_other : (jobs seats v y : ℕ) → y % seats ≢ v → times y (deal jobs seats v) ≡ 0
deal_other jobs seats v y far =
    none_or (times y (deal jobs seats v)) (y % seats ≡ v) (λ n. (deal_is jobs seats v y n).1) far

pub deal_past : (jobs seats v y : ℕ) → jobs ≤ y → times y (deal jobs seats v) ≡ 0
deal_past jobs seats v y high =
    none_or (times y (deal jobs seats v)) (y < jobs) (λ n. (deal_is jobs seats v y n).0) (λ l. absurd (omega arith))

pub deal_one : (jobs seats y : ℕ) → y < jobs → times y (deal jobs seats (y % seats)) ≡ 1
deal_one zero seats y low = absurd (omega arith)
deal_one (suc j) seats y low =
    let split = times_deal j seats (y % seats) y in
    elim (cases_eq j y) [
      | inl e ↦
          let none = deal_past j seats (y % seats) y (omega arith) in
          split ∙ rw (eq-eqb (j % seats) (y % seats) (ap (λ k. k % seats) e), eq-eqb j y e, none) refl
      | inr far ↦
          let one = deal_one j seats y (omega arith) in
          let none : ◌≡◌ {A = ℕ} (cond (j % seats == y % seats) 0 0) 0 =
          elim (j % seats == y % seats) as (λ b. ◌≡◌ {A = ℕ} (cond b 0 0) 0) [ true ↦ refl | false ↦ refl ] in
          split ∙ rw (ne_eqb j y far, none, one) refl
    ]

pub times_drop : (y k : ℕ) (xs : List ℕ) → times y (drop k xs) ≤ times y xs
times_drop y zero xs = omega arith
times_drop y (suc k) [] = omega arith
times_drop y (suc k) (x ∷ xs) = omega (arith, times_drop y k xs)

pub get_of_drop : {A : Type 0} (xs : List A) (k : ℕ) (d : A) → get_or (drop k xs) 0 d ≡ get_or xs k d
get_of_drop xs k d = get_or-drop k xs 0 d ∙ rw add-zero refl

pub some_drop : {A : Type 0} (xs : List A) (k : ℕ) → k < length xs → 0 < length (drop k xs)
some_drop xs k low = omega (arith, length-drop k xs)

pub place_is : (s v : ℕ) → s ≢ v → skip s (v - cond (nat_lt s v) 1 0) ≡ v
place_is s v far = grind arith

pub place_low : (s v m : ℕ) → s ≢ v → s < suc m → v < suc m → v - cond (nat_lt s v) 1 0 < m
place_low s v m far low high = grind arith

pub next_row : {A : Type 0} (s v : ℕ) (xs : List A) →
    cond (s == v) (drop (v - cond (nat_lt s v) 1 0) xs) (drop 1 (drop (v - cond (nat_lt s v) 1 0) xs)) ≡
    drop (v + 1 - cond (nat_lt s (v + 1)) 1 0) xs
next_row s v xs =
    elim (cases_eq s v) [
      | inl e ↦ let at : v - cond (nat_lt s v) 1 0 ≡ v + 1 - cond (nat_lt s (v + 1)) 1 0 = grind arith in
          rw (eq-eqb s v e) (rw at refl)
      | inr far ↦
          let at : v - cond (nat_lt s v) 1 0 + 1 ≡ v + 1 - cond (nat_lt s (v + 1)) 1 0 = grind arith in
          rw (ne_eqb s v far) (drop-drop 1 _ xs ∙ rw at refl)
    ]

-- `left` has the jobs left in deques 0 to n - 1.
pub record IsLeft (jobs seats : ℕ) (ss : List SeatState) (n : ℕ) (left : List ℕ) : Type 0 where
  pub parts : ArePartsOf jobs seats n left
  pub low : length left ≤ sum_below (λ v. length (deal jobs seats v)) n
  pub once : (y : ℕ) (d : SeatState) → y % seats < n →
      in_seats y seats ss d + times y left ≡ times y (deal jobs seats (y % seats))
  pub later : (y : ℕ) → n ≤ y % seats → times y left ≡ 0
  pub empty : (s : ℕ) (d : SeatState) → s < seats → HasAllMarks (get_or ss s d) → left ≡ []
  pub again : (s : ℕ) (d : SeatState) → s < n → (get_or ss s d).own.marked ≡ true → (y : ℕ) → y % seats ≡ s →
      times y left ≡ 0

pub left_more : (jobs seats : ℕ) (ss : List SeatState) (v : ℕ) (left p : List ℕ) → v < seats →
    IsLeft jobs seats ss v left → (k : ℕ) → p ≡ drop k (deal jobs seats v) →
    ((s : ℕ) (d : SeatState) → s < seats → HasAllMarks (get_or ss s d) → p ≡ []) →
    ((d : SeatState) → (get_or ss v d).own.marked ≡ true → p ≡ []) →
    ((y : ℕ) (d : SeatState) → y % seats ≡ v → in_seats y seats ss d + times y p ≡ times y (deal jobs seats v)) →
    IsLeft jobs seats ss (v + 1) (left ++ p)
left_more jobs seats ss v left p low h k part empty again once =
    let few : length p ≤ length (deal jobs seats v) = rw part (omega (arith, length-drop k (deal jobs seats v))) in
    let size = length-append left p in
    let old = h.low in
    let else_none : (y : ℕ) → y % seats ≢ v → times y p ≡ 0 =
    λ y far. (let a = deal_other jobs seats v y far in let b = times_drop y k (deal jobs seats v) in
    let c = ap (times y) part in omega arith) in
    let Once : ℕ → Type 0 = λ r. (y : ℕ) (d : SeatState) → y % seats ≡ r →
    in_seats y seats ss d + times y (left ++ p) ≡ times y (deal jobs seats (y % seats)) in
    let Again : ℕ → Type 0 =
    λ s. (d : SeatState) → (get_or ss s d).own.marked ≡ true → (y : ℕ) → y % seats ≡ s → times y (left ++ p) ≡ 0 in
    record {
      parts = (
        h.parts.0 ++ p ∷ [],
        (let l = length-append h.parts.0 (p ∷ []) in let m = h.parts.1 in omega arith),
        ap (λ l. l ++ p) h.parts.2 ∙ ap (λ l. concat h.parts.0 ++ l) (sym (append-nil p)) ∙
            sym (concat-append h.parts.0 (p ∷ [])),
        (λ u l. get_snoc (λ v x. (k : ℕ) × (x ≡ drop k (deal jobs seats v))) h.parts.0 p
            (λ u d l. rw (get_or_default h.parts.0 u d [] l) (h.parts.3 u (let m = h.parts.1 in omega arith)))
            (k, rw h.parts.1 part) u [] (let m = h.parts.1 in omega arith)),
      );
      low = rw add-one (omega arith);
      once = λ y d l. below_more Once v (λ r lr y d e. let a = h.once y d (omega arith) in
          let b = else_none y (λ q. absurd (omega arith)) in let c = times_append y left p in omega arith)
          (λ y d e. let a = h.later y (omega arith) in let b = once y d e in
          let c = times_append y left p in rw e (omega arith)) (y % seats) l y d refl;
      later = λ y high. (let a = h.later y (omega arith) in let b = else_none y (λ q. absurd (omega arith)) in
          let c = times_append y left p in omega arith);
      empty = λ s d l marks. rw (h.empty s d l marks, empty s d l marks) refl;
      again = λ s d l m y e. below_more Again v (λ s ls d m y e. let a = h.again s d ls m y e in
          let b = else_none y (λ q. absurd (omega arith)) in let c = times_append y left p in omega arith)
          (λ d m y e. let a = h.later y (omega arith) in let b = ap (times y) (again d m) in
          let c = times_append y left p in omega arith) s l d m y e;
    }

-- The index of deque v's end among the stealing ends of seat s.
abbrev pub head : ℕ → ℕ → ℕ
head s v = v - cond (nat_lt s v) 1 0

module _ (jobs seats : ℕ) (ss : List SeatState) (deal_of_all : IsDeal jobs seats ss)
    (each : (s : ℕ) (d : SeatState) → s < seats → IsSeat (get_or ss s d)) where
  pub own_names : (v : ℕ) (own : EndState) (d : SeatState) → v < seats → own ≡ (get_or ss v d).own →
      (own.jobs ≡ jobs) × (own.seats ≡ seats) × (own.deque ≡ v)
  own_names v own d low is = let n = deal_of_all.numbers v d low in
      rw is (n.1, n.2, (each v d low).own_is.2 ∙ n.0)

  pub own_takes : (v : ℕ) (d : SeatState) → v < seats → (get_or ss v d).own.took ≡ of v seats (get_or ss v d).taken
  own_takes v d low = let n = deal_of_all.numbers v d low in (each v d low).own_is.3 ∙ rw (n.0, n.2)

  pub head_low : (s v : ℕ) (d : SeatState) → s < seats → v < seats → s ≢ v → head s v < length (get_or ss s d).others
  head_low s v d ls lv far =
      let n = deal_of_all.numbers s d ls in
      place_low s v _ far (omega arith) (omega arith)

  pub head_id : (s v : ℕ) (d : SeatState) (e : EndState) → s < seats → v < seats → s ≢ v →
      (get_or (get_or ss s d).others (head s v) e).id ≡ (get_or ss v d).own.id
  head_id s v d e ls lv far =
      let n = deal_of_all.numbers s d ls in
      let c = (each s d ls).count in
      let l = head_low s v d ls lv far in
      deal_of_all.ends s (head s v) d e ls (omega (arith, n.2)) ∙ ap (λ k. (get_or ss k d).own.id) (place_is s v far)

  pub head_took : (s v : ℕ) (d : SeatState) (e : EndState) → s < seats → v < seats → s ≢ v →
      (get_or (get_or ss s d).others (head s v) e).took ≡ of v seats (get_or ss s d).taken
  head_took s v d e ls lv far =
      let n = deal_of_all.numbers s d ls in
      ((each s d ls).others_are (head s v) e (head_low s v d ls lv far)).3 ∙ rw (n.0, n.2, place_is)

pub all_left : (jobs seats : ℕ) (ss : List SeatState) (left : List ℕ) → 0 < seats → IsLeft jobs seats ss seats left →
    IsClosed jobs seats ss left
all_left jobs seats ss left some h = record {
  parts = h.parts;
  once = λ j d low. let r : j % seats < seats = omega arith in h.once j d r ∙ deal_one jobs seats j low;
  none_else = λ j d high. let r : j % seats < seats = omega arith in
      h.once j d r ∙ deal_past jobs seats (j % seats) j high;
  empty = h.empty;
  own_empty = h.again;
}
