-- New seats are a deal (`IsDeal`): each has an end (handle) of each deque. After a seat takes a
-- job, the seats still are a deal, and each end lists the jobs that its seat took there (`IsSeat`).
use Rattle.std.proofs.Common.{◌≡◌, ◌≢◌, ℕ, zero, suc, ◌-◌, ◌%◌, ◌<◌, ◌≤◌, inl, inr, Bool, true, false, true≢false, cond, ◌==◌, List, All, [], ◌∷◌, ◌++◌, length, get_or, set, sym, refl, ap, ◌∙◌, arith}
use Rattle.std.proofs.lemmas.Bool.{cases_eq, cases_lt, eq-eqb, ne_eqb, lt-ltb, le-ltb}
use Rattle.std.proofs.lemmas.List.{get_or-set_same, get_or-set_other}
use lib.ListN.{length-append}
use Rattle.tile_jobs.specs.Board.{deal}
use Rattle.tile_jobs.specs.Ends.{EndState, SameEnd, Kept, TookJob, AllKept, TookAmong, of, skip, IsDequeEnd, SeatState, IsSeat, SameSeat, seat_of, IsNew, without, IsFresh, AllFresh, IsDeal}
use Rattle.tile_jobs.proofs.Residues.{of_here, of_else, room_left}

pub same_trans : (a b c : EndState) → SameEnd a b → SameEnd b c → SameEnd a c
same_trans a b c x y = (y.0 ∙ x.0, y.1 ∙ x.1, y.2 ∙ x.2, y.3 ∙ x.3)

unmarked_before : (a b : Bool) → (a ≡ true → b ≡ true) → b ≡ false → a ≡ false
unmarked_before true b stays e = absurd (true≢false (sym (stays refl) ∙ e))
unmarked_before false b stays e = refl

kept_took : (a b c : EndState) (j : ℕ) → Kept a b → TookJob b j c → TookJob a j c
kept_took a b c j x y = record {
  same = same_trans a b c x.0 y.same;
  unmarked = unmarked_before _ _ x.2 y.unmarked;
  took = y.took ∙ ap (λ l. l ++ j ∷ []) x.1;
  rises = rw (← x.1) y.rises;
  below = rw (← x.0.1) y.below;
  of_deque = rw (← x.0.2, ← x.0.3) y.of_deque;
  fits = rw (← x.0.1, ← x.0.2, ← x.0.3) y.fits;
}

pub took_among : (es fs : List EndState) (k j : ℕ) (e : EndState) → AllKept es fs → length fs ≡ length es →
    k < length es → ((d : EndState) → TookJob (get_or fs k d) j e) → TookAmong es j (set fs k e)
took_among es fs k j e kept len low took = (
  k,
  low,
  (λ d. rw (get_or-set_same fs k e d (omega arith)) (kept_took _ _ e j (kept k d low) (took d))),
  (λ i d far l. rw (get_or-set_other fs k i e d far) (kept i d l)),
)

skip_far : (n k : ℕ) → skip n k ≢ n
skip_far n k e = grind arith

skip_apart : (n i k : ℕ) → skip n i ≡ skip n k → i ≡ k
skip_apart n i k e = grind arith

pub skip_onto : (n v seats : ℕ) → v < suc seats → v ≢ n → n < suc seats → (k : ℕ) × (k < seats) × (skip n k ≡ v)
skip_onto n v seats low far below =
    elim (cases_lt v n) [
      | inl l ↦ (v, omega arith, rw (lt-ltb v n l) refl)
      | inr l ↦ (v - 1, omega arith, rw (le-ltb (v - 1) n (omega arith)) (omega arith))
    ]

pub kept_own : (s : SeatState) (o : EndState) → IsSeat s → Kept s.own o → IsSeat (record s { own = o })
kept_own s o h k = record {
  below = rw k.0.2 h.below;
  count = h.count ∙ sym k.0.2;
  own_is = rw (k.0.1, k.0.2, k.0.3, k.1) (refl, refl, h.own_is.2, h.own_is.3, h.own_is.4);
  others_are = rw (k.0.1, k.0.2) h.others_are;
}

bounded_other : (s : SeatState) → IsSeat s → (k : ℕ) → k < length s.others →
    length (of (skip s.number k) s.own.seats s.taken) ≤ length (deal s.own.jobs s.own.seats (skip s.number k))
bounded_other s h k low = let was = h.others_are k s.own low in rw (← was.3) was.4

bounded : (s : SeatState) → IsSeat s → (v : ℕ) → v < s.own.seats →
    length (of v s.own.seats s.taken) ≤ length (deal s.own.jobs s.own.seats v)
bounded s h v low =
    let below = h.below in
    let count = h.count in
    elim (cases_eq v s.number) [
      | inl e ↦ rw (e, ← h.own_is.3) h.own_is.4
      | inr far ↦ let at = skip_onto s.number v (length s.others) (omega arith) far (omega arith) in
          rw (← at.2) (bounded_other s h at.0 at.1)
    ]

pub skip_below : (n k m : ℕ) → suc k < m → n < m → skip n k < m
skip_below n k m low below = grind arith

pub own_took : (s : SeatState) (j : ℕ) (o : EndState) → IsSeat s → TookJob s.own j o →
    IsSeat (record s { own = o; taken = s.taken ++ j ∷ [] })
own_took s j o h t =
    let is = t.of_deque ∙ h.own_is.2 in
    let took = t.took ∙ ap (λ l. l ++ j ∷ []) h.own_is.3 ∙ sym (of_here _ _ _ j is) in
    let length_is = rw h.own_is.2 at t.fits in
    record {
      below = rw t.same.2 h.below;
      count = h.count ∙ sym t.same.2;
      own_is = rw (t.same.1, t.same.2) (refl, refl, t.same.3 ∙ h.own_is.2, took, length_is);
      others_are = rw (t.same.1, t.same.2) (λ k d low. let was = h.others_are k d low in (
        was.0,
        was.1,
        was.2,
        was.3 ∙ sym (of_else _ _ _ j (λ e. skip_far _ k (sym e ∙ is))),
        was.4,
      ));
    }

pub own_room : (s : SeatState) (j : ℕ) (o : EndState) → IsSeat s → TookJob s.own j o → length s.taken < s.own.jobs
own_room s j o h t =
    let l = length-append s.own.took (j ∷ []) in
    let less : length s.own.took < length (deal s.own.jobs s.own.seats s.own.deque) =
    (let a = ap length t.took in let b = t.fits in omega arith) in
    let less' : length (of s.number s.own.seats s.taken) < length (deal s.own.jobs s.own.seats s.number) =
    rw (h.own_is.3, h.own_is.2) at less in
    room_left s.own.seats s.own.jobs s.taken s.number h.below (bounded s h) less'

others_took_at : (s : SeatState) (j : ℕ) (fs : List EndState) → IsSeat s → (t : TookAmong s.others j fs) →
    (i : ℕ) (d : EndState) → i < length s.others →
    IsDequeEnd s.own.jobs s.own.seats (skip s.number i) (s.taken ++ j ∷ []) (get_or fs i d)
others_took_at s j fs h t i d low =
    elim (cases_eq i t.0) [
      | inl e ↦
          let was = h.others_are t.0 d t.1 in
          let now = t.2 d in
          let rem : j % s.own.seats ≡ skip s.number t.0 = rw (was.1, was.2) at now.of_deque in
          let took : (get_or fs t.0 d).took ≡ of (skip s.number t.0) s.own.seats (s.taken ++ j ∷ []) =
          now.took ∙ ap (λ l. l ++ j ∷ []) was.3 ∙ sym (of_here (skip s.number t.0) s.own.seats s.taken j rem) in
          let length_is : length (get_or fs t.0 d).took ≤ length (deal s.own.jobs s.own.seats (skip s.number t.0)) =
          rw (was.0, was.1, was.2) at now.fits in
          rw e (now.same.1 ∙ was.0, now.same.2 ∙ was.1, now.same.3 ∙ was.2, took, length_is)
      | inr far ↦
          let stole = h.others_are t.0 d t.1 in
          let rem : j % s.own.seats ≡ skip s.number t.0 = (let now = t.2 d in rw (stole.1, stole.2) at now.of_deque) in
          let was = h.others_are i d low in
          let now = t.3 i d far low in (
            now.0.1 ∙ was.0,
            now.0.2 ∙ was.1,
            now.0.3 ∙ was.2,
            now.1 ∙ was.3 ∙ sym
                (of_else (skip s.number i) s.own.seats s.taken j (λ e. far (skip_apart s.number i t.0 (sym e ∙ rem)))),
            rw now.1 was.4,
          )
    ]

pub others_took : (s : SeatState) (j : ℕ) (fs : List EndState) → IsSeat s → TookAmong s.others j fs →
    length fs ≡ length s.others → IsSeat (record s { others = fs; taken = s.taken ++ j ∷ [] })
others_took s j fs h t len =
    let stole = h.others_are t.0 s.own t.1 in
    let rem : j % s.own.seats ≡ skip s.number t.0 = (let now = t.2 s.own in rw (stole.1, stole.2) at now.of_deque) in
    record {
      below = h.below;
      count = ap suc len ∙ h.count;
      own_is = (
        refl,
        refl,
        h.own_is.2,
        h.own_is.3 ∙ sym (of_else s.number s.own.seats s.taken j (λ e. skip_far s.number t.0 (sym rem ∙ e))),
        h.own_is.4,
      );
      others_are = λ i d low. others_took_at s j fs h t i d (omega arith);
    }

-- A stolen job is greater than the jobs of its deque that the seat took before.
pub others_rise : (s : SeatState) (j : ℕ) (fs : List EndState) → IsSeat s → TookAmong s.others j fs →
    All (λ x. x < j) (of (j % s.own.seats) s.own.seats s.taken)
others_rise s j fs h t =
    let was = h.others_are t.0 s.own t.1 in
    let now = t.2 s.own in
    rw (rw (was.1, was.2) at now.of_deque, ← was.3) now.rises

pub others_room : (s : SeatState) (j : ℕ) (fs : List EndState) → IsSeat s → TookAmong s.others j fs →
    length s.taken < s.own.jobs
others_room s j fs h t =
    let was = h.others_are t.0 s.own t.1 in
    let now = t.2 s.own in
    let e : EndState = get_or s.others t.0 s.own in
    let l = length-append e.took (j ∷ []) in
    let less : length e.took < length (deal e.jobs e.seats e.deque) =
    (let a = ap length now.took in let b = now.fits in omega arith) in
    let less' : length (of (skip s.number t.0) s.own.seats s.taken) <
    length (deal s.own.jobs s.own.seats (skip s.number t.0)) = rw (was.3, was.0, was.1, was.2) at less in
    let low : skip s.number t.0 < s.own.seats =
    skip_below s.number t.0 s.own.seats (let c = h.count in let k = t.1 in omega arith) h.below in
    room_left s.own.seats s.own.jobs s.taken (skip s.number t.0) low (bounded s h) less'

pub without_last : {A : Type 0} (xs : List A) (n : ℕ) (x : A) → n ≡ length xs → without n (xs ++ x ∷ []) ≡ without n xs
without_last [] zero x e = refl
without_last [] (suc n) x e = absurd (omega arith)
without_last (y ∷ ys) zero x e = absurd (omega arith)
without_last (y ∷ ys) (suc n) x e = rw (without_last ys n x (omega arith)) refl

pub without_more : {A : Type 0} (xs : List A) (n : ℕ) (x : A) → n ≢ length xs →
    without n (xs ++ x ∷ []) ≡ without n xs ++ x ∷ []
without_more [] zero x far = absurd (far refl)
without_more [] (suc n) x far = refl
without_more (y ∷ ys) zero x far = refl
without_more (y ∷ ys) (suc n) x far = rw (without_more ys n x (λ e. far (ap suc e))) refl

pub without_length : {A : Type 0} (xs : List A) (n : ℕ) → n < length xs → suc (length (without n xs)) ≡ length xs
without_length [] n low = absurd (omega arith)
without_length (y ∷ ys) zero low = refl
without_length (y ∷ ys) (suc n) low = ap suc (without_length ys n (omega arith))

without_before : {A : Type 0} (xs : List A) (n k : ℕ) (d : A) → k < n → get_or (without n xs) k d ≡ get_or xs k d
without_before [] n k d low = refl
without_before (y ∷ ys) zero k d low = absurd (omega arith)
without_before (y ∷ ys) (suc n) zero d low = refl
without_before (y ∷ ys) (suc n) (suc k) d low = without_before ys n k d (omega arith)

without_behind : {A : Type 0} (xs : List A) (n k : ℕ) (d : A) → n ≤ k → get_or (without n xs) k d ≡ get_or xs (suc k) d
without_behind [] n k d high = refl
without_behind (y ∷ ys) zero k d high = refl
without_behind (y ∷ ys) (suc n) zero d high = absurd (omega arith)
without_behind (y ∷ ys) (suc n) (suc k) d high = without_behind ys n k d (omega arith)

pub get_without : {A : Type 0} (xs : List A) (n k : ℕ) (d : A) → get_or (without n xs) k d ≡ get_or xs (skip n k) d
get_without xs n k d =
    elim (cases_lt k n) [
      | inl l ↦ rw lt-ltb (without_before xs n k d l)
      | inr l ↦ rw le-ltb (without_behind xs n k d l)
    ]

pub get_snoc : {A : Type 0} (P : ℕ → A → Type 0) (xs : List A) (x : A) →
    ((j : ℕ) (d : A) → j < length xs → P j (get_or xs j d)) → P (length xs) x → (j : ℕ) (d : A) → j < suc (length xs) →
    P j (get_or (xs ++ x ∷ []) j d)
get_snoc P [] x all here zero d low = here
get_snoc P [] x all here (suc j) d low = absurd (omega arith)
get_snoc P (y ∷ ys) x all here zero d low = all zero d (omega arith)
get_snoc P (y ∷ ys) x all here (suc j) d low =
    get_snoc (λ n. P (suc n)) ys x (λ k d l. all _ d (omega arith)) here j d (omega arith)

pub fresh_more : (jobs seats : ℕ) (xs : List EndState) (x : EndState) → AllFresh jobs seats xs →
    IsFresh jobs seats (length xs) x → AllFresh jobs seats (xs ++ x ∷ [])
fresh_more jobs seats xs x all here =
    λ v d low. get_snoc (IsFresh jobs seats) xs x all here v d (let l = length-append xs (x ∷ []) in omega arith)

pub fresh_seat : (jobs seats s : ℕ) (es : List EndState) (own : EndState) → AllFresh jobs seats es → length es ≡ seats →
    s < seats → own ≡ get_or es s own → IsSeat (seat_of s own (without s es) [])
fresh_seat jobs seats s es own all count low is =
    let mine : IsFresh jobs seats s own = rw (← is) at (all s own (omega arith)) in
    let size = without_length es s (omega arith) in
    record {
      below = omega (arith, mine.1);
      count = omega (arith, mine.1);
      own_is = (refl, refl, mine.2, mine.3, rw mine.3 (omega arith));
      others_are = λ k d l.
          let at : skip s k < length es = skip_below s k (length es) (omega arith) (omega arith) in
          rw get_without (let f = all (skip s k) d at in
          (f.0 ∙ sym mine.0, f.1 ∙ sym mine.1, f.2, f.3, rw f.3 (omega arith)));
    }

pub new_seat : (jobs seats s : ℕ) (es : List EndState) (e : EndState) → AllFresh jobs seats es → s < length es →
    IsNew (seat_of s (get_or es s e) (without s es) [])
new_seat jobs seats s es e all low = (
  refl,
  (all s e low).4,
  (λ k d l. let r = without_length es s low in
      rw (get_without es s k d) (all (skip s k) d (skip_below s k (length es) (omega arith) low)).4),
)

pub deal_ends : (jobs seats : ℕ) (es : List EndState) (ss : List SeatState) → AllFresh jobs seats es →
    length es ≡ seats → length ss ≡ seats →
    ((s : ℕ) (d : SeatState) (e : EndState) → s < seats → get_or ss s d ≡ seat_of s (get_or es s e) (without s es) []) →
    IsDeal jobs seats ss
deal_ends jobs seats es ss all count size each = record {
  count = size;
  numbers = λ s d low. rw (each s d d.own low) (let f = all s d.own (omega arith) in (refl, f.0, f.1));
  others = λ s d low. rw (each s d d.own low) (without_length es s (omega arith) ∙ count);
  ends = λ s k d e low low'. rw (each s d e low, each _ d e (skip_below s k seats low' low), get_without);
}

pub without_cond : (xs : List EndState) (n v : ℕ) (x : EndState) → v ≡ length xs →
    cond (n == v) (without n xs) (without n xs ++ x ∷ []) ≡ without n (xs ++ x ∷ [])
without_cond xs n v x e =
    elim (cases_eq n v) [
      | inl q ↦ rw (eq-eqb n v q) (sym (without_last xs n x (q ∙ e)))
      | inr far ↦ rw (ne_eqb n v far) (sym (without_more xs n x (λ q. far (q ∙ sym e))))
    ]

pub deal_same : (jobs seats : ℕ) (ss ts : List SeatState) → IsDeal jobs seats ss → length ts ≡ seats →
    ((s : ℕ) (d : SeatState) → s < seats → SameSeat (get_or ss s d) (get_or ts s d)) → IsDeal jobs seats ts
deal_same jobs seats ss ts h size same = record {
  count = size;
  numbers = λ s d low. let n = h.numbers s d low in let t = same s d low in
      (t.0 ∙ n.0, t.1.1 ∙ n.1, t.1.2 ∙ n.2);
  others = λ s d low. ap suc (same s d low).2 ∙ h.others s d low;
  ends = λ s k d e low low'.
      let mine = (same s d low).3 k e (omega arith) in
      let theirs = (same _ d (skip_below s k seats low' low)).1 in
      mine.0 ∙ h.ends s k d e low low' ∙ sym theirs.0;
}

pub some_element : {A : Type 0} (xs : List A) → 0 < length xs → A
some_element [] low = absurd (omega arith)
some_element (x ∷ xs) low = x
