-- A deque is dealt one job in each whole round over the seats, and one more if the last, partial
-- round reaches it.
use Rattle.std.proofs.Common.{◌≡◌, ℕ, zero, suc, ◌+◌, ◌*◌, ◌/◌, ◌%◌, ◌<◌, ◌≤◌, true, false, cond, nat_lt, length, sym, ap, ◌∙◌, arith, inl, inr}
use Rattle.std.proofs.lemmas.Bool.{cases_eq, cases_lt}
use Rattle.std.proofs.lemmas.Bool.Decides.{nat_tests}
use Rattle.std.proofs.lemmas.Nat.{mod-mul-add}
use Rattle.std.proofs.Math.Nat.{mod-add-div'}
use Rattle.tile_jobs.proofs.Residues.{deal_length}
use Rattle.tile_jobs.specs.Board.{deal}

part_of_round : (q r seats v : ℕ) → r ≤ seats → length (deal (q * seats) seats v) ≡ q →
    length (deal (q * seats + r) seats v) ≡ q + cond (nat_lt v r) 1 0
part_of_round q zero seats v few whole = let e : q * seats + 0 ≡ q * seats = omega arith in
    let t : nat_lt v 0 ≡ false = grind (arith, nat_tests) in rw (e, t) (whole ∙ omega arith)
part_of_round q (suc r) seats v few whole =
    let h = part_of_round q r seats v (omega arith) whole in
    let m = mod-mul-add q seats r (omega arith) in
    let e : q * seats + suc r ≡ suc (q * seats + r) = omega arith in
    rw e (deal_length _ seats v ∙ rw (m, h) (grind (arith, nat_tests)))

whole_rounds : (q seats v : ℕ) → v < seats → length (deal (q * seats) seats v) ≡ q
whole_rounds zero seats v low = let e : 0 * seats ≡ 0 = omega arith in rw e
whole_rounds (suc q) seats v low =
    let h = part_of_round q seats seats v (omega arith) (whole_rounds q seats v low) in
    let t : nat_lt v seats ≡ true = grind (arith, nat_tests) in
    let e : suc q * seats ≡ q * seats + seats = omega arith in
    rw e (h ∙ rw t (omega arith))

pub deal_count : (jobs seats v : ℕ) → v < seats →
    length (deal jobs seats v) ≡ jobs / seats + cond (nat_lt v (jobs % seats)) 1 0
deal_count jobs seats v low =
    let e : (jobs / seats) * seats + jobs % seats ≡ jobs = let s = mod-add-div' jobs seats in
    omega (arith, s) in
    ap (λ j. length (deal j seats v)) (sym e) ∙ part_of_round _ _ seats v (omega arith) (whole_rounds _ seats v low)

pub deal_before_round : (seats v round : ℕ) → v < seats → length (deal (v + round * seats) seats v) ≡ round
deal_before_round seats v round low =
    let e : v + round * seats ≡ round * seats + v = omega arith in
    let t : nat_lt v v ≡ false = grind arith in
    rw e (part_of_round round v seats v (omega arith) (whole_rounds round seats v low) ∙ rw t (omega arith))

deal_grows : (n m seats v : ℕ) → n ≤ m → length (deal n seats v) ≤ length (deal m seats v)
deal_grows zero m seats v l = omega arith
deal_grows (suc n) zero seats v l = absurd (omega arith)
deal_grows (suc n) (suc m) seats v l =
    elim (cases_eq n m) [
      | inl e ↦ rw e (omega arith)
      | inr far ↦ let h = deal_grows (suc n) m seats v (omega arith) in let s = deal_length m seats v in omega arith
    ]

pub round_below : (jobs seats v count round : ℕ) → v < seats → count ≡ length (deal jobs seats v) → round < count →
    v + round * seats < jobs
round_below jobs seats v count round low is few =
    let at = deal_before_round seats v round low in
    elim (cases_lt (v + round * seats) jobs) [
      | inl l ↦ l
      | inr high ↦ let h = deal_grows jobs (v + round * seats) seats v high in absurd (omega arith)
    ]

pub round_remainder : (seats v round : ℕ) → v < seats → (v + round * seats) % seats ≡ v
round_remainder seats v round low = let e : v + round * seats ≡ round * seats + v = omega arith in
    rw e (mod-mul-add round seats v low)
