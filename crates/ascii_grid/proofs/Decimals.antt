-- The next digit before the last k digits of a number makes its last k + 1 digits. The digits of a
-- number below 2^64 spell it, also as `decimal (n / 10 ^ d)` and then the last d digits. They are
-- more than k if the number is at least 10^k.
use Rattle.std.proofs.Common.{◌≡◌, ℕ, zero, suc, ◌+◌, ◌*◌, ◌/◌, ◌%◌, ◌^◌, ◌<◌, ◌≤◌, ◌-◌, List, [], ◌∷◌, ◌++◌, length, drop, set, sym, ap, refl, ◌∙◌, arith, add-one, true}
use Rattle.std.specs.Prelude.{decimal}
use Rattle.std.proofs.Math.Nat.{div-div-eq-div-mul, pow-succ', div-one, pow-le-pow_right}
use Rattle.std.proofs.lemmas.Fmt.{decimal_by_steps, decimal_nonempty}
use Rattle.std.proofs.lemmas.Grind.{drop-set_at}
use Rattle.ascii_grid.specs.Text.{last_digits}
use Rattle.std.specs.List.{list_all}
use Rattle.std.specs.Char.{is_ascii_digit}
use Rattle.std.proofs.lemmas.Bool.{and_from, le-leb}
use Rattle.std.proofs.lemmas.List.{append_assoc, append-nil, length-append}
use Rattle.std.proofs.lemmas.List.Folds.{list_all-append}
use Rattle.std.proofs.lemmas.List.Sums.{fold-append}
use Rattle.terrain.specs.Words.{is_word}
use Rattle.terrain.specs.Decimal.{number_of, are_digits}

pub div_pow : (n k : ℕ) → n / 10 / 10 ^ k ≡ n / 10 ^ (suc k)
div_pow n k = div-div-eq-div-mul n 10 _ ∙ rw (← pow-succ') refl

pub div_pow_last : (n k : ℕ) → n / 10 ^ k / 10 ≡ n / 10 ^ (k + 1)
div_pow_last n k =
    div-div-eq-div-mul n _ 10 ∙
    rw (let e : 10 ^ k * 10 ≡ 10 ^ (k + 1) = rw (add-one, pow-succ') (omega arith) in e) refl

pub last_digits-front : (k n : ℕ) → last_digits (suc k) n ≡ (48 + n / 10 ^ k % 10) ∷ last_digits k n
last_digits-front zero n = ap (λ m. (48 + m % 10) ∷ []) (sym (div-one n))
last_digits-front (suc k) n = rw (last_digits-front k _) (rw div_pow refl)

-- if the buffer ends with the last k digits of n, storing the next digit before these gives the
-- last k + 1 digits
pub digit_before : (k n left at : ℕ) (buffer : List ℕ) → left ≡ n / 10 ^ k → at < length buffer →
    drop (at + 1) buffer ≡ last_digits k n → drop at (set buffer at (48 + left % 10)) ≡ last_digits (k + 1) n
digit_before k n left at buffer e h d =
    drop-set_at buffer at at _ refl h ∙ rw d (rw e (sym (rw add-one (last_digits-front k n))))

pub many_digits : (n : ℕ) → n < 2 ^ 64 → (k : ℕ) → 10 ^ k ≤ n → k < length (decimal n)
many_digits n h = decimal_by_steps (λ m ds. (k : ℕ) → 10 ^ k ≤ m → k < length ds) first next n h
  where
    first : (m : ℕ) → m < 10 → (k : ℕ) → 10 ^ k ≤ m → k < 1
    first m below zero le = omega arith
    first m below (suc k) le = absurd (omega (
      arith,
      below,
      le,
      pow-succ' 10 k,
      pow-le-pow_right {n = 10} (omega arith) {i = 0} {j = k} (omega arith),
    ))

    next : (m : ℕ) (ds : List ℕ) → 10 ≤ m → ((k : ℕ) → 10 ^ k ≤ m / 10 → k < length ds) → (k : ℕ) → 10 ^ k ≤ m →
        k < length (ds ++ (48 + m % 10) ∷ [])
    next m ds more longer zero le = omega (arith, length-append ds ((48 + m % 10) ∷ []))
    next m ds more longer (suc k) le =
        let rest : 10 ^ k ≤ m / 10 = omega arith in
        omega (arith, length-append ds ((48 + m % 10) ∷ []), longer k rest)

pub number_of-push : (ds : List ℕ) (b : ℕ) → number_of (ds ++ b ∷ []) ≡ 10 * number_of ds + (b - 48)
number_of-push ds b = fold-append (λ n c. 10 * n + (c - 48)) 0 ds _

last_value : {n m : ℕ} → m ≡ n / 10 → 10 * m + (48 + n % 10 - 48) ≡ n
last_value e = omega arith

pub decimal_value : {n : ℕ} → n < 2 ^ 64 → number_of (decimal n) ≡ n
decimal_value {n} h =
    decimal_by_steps (λ m ds. number_of ds ≡ m) (λ m k. omega arith) (λ m ds k e. number_of-push ds _ ∙ last_value e) n
    h

digit_of : (m : ℕ) → m < 10 → is_ascii_digit (48 + m) ≡ true
digit_of m h = and_from _ _ (le-leb 48 _ (omega arith)) (le-leb (48 + m) 57 (omega arith))

digits_push : (ds : List ℕ) {m : ℕ} → m < 10 → list_all is_ascii_digit ds ≡ true →
    list_all is_ascii_digit (ds ++ (48 + m) ∷ []) ≡ true
digits_push ds {m} h k =
    list_all-append is_ascii_digit ds ((48 + m) ∷ []) ∙ and_from _ _ k (and_from _ true (digit_of m h) refl)

module _ (n : ℕ) where
  pub decimal_digits : n < 2 ^ 64 → list_all is_ascii_digit (decimal n) ≡ true
  decimal_digits h =
      decimal_by_steps (λ m ds. list_all is_ascii_digit ds ≡ true) (λ m k. digits_push [] k refl)
      (λ m ds k e. digits_push ds (omega arith) e) n h

  pub decimal_word : n < 2 ^ 64 → is_word (decimal n) ≡ true
  decimal_word h = some _ (decimal_nonempty n h)
    where
      some : (ds : List ℕ) → 0 < length ds → is_word ds ≡ true
      some [] h = absurd (omega arith)
      some (d ∷ ds) h = refl

  pub decimal_are_digits : n < 2 ^ 64 → are_digits (decimal n) ≡ true
  decimal_are_digits h = and_from _ _ (decimal_word h) (decimal_digits h)

pub last_digits_digits : (d n : ℕ) → list_all is_ascii_digit (last_digits d n) ≡ true
last_digits_digits zero n = refl
last_digits_digits (suc d) n = digits_push (last_digits d (n / 10)) (omega arith) (last_digits_digits d (n / 10))

pub length-last_digits : (d n : ℕ) → length (last_digits d n) ≡ d
length-last_digits zero n = refl
length-last_digits (suc d) n =
    let e = length-last_digits d (n / 10) in
    omega (arith, e, length-append (last_digits d (n / 10)) ((48 + n % 10) ∷ []))

pub scaled_digits : (d n : ℕ) → n < 2 ^ 64 → number_of (decimal (n / 10 ^ d) ++ last_digits d n) ≡ n
scaled_digits zero n h = ap number_of (append-nil (decimal (n / 10 ^ 0))) ∙ rw div-one (decimal_value h)
scaled_digits (suc d) n h =
    let small : n / 10 < 2 ^ 64 = omega arith in
    ap number_of (sym (append_assoc (decimal (n / 10 ^ suc d)) (last_digits d (n / 10)) ((48 + n % 10) ∷ []))) ∙
    number_of-push (decimal (n / 10 ^ suc d) ++ last_digits d (n / 10)) (48 + n % 10) ∙
    rw (← div_pow) (last_value (scaled_digits d _ small))
