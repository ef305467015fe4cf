-- Without exponent, a word's scaled value (its number in units of 10^-d) follows from its sign and
-- its digits around its point. 1 to 16 digits after an optional `-` spell it (`IsPlain`), if its
-- size is up to 10^18.
use Rattle.std.proofs.Common.{◌≡◌, ℕ, ◌+◌, ◌*◌, ◌-◌, ◌^◌, ◌<◌, ◌≤◌, min, Bool, true, false, ◌&&◌, ◌||◌, cond, nat_le, nat_lt, ◌==◌, List, [], ◌∷◌, ◌++◌, length, take, drop, fold, replicate, Option, None, Some, ℤ, pos, neg_ℤ, inl, inr, arith, refl, ap, sym, ◌∙◌, suc, zero}
use Rattle.std.specs.List.{list_any, list_all, position_or_len, before_first, after_first}
use Rattle.std.specs.Char.{is_ascii_digit}
use Rattle.std.proofs.lemmas.List.{take-replicate, take_all, append-nil, length-take, length-drop, drop_all}
use Rattle.std.proofs.lemmas.List.Sums.{fold-append}
use Rattle.std.proofs.lemmas.List.Folds.{list_all-append}
use Rattle.std.proofs.lemmas.Bool.{cases_lt, cond_both, or_parts, lt-ltb, le-leb, lt-leb, and_parts, leb-true, ne_eqb, eqb-true, or_from}
use Rattle.std.specs.Option.{option_map}
use Rattle.std.specs.Bool.{then_some}
use Rattle.terrain.specs.Words.{Word, is_separator}
use Rattle.terrain.specs.Decimal.{without_sign, is_negative, is_point, is_exponent_mark, mantissa, whole_part, fraction, has_exponent, are_digits, number_of, scaled_value}
use Rattle.std.proofs.Math.Nat.{pow-suc, pow-le-pow_right}
use Rattle.std.proofs.lemmas.Nat.{mul-le, pow-add}
use Rattle.decimals.specs.Plain.{IsPlain, IsPlainSize}

pub are_digits_joined : (a b : List ℕ) → 0 < length a →
    are_digits (a ++ b) ≡ (list_all is_ascii_digit a && list_all is_ascii_digit b)
are_digits_joined [] b h = absurd (omega arith)
are_digits_joined (x ∷ xs) b h = list_all-append is_ascii_digit (x ∷ xs) b

take-padded : (d k : ℕ) (xs : List ℕ) → d ≤ k →
    take d (xs ++ replicate k 48) ≡ take d xs ++ replicate (d - min d (length xs)) 48
take-padded zero k xs h =
    ap (λ (n : ℕ). replicate n 48) (let none : 0 ≡ 0 - min 0 (length xs) = omega arith in none)
take-padded (suc d) k [] h = take-replicate (suc d) k 48 h
    ∙ ap (λ (n : ℕ). replicate n 48) (let all : suc d ≡ suc d - min (suc d) 0 = omega arith in all)
take-padded (suc d) k (x ∷ xs) h =
    let left : d - min d (length xs) ≡ suc d - min (suc d) (suc (length xs)) = omega arith in
    ap (λ z. x ∷ z) (take-padded d k xs (omega arith))
    ∙ ap (λ n. x ∷ take d xs ++ replicate n 48) left

-- `a`, the first d digits of `xs`, and a 0 for each missing one spell a number. Two folds find it
-- from the number of `a`: the first over those digits of `xs`, the second over the zeros.
pub number_of-padded : (d : ℕ) (a xs : List ℕ) → number_of (a ++ take d (xs ++ replicate d 48))
    ≡ fold (λ n b. 10 * n + (b - 48)) (fold (λ n b. 10 * n + (b - 48)) (number_of a) (take d xs))
    (replicate (d - min d (length xs)) 48)
number_of-padded d a xs =
    ap (λ z. number_of (a ++ z)) (take-padded d d xs (omega arith))
    ∙ fold-append (λ n b. 10 * n + (b - 48)) 0 a (take d xs ++ replicate (d - min d (length xs)) 48)
    ∙ fold-append (λ n b. 10 * n + (b - 48)) (number_of a) (take d xs)
    (replicate (d - min d (length xs)) 48)

position-none : (p : ℕ → Bool) (xs : List ℕ) → list_any p xs ≡ false →
    position_or_len p xs ≡ length xs
position-none p [] h = refl
position-none p (x ∷ xs) h = let parts = or_parts (p x) (list_any p xs) h in
    rw parts.0 (omega (arith, position-none p xs parts.1))

pub before_first-none : (p : ℕ → Bool) (xs : List ℕ) → list_any p xs ≡ false →
    before_first p xs ≡ xs
before_first-none p xs h = ap (λ n. take n xs) (position-none p xs h)
    ∙ take_all (length xs) xs (omega arith)

pub after_first-none : (p : ℕ → Bool) (xs : List ℕ) → list_any p xs ≡ false → after_first p xs ≡ []
after_first-none p xs h = ap (λ n. drop (n + 1) xs) (position-none p xs h)
    ∙ drop_all (length xs + 1) xs (omega arith)

list_any-without_sign : (p : ℕ → Bool) (w : Word) → list_any p w ≡ false →
    list_any p (without_sign w) ≡ false
list_any-without_sign p [] h = refl
list_any-without_sign p (b ∷ bs) h =
    let parts = or_parts (p b) (list_any p bs) h in
    cond_both (b == 43 || b == 45) bs (b ∷ bs) (λ z. list_any p z ≡ false) (λ _. parts.1) (λ _. h)

mantissa-plain : (w : Word) → has_exponent w ≡ false → mantissa w ≡ without_sign w
mantissa-plain w h =
    before_first-none is_exponent_mark (without_sign w) (list_any-without_sign is_exponent_mark w h)

-- let a word without exponent have, after its sign, `a` before its point and `b` after it. If `a`
-- and `b` together are empty or have a byte other than a digit, the word has no scaled value.
pub scaled_value-not_digits : (d : ℕ) (w a b : Word) → has_exponent w ≡ false →
    a ≡ before_first is_point (without_sign w) → b ≡ after_first is_point (without_sign w) →
    are_digits (a ++ b) ≡ false → scaled_value d w ≡ None
scaled_value-not_digits d w a b h p q e =
    let m = mantissa-plain w h in
    let digits : are_digits (whole_part w ++ fraction w) ≡ false = rw (m, ← p, ← q) e in
    rw digits refl

option_map-cond : (t : Bool) (n : ℕ) (g : ℕ → ℤ) →
    cond t (Some (g n)) None ≡ option_map g (cond t (Some n) None)
option_map-cond true n g = refl
option_map-cond false n g = refl

-- A decimal text `w` without exponent has digits `a` before its point and `b` after it. Its scaled
-- value is `size` with the sign of `w`. `size` is the number that `a` and the first d digits of `b`
-- (0 for a missing one) spell; `None` if it is above 10^18, or a later digit of `b` is not 0.
pub scaled_value-digits : (d : ℕ) (w a b : Word) (size : Option ℕ) → has_exponent w ≡ false →
    a ≡ before_first is_point (without_sign w) → b ≡ after_first is_point (without_sign w) →
    are_digits (a ++ b) ≡ true → size ≡ cond (list_all (λ x. x == 48) (drop d b)
    && nat_le (number_of (a ++ take d (b ++ replicate d 48))) (10 ^ 18))
    (Some (number_of (a ++ take d (b ++ replicate d 48)))) None →
    scaled_value d w ≡ option_map (λ n. cond (is_negative w) (neg_ℤ (pos n)) (pos n)) size
scaled_value-digits d w a b size h p q e k =
    let m = mantissa-plain w h in
    let digits : are_digits (whole_part w ++ fraction w) ≡ true = rw (m, ← p, ← q) e in
    rw (k, digits, h, m, ← p, ← q)
    (option_map-cond _ _ (λ n. cond (is_negative w) (neg_ℤ (pos n)) (pos n)))

-- let `x` be true and `size` the lesser of n and 10^18 + 1. If `size` is below 10^18 + 1, it is n;
-- otherwise n is above 10^18.
pub size-kept : (x : Bool) (n size : ℕ) → x ≡ true → size ≡ min n 1000000000000000001 →
    then_some (nat_lt size 1000000000000000001) size ≡ cond (x && nat_le n (10 ^ 18)) (Some n) None
size-kept x n size h e =
    elim (cases_lt n 1000000000000000001) [
      | inl k ↦
          let same : size ≡ n = omega arith in
          let low : nat_le n (10 ^ 18) ≡ true = le-leb n (10 ^ 18) (omega arith) in
          rw (same, lt-ltb n 1000000000000000001 k, h, low) refl
      | inr k ↦
          let same : size ≡ 1000000000000000001 = omega arith in
          let high : nat_le n (10 ^ 18) ≡ false = lt-leb n (10 ^ 18) (omega arith) in
          rw (same, h, high) refl
    ]

abbrev pub IsFalseOnDigits : (ℕ → Bool) → Type 0
IsFalseOnDigits p = (b : ℕ) → 48 ≤ b → b ≤ 57 → p b ≡ false

pub digit_bounds : (b : ℕ) → is_ascii_digit b ≡ true → (48 ≤ b) × (b ≤ 57)
digit_bounds b h = let k = and_parts (nat_le 48 b) (nat_le b 57) h in
    (leb-true 48 b k.0, leb-true b 57 k.1)

pub any-digits : (p : ℕ → Bool) (xs : List ℕ) → IsFalseOnDigits p →
    list_all is_ascii_digit xs ≡ true → list_any p xs ≡ false
any-digits p [] none h = refl
any-digits p (x ∷ xs) none h =
    let k = and_parts (is_ascii_digit x) (list_all is_ascii_digit xs) h in
    let b = digit_bounds x k.0 in
    or_from (p x) (list_any p xs) (none x b.0 b.1) (any-digits p xs none k.1)

pub no_exponent : IsFalseOnDigits is_exponent_mark
no_exponent b low high = rw (ne_eqb b 101 (λ e. omega arith), ne_eqb b 69 (λ e. omega arith)) refl

pub no_point : IsFalseOnDigits is_point
no_point b low high = ne_eqb b 46 (λ e. omega arith)

pub no_separator : IsFalseOnDigits is_separator
no_separator b low high = rw (
  ne_eqb b 32 (λ e. omega arith),
  ne_eqb b 9 (λ e. omega arith),
  ne_eqb b 10 (λ e. omega arith),
  ne_eqb b 13 (λ e. omega arith),
) refl

fold-zeros : (n k : ℕ) → fold (λ n b. 10 * n + (b - 48)) n (replicate k 48) ≡ n * 10 ^ k
fold-zeros n zero = omega arith
fold-zeros n (suc k) = fold-zeros (10 * n + 0) k ∙ rw (pow-suc 10 k) (omega arith)

drop-none : (d : ℕ) → drop {A = ℕ} d [] ≡ []
drop-none d = drop_all d [] (omega arith)

scaled_digits : (d : ℕ) (xs : List ℕ) →
    number_of (xs ++ take d ([] ++ replicate d 48)) ≡ number_of xs * 10 ^ d
scaled_digits d xs =
    number_of-padded d xs []
    ∙ ap (λ z. fold (λ n b. 10 * n + (b - 48)) (fold (λ n b. 10 * n + (b - 48)) (number_of xs) z)
    (replicate (d - min d 0) 48)) (take_all d [] (omega arith))
    ∙ fold-zeros (number_of xs) (d - min d 0)
    ∙ ap (λ k. number_of xs * 10 ^ k) (omega arith)

pub scaled_value-plain : (d : ℕ) (w xs : List ℕ) → without_sign w ≡ xs → has_exponent w ≡ false →
    0 < length xs → list_all is_ascii_digit xs ≡ true → number_of xs * 10 ^ d ≤ 10 ^ 18 →
    scaled_value d w ≡ Some (cond (is_negative w) (neg_ℤ (pos (number_of xs * 10 ^ d)))
    (pos (number_of xs * 10 ^ d)))
scaled_value-plain d w xs bare plain some digits small =
    let no_marks = any-digits is_point xs no_point digits in
    let before : xs ≡ before_first is_point (without_sign w) =
    sym (ap (before_first is_point) bare ∙ before_first-none is_point xs no_marks) in
    let after : [] ≡ after_first is_point (without_sign w) =
    sym (ap (after_first is_point) bare ∙ after_first-none is_point xs no_marks) in
    scaled_value-digits d w xs [] (Some (number_of xs * 10 ^ d)) plain before after
    (are_digits_joined xs [] some ∙ rw digits refl)
    (rw (drop-none d, scaled_digits d xs, le-leb (number_of xs * 10 ^ d) (10 ^ 18) small) refl)

pub bare_digits : (xs rest : List ℕ) → 0 < length xs → list_all is_ascii_digit xs ≡ true →
    (without_sign (xs ++ rest) ≡ xs ++ rest) × (is_negative (xs ++ rest) ≡ false)
bare_digits [] rest h k = absurd (omega arith)
bare_digits (x ∷ xs) rest h k =
    let b = digit_bounds x (and_parts (is_ascii_digit x) (list_all is_ascii_digit xs) k).0 in (
      rw (ne_eqb x 43 (λ e. omega arith), ne_eqb x 45 (λ e. omega arith)) refl,
      ne_eqb x 45 (λ e. omega arith),
    )

-- the first bytes `w` of a text, an optional `-` and then the digits `xs`
record IsSigned (negative : Bool) (w xs : Word) : Type 0 where
  pub sign : is_negative w ≡ negative
  pub bare : without_sign w ≡ xs
  pub free : (p : ℕ → Bool) → IsFalseOnDigits p → p 45 ≡ false → list_any p w ≡ false

IsSigned-front : (bytes : List ℕ) (negative : Bool) (len : ℕ) → is_negative bytes ≡ negative →
    0 < length (take len (drop (cond negative 1 0) bytes)) →
    list_all is_ascii_digit (take len (drop (cond negative 1 0) bytes)) ≡ true →
    IsSigned negative (take (cond negative 1 0 + len) bytes)
    (take len (drop (cond negative 1 0) bytes))
IsSigned-front [] negative len sign some digits =
    let left = drop {A = ℕ} (cond negative 1 0) [] in
    absurd (omega (arith, some, length-take len left, length-drop {A = ℕ} (cond negative 1 0) []))
IsSigned-front (b ∷ bs) true len sign some digits =
    let more : 1 + len ≡ suc len = omega arith in rw (more, eqb-true b 45 sign) (record {
      sign = refl;
      bare = refl;
      free = λ p none minus. or_from (p 45) _ minus (any-digits p (take len bs) none digits);
    })
IsSigned-front (b ∷ bs) false len sign some digits =
    let bare = rw append-nil at (bare_digits (take len (b ∷ bs)) [] some digits) in
    let same : 0 + len ≡ len = omega arith in rw same (record {
      sign = bare.1;
      bare = bare.0;
      free = λ p none minus. any-digits p (take len (b ∷ bs)) none digits;
    })

-- if a text has a `-` or none, as `negative` says, and digits behind it spell `size`, it begins with
-- `size` and this sign
pub IsPlain-signed : (d : ℕ) (bytes rest : List ℕ) (negative : Bool) (n len size : ℕ) →
    is_negative bytes ≡ negative → rest ≡ drop (cond negative 1 0) bytes →
    n ≡ cond negative 1 0 + len → IsPlainSize d rest len size →
    IsPlain d bytes n (cond negative (neg_ℤ (pos size)) (pos size))
IsPlain-signed d bytes rest negative n len size is e at h =
    let xs = take len rest in
    let more : 0 < length xs = omega (arith, h.some, h.within, length-take len rest) in
    let front : IsSigned negative (take n bytes) xs =
    rw (at, e) (IsSigned-front bytes negative len is (rw e at more) (rw e at h.digits)) in
    let few = cond_both negative 1 0 (λ k. k ≤ 1) (λ _. omega arith) (λ _. omega arith) in
    record {
      some = omega (arith, h.some);
      short = omega (arith, at, few, h.short);
      within = omega (arith, at, h.some, h.within, ap length e, length-drop (cond negative 1 0) bytes);
      scaled = scaled_value-plain d (take n bytes) xs front.bare
          (front.free is_exponent_mark no_exponent refl) more h.digits
          (omega (arith, h.value, h.small)) ∙ rw (front.sign, h.value) refl;
      whole = front.free is_separator no_separator refl;
    }

pub tenfold_small : (n k : ℕ) → n < 10 ^ k → k ≤ 15 → 10 * n < 10 ^ 16
tenfold_small n k h few =
    omega (arith, h, pow-le-pow_right {n = 10} (omega arith) {i = k} {j = 15} few)

pub padded_small : (n len d power_of_ten : ℕ) → n < 10 ^ len → power_of_ten ≡ 10 ^ d →
    len + d ≤ 16 → n * power_of_ten ≤ 10 ^ 16
padded_small n len d power_of_ten h is few =
    let most : n * 10 ^ d ≤ 10 ^ len * 10 ^ d =
    mul-le n (10 ^ d) (10 ^ len) (10 ^ d) (omega (arith, h)) (omega arith) in
    let power = pow-le-pow_right {n = 10} (omega arith) {i = len + d} {j = 16} few in
    rw is (omega (arith, most, pow-add 10 len d, power))
