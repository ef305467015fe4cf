-- A decimal text has no separator and begins with no letter.
use Rattle.std.proofs.Common.{◌≡◌, ℕ, suc, ◌+◌, Bool, true, false, not, ◌&&◌, ◌||◌, ◌==◌, List, [], ◌∷◌, ◌++◌, length, get_or, sym, ap, refl, ◌∙◌, arith, inl, inr}
use Rattle.std.specs.List.{list_all, list_any, position_or_len, before_first, after_first}
use Rattle.std.specs.Char.{is_ascii_digit, is_ascii_alphabetic}
use Rattle.std.proofs.lemmas.Bool.{false≢true, cond-true, cond-false, cases_Bool, cases_lt, and_parts, or_cases, or_parts, or_from, not-true, eqb-true, lt-leb, false_from_ne_true}
use Rattle.std.proofs.lemmas.List.{append_assoc, length-append, take_at, drop_at, take_all}
use Rattle.std.proofs.lemmas.List.Folds.{list_all-append, list_any-append}
use Rattle.std.proofs.lemmas.List.Sums.{split_at_first, passes_at_first}
use Rattle.terrain.specs.Words.{is_separator, is_word}
use Rattle.terrain.specs.Decimal.{without_sign, is_point, is_exponent_mark, mantissa, whole_part, fraction, has_exponent, are_digits, is_decimal}
use Rattle.ascii_grid.specs.Header.{begins_with_letter}
use Rattle.decimals.proofs.Scaled.{IsFalseOnDigits, no_separator, any-digits, after_first-none}
use Rattle.ascii_grid.proofs.Parting.{IsClean}

abbrev pub is_sign : ℕ → Bool
is_sign b = b == 43 || b == 45

-- a test that is false for digits, signs, the point and the exponent marks
record IsFalseOnDecimalBytes (q : ℕ → Bool) : Type 0 where
  digits : IsFalseOnDigits q
  plus : q 43 ≡ false
  minus : q 45 ≡ false
  point : q 46 ≡ false
  mark : q 101 ≡ false
  capital : q 69 ≡ false

position-at : (p : ℕ → Bool) (xs ys : List ℕ) {y : ℕ} → list_any p xs ≡ false → p y ≡ true →
    position_or_len p (xs ++ y ∷ ys) ≡ length xs
position-at p [] ys h k = rw k
position-at p (x ∷ xs) ys {y} h k = let parts = or_parts _ (list_any p xs) h in
    rw parts.0 (omega (arith, position-at p xs ys parts.1 k))

module _ (p : ℕ → Bool) (xs ys : List ℕ) (y : ℕ) where
  pub before_first-at : list_any p xs ≡ false → p y ≡ true → before_first p (xs ++ y ∷ ys) ≡ xs
  before_first-at h k = rw position-at (take_at xs _ _ refl)

  pub after_first-at : list_any p xs ≡ false → p y ≡ true → after_first p (xs ++ y ∷ ys) ≡ ys
  after_first-at h k =
      rw (position-at p xs ys h k)
      (rw (← append_assoc xs (y ∷ []) ys) (drop_at (xs ++ y ∷ []) ys (length xs + 1) (length-append xs (y ∷ []))))

after_first-step : (p : ℕ → Bool) (b : ℕ) (bs : List ℕ) → p b ≡ false → after_first p (b ∷ bs) ≡ after_first p bs
after_first-step p b bs h =
    let e : position_or_len p (b ∷ bs) + 1 ≡ suc (position_or_len p bs + 1) = rw h (omega arith) in
    rw e refl

list_any-around : (p q : ℕ → Bool) → ((b : ℕ) → p b ≡ true → q b ≡ false) → (xs : List ℕ) →
    list_any q (before_first p xs) ≡ false → list_any q (after_first p xs) ≡ false → list_any q xs ≡ false
list_any-around p q w xs h k =
    elim (cases_lt _ _) [
      | inl found ↦
          rw (split_at_first p xs 0 found)
          (list_any-append q _ (get_or xs (position_or_len p xs) 0 ∷ after_first p xs) ∙
          or_from _ _ h (or_from _ _ (w _ (passes_at_first p xs 0 found)) k))
      | inr none ↦ rw (← take_all _ xs none) h
    ]

one_of : (P : ℕ → Type 0) (b m n : ℕ) → (b == m || b == n) ≡ true → P m → P n → P b
one_of P b m n h x y = elim (or_cases _ _ h) [
  | inl e ↦ rw (← eqb-true b m e) at x
  | inr e ↦ rw (← eqb-true b n e) at y
]

signed_bytes : {q : ℕ → Bool} → IsFalseOnDecimalBytes q → (w : List ℕ) → list_any q (without_sign w) ≡ false →
    list_any q w ≡ false
signed_bytes none [] h = refl
signed_bytes {q} none (b ∷ bs) h = elim (cases_Bool _) [
  | inl s ↦ or_from _ _ (one_of (λ c. q c ≡ false) b 43 45 s none.plus none.minus)
      (rw (← cond-true (is_sign b) bs (b ∷ bs) s) h)
  | inr n ↦ ap (list_any q) (sym (cond-false (is_sign b) bs (b ∷ bs) n)) ∙ h
]

exponent_of_unsigned : (w : List ℕ) → after_first is_exponent_mark (without_sign w) ≡ after_first is_exponent_mark w
exponent_of_unsigned [] = refl
exponent_of_unsigned (b ∷ bs) = elim (cases_Bool _) [
  | inl s ↦ rw (cond-true (is_sign b) bs (b ∷ bs) s)
      (sym (after_first-step is_exponent_mark b bs (one_of (λ c. is_exponent_mark c ≡ false) b 43 45 s refl refl)))
  | inr n ↦ rw cond-false refl
]

digits_all : (bs : List ℕ) → are_digits bs ≡ true → list_all is_ascii_digit bs ≡ true
digits_all bs h = (and_parts _ _ h).1

module _ (q : ℕ → Bool) where
  -- if the word `w` has no exponent, or one of digits with or without a sign, no byte of the exponent
  -- passes `q`
  exponent_bytes : IsFalseOnDecimalBytes q → (w : List ℕ) →
      (not (has_exponent w) || are_digits (without_sign (after_first is_exponent_mark w))) ≡ true →
      list_any q (after_first is_exponent_mark w) ≡ false
  exponent_bytes none w h = elim (or_cases _ _ h) [
    | inl n ↦ rw (after_first-none is_exponent_mark w (not-true _ n)) refl
    | inr d ↦ signed_bytes none _
        (any-digits q _ none.digits (digits_all (without_sign (after_first is_exponent_mark w)) d))
  ]

  mantissa_bytes : IsFalseOnDecimalBytes q → (w : List ℕ) → are_digits (whole_part w ++ fraction w) ≡ true →
      list_any q (mantissa w) ≡ false
  mantissa_bytes none w h =
      let all =
      sym (list_all-append is_ascii_digit (whole_part w) (fraction w)) ∙
      digits_all (whole_part w ++ fraction w) h in
      let parts = and_parts _ _ all in
      list_any-around is_point q (λ b e. rw (← eqb-true b 46 e) at none.point) _ (any-digits q _ none.digits parts.0)
      (any-digits q _ none.digits parts.1)

  decimal_bytes : IsFalseOnDecimalBytes q → (w : List ℕ) → is_decimal w ≡ true → list_any q w ≡ false
  decimal_bytes none w h =
      let parts = and_parts _ _ h in
      signed_bytes none w (list_any-around is_exponent_mark q
      (λ b e. one_of (λ c. q c ≡ false) b 101 69 e none.mark none.capital) _ (mantissa_bytes none w parts.0)
      (ap (list_any q) (exponent_of_unsigned w) ∙ exponent_bytes none w parts.1))

no_separators : IsFalseOnDecimalBytes is_separator
no_separators = record {
  digits = no_separator;
  plus = refl;
  minus = refl;
  point = refl;
  mark = refl;
  capital = refl;
}

pub decimal_clean : (w : List ℕ) → is_decimal w ≡ true → IsClean w
decimal_clean [] h = absurd (false≢true h)
decimal_clean (b ∷ bs) h =
    record { some = refl; plain = decimal_bytes is_separator no_separators (b ∷ bs) h }

pub digits_clean : (bs : List ℕ) → is_word bs ≡ true → list_all is_ascii_digit bs ≡ true → IsClean bs
digits_clean bs h k = record { some = h; plain = any-digits is_separator bs no_separator k }

-- a letter that is no exponent mark; no decimal text has one
is_other_letter : ℕ → Bool
is_other_letter b = is_ascii_alphabetic b && not (is_exponent_mark b)

no_other_letters : IsFalseOnDecimalBytes is_other_letter
unfolding is_other_letter
no_other_letters = record {
  digits = λ b low high. rw (lt-leb 65 b (omega arith), lt-leb 97 b (omega arith));
  plus = refl;
  minus = refl;
  point = refl;
  mark = refl;
  capital = refl;
}

module _ (b : ℕ) (bs : List ℕ) where
  marked_mantissa : is_exponent_mark b ≡ true → mantissa (b ∷ bs) ≡ []
  marked_mantissa h =
      rw (cond-false (is_sign b) bs (b ∷ bs) (one_of (λ c. is_sign c ≡ false) b 101 69 h refl refl))
      (before_first-at is_exponent_mark _ bs b refl h)

  not_marked : is_decimal (b ∷ bs) ≡ true → is_exponent_mark b ≡ true → ⊥
  not_marked h k =
      let parts = and_parts _ _ h in
      false≢true
      (sym (ap (λ m. are_digits (before_first is_point m ++ after_first is_point m)) (marked_mantissa k)) ∙ parts.0)

pub decimal_begins : (w : List ℕ) → is_decimal w ≡ true → begins_with_letter w ≡ false
unfolding is_other_letter
decimal_begins [] h = refl
decimal_begins (b ∷ bs) h =
    false_from_ne_true (is_ascii_alphabetic b) (λ letter. elim (cases_Bool (is_exponent_mark b)) [
      | inl mark ↦ not_marked b bs h mark
      | inr other ↦
          let none =
          (or_parts (is_other_letter b) (list_any is_other_letter bs)
          (decimal_bytes is_other_letter no_other_letters (b ∷ bs) h)).0 in
          let clash : is_other_letter b ≡ true = rw (letter, other) refl in
          absurd (cc)
    ])
