-- The greatest number of a list is its `fold max 0`, and the first element that passes a test is at
-- its `position`.
use Rattle.std.proofs.Common.{◌≡◌, ℕ, zero, suc, ◌<◌, ◌≤◌, ◌⊎◌, max, Bool, true, false, List, [], ◌∷◌, length, get_or, fold, Some, inl, inr, sym, refl, ◌∙◌, arith}
use Rattle.std.proofs.lemmas.Bool.{cases_lt, false≢true, lt-ltb, cond-true, or_from}
use Rattle.std.specs.List.{position, position_or_len, list_any}
use Rattle.std.proofs.lemmas.List.Sums.{position_or_len_is, fails_before_first}

pub fold-max_least : (xs : List ℕ) (a m : ℕ) → a ≤ m →
    ((k : ℕ) → k < length xs → get_or xs k 0 ≤ m) → fold max a xs ≤ m
fold-max_least [] a m le all = le
fold-max_least (x ∷ xs) a m le all =
    let x_le : x ≤ m = all 0 (omega arith) in
    fold-max_least xs (max a x) m (omega arith) (λ k h. all (suc k) (omega arith))

-- the first index whose element passes the test is the `position`
pub position_is : {X : Type 0} (p : X → Bool) (xs : List X) (i : ℕ) (d : X) →
    i < length xs → ((k : ℕ) → k < i → p (get_or xs k d) ≡ false) → p (get_or xs i d) ≡ true →
    position p xs ≡ Some i
position_is p xs i d within before here =
    let at : position_or_len p xs ≡ i =
    position_or_len_is p xs i d (omega arith) before (λ _. here) in
    rw at (cond-true _ _ _ (lt-ltb _ _ within))

pub le-fold_max : (xs : List ℕ) (a k : ℕ) → (a ≤ fold max a xs)
    × (k < length xs → get_or xs k 0 ≤ fold max a xs)
le-fold_max [] a k = (omega arith, λ h. absurd (omega arith))
le-fold_max (x ∷ xs) a zero =
    let rest = le-fold_max xs (max a x) 0 in
    let low : max a x ≤ fold max (max a x) xs = rest.0 in
    (omega arith, λ h. omega arith)
le-fold_max (x ∷ xs) a (suc k) =
    let rest = le-fold_max xs (max a x) k in
    let low : max a x ≤ fold max (max a x) xs = rest.0 in
    (omega arith, λ h. rest.1 (omega arith))

-- the fold is the first number or one of the list
pub fold_attained : (xs : List ℕ) (a : ℕ) → (fold max a xs ≡ a)
    ⊎ ((k : ℕ) × (k < length xs) × (get_or xs k 0 ≡ fold max a xs))
fold_attained [] a = inl refl
fold_attained (x ∷ xs) a = elim (fold_attained xs (max a x)) [
  | inl e ↦ elim (cases_lt a x) [
    | inl more ↦ inr (0, omega arith, omega (arith, e, more))
    | inr le ↦ inl (omega (arith, e, le))
  ]
  | inr at ↦ inr (suc at.0, omega (arith, at.1), at.2)
]

pub none_passes : {X : Type 0} (p : X → Bool) (xs : List X) (d : X) →
    ((k : ℕ) → k < length xs → p (get_or xs k d) ≡ false) → list_any p xs ≡ false
none_passes p [] d h = refl
none_passes p (x ∷ xs) d h =
    or_from _ _ (h 0 (omega arith)) (none_passes p xs d (λ k lt. h (suc k) (omega arith)))

pub first_passes : {X : Type 0} (p : X → Bool) (xs : List X) (d : X) → list_any p xs ≡ true →
    (i : ℕ) × (position p xs ≡ Some i)
first_passes p xs d some = elim (cases_lt (position_or_len p xs) (length xs)) [
  | inl within ↦ (position_or_len p xs, cond-true _ _ _ (lt-ltb _ _ within))
  | inr past ↦ absurd (false≢true
      (sym (none_passes p xs d (λ k h. fails_before_first p xs k d (omega arith))) ∙ some))
]
