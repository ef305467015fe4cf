-- A property of each of the nine codes holds for each number that `IsCode` allows. The direction
-- of a code other than 0 is the number of its trailing zeros, which is below 8.
use Rattle.std.proofs.Common.{◌≡◌, ◌≢◌, ℕ, ◌<◌, List, [], ◌∷◌, true, inl, inr, Some, subst, sym, refl, ◌==◌, lit<}
use Rattle.std.proofs.lemmas.Bool.{or_cases, eqb-true}
use Rattle.std.specs.List.{list_any}
use lib.Count.{count_trailing_zeros}
use Rattle.terrain.specs.Ways.{way_codes, way_of}
use Rattle.drainage.specs.CodeNumber.{IsCode}

abbrev pub Each : (ℕ → Type 0) → List ℕ → Type 0
Each P [] = Unit {0}
Each P (x ∷ xs) = P x × Each P xs

of_list : (P : ℕ → Type 0) (xs : List ℕ) → Each P xs → (n : ℕ) → list_any (λ c. c == n) xs ≡ true →
    P n
of_list P [] each n any = cc
of_list P (x ∷ xs) each n any = elim (or_cases _ _ any) [
  | inl e ↦ subst P (eqb-true _ _ e) each.0
  | inr rest ↦ of_list P xs each.1 n rest
]

cases_code : (P : ℕ → Type 0) → P 0 → Each P way_codes → (n : ℕ) → IsCode n → P n
cases_code P zero each n is = elim (or_cases _ _ is) [
  | inl e ↦
      subst P (sym (eqb-true n 0 e)) zero
  | inr any ↦ of_list P way_codes each n any
]

pub way_by_zeros : (n : ℕ) → IsCode n → n ≢ 0 → (way_of n ≡ Some (count_trailing_zeros 8 n))
    × (count_trailing_zeros 8 n < 8)
unfolding count_trailing_zeros
way_by_zeros = cases_code (λ n. n ≢ 0 → (way_of n ≡ Some (count_trailing_zeros 8 n))
    × (count_trailing_zeros 8 n < 8)) (λ some. absurd (some refl)) (
      (λ _. (refl, lit< tt)),
      (
        (λ _. (refl, lit< tt)),
        (
          (λ _. (refl, lit< tt)),
          (
            (λ _. (refl, lit< tt)),
            (
              (λ _. (refl, lit< tt)),
              ((λ _. (refl, lit< tt)), ((λ _. (refl, lit< tt)), ((λ _. (refl, lit< tt)), tt))),
            ),
          ),
        ),
      ),
    )
