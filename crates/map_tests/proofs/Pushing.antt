-- A list with an item appended is longer by 1. If `P` holds of each item of a list with its
-- index, and of an appended item, `P` holds of each item of the longer list.
use Rattle.std.proofs.Common.{◌≡◌, ℕ, ◌+◌, inl, inr, List, [], ◌∷◌, ◌++◌, length, Some, slice_get, subst, sym, ap, ◌∙◌, arith}
use Rattle.std.proofs.lemmas.Bool.{cases_lt}
use Rattle.std.proofs.lemmas.Option.{slice_get_within}
use Rattle.std.proofs.lemmas.List.{length-append}
use Rattle.tiles.proofs.SliceGet.{slice_get-append_left, slice_get-append_right}

pub pushed_size : {X : Type 0} (xs new : List X) (x : X) (n : ℕ) → new ≡ xs ++ x ∷ [] →
    length xs ≡ n → length new ≡ n + 1
pushed_size xs new x n pushed size = ap length pushed ∙ length-append xs (x ∷ [])
    ∙ omega (arith, size)

some_is : {X : Type 0} (x y : X) → Some x ≡ Some y → x ≡ y
some_is x y e = cc

pub each_more : {X : Type 0} (P : ℕ → X → Type 0) (xs new : List X) (x : X) (n : ℕ) →
    new ≡ xs ++ x ∷ [] → length xs ≡ n →
    ((k : ℕ) (y : X) → slice_get xs k ≡ Some y → P k y) → P n x → (k : ℕ) (y : X) →
    slice_get new k ≡ Some y → P k y
each_more {X} P xs new x n pushed size each last k y e =
    let there : slice_get (xs ++ x ∷ []) k ≡ Some y = sym (ap (λ ys. slice_get ys k) pushed) ∙ e in
    elim (cases_lt k (length xs)) [
      | inl l ↦ each k y (sym (slice_get-append_left xs (x ∷ []) k l) ∙ there)
      | inr g ↦ (let within = slice_get_within (xs ++ x ∷ []) k y there in
          let at : k ≡ n = omega (arith, within, length-append xs (x ∷ []), size) in
          let one : slice_get (xs ++ x ∷ []) k ≡ Some x =
          slice_get-append_right xs (x ∷ []) k 0 (omega (arith, at, size)) in
          let same : x ≡ y = some_is x y (sym one ∙ there) in
          subst (λ (z : X). P k z) same (subst (λ (m : ℕ). P m x) (sym at) last))
    ]
