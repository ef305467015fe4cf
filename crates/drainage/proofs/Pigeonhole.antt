-- At most n different numbers are below n.
use Rattle.std.proofs.Common.{◌≡◌, ◌≢◌, ℕ, ◌<◌, ◌≤◌, true, eqb, List, map, get_or, sym, ◌∙◌, arith}
use Rattle.std.specs.List.{range_with_len, list_any}
use Rattle.std.specs.Cmp.{nat_eq_equiv}
use Rattle.std.proofs.lemmas.Bool.{ne_eqb, eq-eqb, eqb-true}
use Rattle.std.proofs.lemmas.List.Folds.{list_any_at}
use Rattle.std.proofs.lemmas.List.FromFn.{length-range_with_len, get_or-range_with_len, length-map-range_with_len, get_or-map-range_with_len}
use Rattle.std.proofs.lemmas.Map.Keys.{IsDistinct-from_apart}
use Rattle.std.proofs.lemmas.Map.Made.{length-le_from_is_member}
use Rattle.std.proofs.lemmas.Map.Views.{Contains-from_any}

pub pigeonhole : (n m : ℕ) (f : ℕ → ℕ) → ((i : ℕ) → i < m → f i < n) →
    ((i j : ℕ) → i < j → j < m → f i ≢ f j) → m ≤ n
pigeonhole n m f below apart =
    let values : List ℕ = map f (range_with_len 0 m) in
    let size = length-map-range_with_len f 0 m in
    let value : (i d : ℕ) → i < m → get_or values i d ≡ f i =
    λ i d h. get_or-map-range_with_len f 0 m i i d h (omega arith) in
    let found : (q : ℕ) → list_any (eqb q) values ≡ true →
    list_any (eqb q) (range_with_len 0 n) ≡ true = λ q any.
    let at = Contains-from_any eqb-true q values any in
    let low : q < n = let is = value at.0 q (omega (arith, at.1)) in
    omega (arith, below at.0 (omega (arith, at.1)), at.2) in
    let here : get_or (range_with_len 0 n) q 0 ≡ q = get_or-range_with_len 0 n q 0 low
    ∙ omega arith in
    list_any_at (eqb q) (range_with_len 0 n) q 0 (omega (arith, length-range_with_len 0 n))
    (eq-eqb q _ (sym here)) in
    omega (
      arith,
      size,
      length-range_with_len 0 n,
      length-le_from_is_member nat_eq_equiv values (range_with_len 0 n)
          (IsDistinct-from_apart eqb values
          (λ i j d h l. ne_eqb _ _ (λ same. apart i j h (omega (arith, size))
          (sym (value i d (omega (arith, size))) ∙ same ∙ value j d (omega (arith, size)))))) found,
    )
