-- A height, or a count below the number that stores no count, is read back from its stored number
-- unchanged. Different numbers store different cells.
use Rattle.std.proofs.Common.{◌≡◌, ◌≤ℤ◌, ◌<◌, ℕ, ℤ, inl, inr, Option, Some, false, unwrap_or, ap, sym, ◌∙◌, arith}
use Rattle.std.proofs.lemmas.Int.{ints}
use Rattle.terrain.specs.Raster.{highest}
use Rattle.std.specs.Ordering.{int_eq}
use Rattle.std.proofs.lemmas.Bool.{cases_Bool, cond-true, cond-false, lt-ltb}
use Rattle.std.proofs.lemmas.Bool.Decides.{Decides-int_eq}
use Rattle.terrain.specs.StoredCells.{stored_cell, no_data, stored_count}
use Rattle.terrain.proofs.cell.Cell.TheLaws.{the_inverse_ok}

pub stored_inverse : (z : ℤ) → unwrap_or (stored_cell z) no_data ≡ z
stored_inverse z = ap (λ c. c.stored) (the_inverse_ok (record { stored = z }) tt)

pub stored_injective : (y z : ℤ) → stored_cell y ≡ stored_cell z → y ≡ z
stored_injective y z same = sym (stored_inverse y) ∙ ap (λ (o : Option ℤ). unwrap_or o no_data) same
    ∙ stored_inverse z

pub stored_some : (z : ℤ) → z ≤ℤ highest → stored_cell z ≡ Some z
stored_some z low =
    let other : int_eq z no_data ≡ false = elim (cases_Bool (int_eq z no_data)) [
      | inl same ↦
          (let is = (Decides-int_eq z no_data).0 same in absurd (omega (arith, ints, low, is)))
      | inr other ↦ other
    ] in
    cond-false _ _ _ other

pub stored_count_some : (none n : ℕ) → n < none → stored_count none n ≡ Some n
stored_count_some none n less = cond-true _ _ _ (lt-ltb _ _ less)
