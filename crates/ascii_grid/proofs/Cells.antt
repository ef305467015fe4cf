-- A word with a scaled value is NODATA exactly if the NODATA word has that value too. If the value
-- is another height, the word means a cell of that height.
use Rattle.std.proofs.Common.{◌≡◌, ℕ, Bool, Option, true, false, cond, None, Some, ℤ, refl, ap, sym, ◌∙◌, inl, inr}
use Rattle.std.proofs.lemmas.Bool.{cases_Bool}
use Rattle.std.proofs.lemmas.Bool.Decides.{Decides-int_eq}
use Rattle.std.proofs.lemmas.Slice.Eq.{bytes_eq-Decides}
use Rattle.terrain.specs.Raster.{is_height}
use Rattle.terrain.specs.Words.{Word}
use Rattle.terrain.specs.Decimal.{scaled_value}
use Rattle.ascii_grid.specs.GridText.{same_value, is_nodata, is_cell, spelled_cell}
use Rattle.ascii_grid.specs.Meaning.{meaning_of}
use Rattle.ascii_grid.specs.declared.cell.Meaning.TheVariants.{Cell, Nothing}

module _ (d : ℕ) (nodata w : Word) (z : ℤ) where
  pub nodata_by_value : scaled_value d w ≡ Some z → is_nodata d nodata w ≡ same_value (Some z) (scaled_value d nodata)
  nodata_by_value e =
      elim (cases_Bool _) [
        | inl equal ↦
            let value = ap (scaled_value d) (sym ((bytes_eq-Decides w nodata).0 equal)) ∙ e in
            let reflexive = (Decides-int_eq z z).1 refl in
            let left : is_nodata d nodata w ≡ true = rw equal in
            left ∙ sym (rw value reflexive)
        | inr other ↦ rw (other, e)
      ]

  -- a word whose scaled value is NODATA's value means a cell without data
  pub meaning_of_nodata : scaled_value d w ≡ Some z → same_value (Some z) (scaled_value d nodata) ≡ true →
      Cell None ≡ meaning_of d nodata w
  meaning_of_nodata e same =
      let is = nodata_by_value e ∙ same in
      rw is refl

  -- a word whose scaled value is a height other than NODATA's value means a cell of that height
  pub meaning_of_height : scaled_value d w ≡ Some z → same_value (Some z) (scaled_value d nodata) ≡ false →
      is_height z ≡ true → Cell (Some z) ≡ meaning_of d nodata w
  meaning_of_height e other high =
      let is = nodata_by_value e ∙ other in
      let cell : is_cell d nodata w ≡ true = rw (is, e) high in
      let value : spelled_cell d nodata w ≡ Some z = rw (is, e) in
      rw (cell, value)

pub meaning_cell : (b : Bool) (c cell : Option ℤ) → cond b (Cell c) Nothing ≡ Cell cell → (b ≡ true) × (c ≡ cell)
meaning_cell true c cell e = (refl, cc)
meaning_cell false c cell e = cc

pub meaning_nothing : (b : Bool) (c : Option ℤ) → cond b (Cell c) Nothing ≡ Nothing → b ≡ false
meaning_nothing true c e = cc
meaning_nothing false c e = refl
