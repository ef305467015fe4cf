-- Heights stored as numbers with flags: the number `lack` means no height unless it is flagged.
use Rattle.terrain.proofs.Options.{none_some}
use Rattle.std.proofs.Common.{◌≡◌, ℕ, zero, suc, ◌≤ℤ◌, ℤ, Bool, true, false, List, [], ◌∷◌, length, get_or, map, set, replicate, T, Option, None, Some, is_some, ◌∙◌, sym, ap, refl, arith, inl, inr, subst}
use Rattle.std.specs.Int.Signed.{le_z}
use Rattle.std.proofs.lemmas.Float.{T_from_true}
use Rattle.std.proofs.lemmas.Option.{same_Some}
use Rattle.std.specs.Ordering.{int_eq}
use Rattle.std.proofs.lemmas.Bool.{cases_Bool, cond-true, cond-false}
use Rattle.std.proofs.lemmas.Bool.Decides.{Decides-int_eq}
use Rattle.floods.specs.Notes.{noted, heights_where, height_or_lack, lack}

pub length-where : (flags : List Bool) (heights : List ℤ) → length flags ≡ length heights →
    length (heights_where flags heights) ≡ length heights
length-where [] [] e = refl
length-where [] (h ∷ heights) e = e
length-where (m ∷ flags) [] e = absurd (omega arith)
length-where (m ∷ flags) (h ∷ heights) e = ap suc (length-where flags heights (omega (arith, e)))

pub where-at : (flags : List Bool) (heights : List ℤ) (i : ℕ) → length flags ≡ length heights →
    get_or (heights_where flags heights) i None ≡ noted (get_or flags i false) (get_or heights i lack)
where-at [] [] i e = refl
where-at [] (h ∷ heights) i e = absurd (omega arith)
where-at (m ∷ flags) [] i e = absurd (omega arith)
where-at (m ∷ flags) (h ∷ heights) zero e = refl
where-at (m ∷ flags) (h ∷ heights) (suc i) e = where-at flags heights i (omega arith)

module _ (h : ℤ) where
  pub noted_flagged : {m : Bool} → m ≡ true → noted m h ≡ Some h
  noted_flagged is = cond-true _ _ _ is

  pub noted_other : (m : Bool) → int_eq h lack ≡ false → noted m h ≡ Some h
  noted_other true other = refl
  noted_other false other = cond-false _ _ _ other

  pub noted_none : {m : Bool} → int_eq h lack ≡ true → m ≡ false → noted m h ≡ None
  noted_none lacks none = cond-false _ _ _ none ∙ cond-true _ _ _ lacks

  pub flagged_there : (m : Bool) → int_eq h lack ≡ true → is_some (noted m h) ≡ true → m ≡ true
  flagged_there true lacks some = refl
  flagged_there false lacks some = cc (noted_none lacks refl)

  pub where-flagged : (flags : List Bool) (heights : List ℤ) (i : ℕ) → length flags ≡ length heights →
      heights_where (set flags i true) (set heights i h) ≡ set (heights_where flags heights) i (Some h)
  where-flagged [] heights i e = refl
  where-flagged (m ∷ flags) [] i e = absurd (omega arith)
  where-flagged (m ∷ flags) (x ∷ heights) zero e = refl
  where-flagged (m ∷ flags) (x ∷ heights) (suc i) e = cc (where-flagged flags heights i (omega (arith, e)))

  pub where-set : (flags : List Bool) (heights : List ℤ) (i : ℕ) → length flags ≡ length heights →
      int_eq h lack ≡ false → heights_where flags (set heights i h) ≡ set (heights_where flags heights) i (Some h)
  where-set [] [] i e other = refl
  where-set [] (x ∷ heights) i e other = absurd (omega arith)
  where-set (m ∷ flags) [] i e other = absurd (omega arith)
  where-set (m ∷ flags) (x ∷ heights) zero e other = ap (λ z. z ∷ heights_where flags heights) (noted_other m other)
  where-set (m ∷ flags) (x ∷ heights) (suc i) e other = cc (where-set flags heights i (omega (arith, e)) other)

pub where-lacking : (n : ℕ) → heights_where (replicate n false) (replicate n lack) ≡ replicate n None
where-lacking zero = refl
where-lacking (suc n) = cc (where-lacking n)

true_from : (b : Bool) → T b → b ≡ true
true_from true h = refl
true_from false h = absurd h

pub is_low : (a b : ℤ) → le_z a b ≡ true → a ≤ℤ b
is_low a b e = record { le = T_from_true _ e }

pub low_is : (a b : ℤ) → a ≤ℤ b → le_z a b ≡ true
low_is a b h = true_from _ h.le

from_noted : (m : Bool) (height x : ℤ) → noted m height ≡ Some x → height ≡ x
from_noted true height x e = same_Some height x e
from_noted false height x e = elim (cases_Bool (int_eq height lack)) [
  | inl lacks ↦ none_some _ x (cond-true _ _ _ lacks) e
  | inr other ↦ same_Some height x (sym (cond-false _ _ _ other) ∙ e)
]

module _ (flags : List Bool) (heights : List ℤ) {seen : List (Option ℤ)} (i : ℕ) (h : ℤ)
    (size : length flags ≡ length heights) (view : heights_where flags heights ≡ seen) where
  -- `seen` is the list of heights that flags and numbers store. If the number at index i stores a
  -- height of at most h, entry i of `seen` is a height of at most h.
  pub no_higher : noted (get_or flags i false) (get_or heights i lack) ≡ Some (get_or heights i lack) →
      get_or heights i lack ≤ℤ h → (x : ℤ) × (get_or seen i None ≡ Some x) × (x ≤ℤ h)
  no_higher is low = (get_or heights i lack, cc (where-at flags heights i size), low)

  pub no_higher_is : (x : ℤ) × (get_or seen i None ≡ Some x) × (x ≤ℤ h) →
      (is_some (noted (get_or flags i false) (get_or heights i lack)) ≡ true) × (get_or heights i lack ≤ℤ h)
  no_higher_is s =
      let here = sym (where-at flags heights i size) ∙ ap (λ l. get_or l i None) view ∙ s.1 in
      (ap is_some here, subst (λ z. z ≤ℤ h) (sym (from_noted _ _ _ here)) s.2)

stored_number : (m : Bool) (h : ℤ) → h ≡ height_or_lack (noted m h)
stored_number true h = refl
stored_number false h = elim (cases_Bool _) [
  | inl lacks ↦ cc ((Decides-int_eq h lack).0 lacks, cond-true _ _ _ lacks)
  | inr other ↦ cc (cond-false _ _ _ other)
]

pub stored_numbers : (flags : List Bool) (heights : List ℤ) → length flags ≡ length heights →
    heights ≡ map height_or_lack (heights_where flags heights)
stored_numbers [] [] e = refl
stored_numbers [] (h ∷ heights) e = absurd (omega arith)
stored_numbers (m ∷ flags) [] e = absurd (omega arith)
stored_numbers (m ∷ flags) (h ∷ heights) e = cc (stored_number m h, stored_numbers flags heights (omega (arith, e)))
