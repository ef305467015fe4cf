-- A key word fills one slot of the header and no other.
use Rattle.std.proofs.Common.{◌≡◌, Bool, true, false, List, [], ◌∷◌, Option, Some, refl, ap, sym, ◌∙◌, inl, inr}
use Rattle.std.specs.Prelude.{find}
use Rattle.std.specs.List.{list_any}
use Rattle.std.specs.Str.{bytes_eq}
use Rattle.std.proofs.lemmas.Bool.{cases_Bool}
use Rattle.std.proofs.lemmas.Option.{same_Some}
use Rattle.std.proofs.lemmas.Slice.Eq.{bytes_eq-Decides}
use Rattle.terrain.specs.Words.{Word}
use Rattle.ascii_grid.specs.Header.{all_slots, keys_of, fills, slot_of}
use Rattle.ascii_grid.specs.declared.fault.Key.{Key}
use Rattle.ascii_grid.specs.declared.fault.Key.TheVariants.{Xll, Yll}

-- the slot of a word without capital letters; `None` for other words
abbrev slot_at : Word → Option Key
slot_at w = find (λ slot. list_any (λ key. bytes_eq key w) (keys_of slot)) all_slots

abbrev AreOf : Key → List Word → Type 0
AreOf slot [] = Unit {0}
AreOf slot (key ∷ keys) = (slot_at key ≡ Some slot) × AreOf slot keys

keys_are : (slot : Key) → AreOf slot (keys_of slot)
keys_are Xll = (refl, (refl, tt))
keys_are Yll = (refl, (refl, tt))
keys_are slot = (refl, tt)

among : {slot : Key} (keys : List Word) (w : Word) → AreOf slot keys → list_any (λ key. bytes_eq key w) keys ≡ true →
    slot_at w ≡ Some slot
among [] w are any = cc
among {slot} (key ∷ keys) w are any =
    elim (cases_Bool _) [
      | inl here ↦ ap slot_at (sym ((bytes_eq-Decides key w).0 here)) ∙ are.0
      | inr apart ↦ among keys w are.1 (rw apart at any)
    ]

pub slot_filled : (w : Word) (slot : Key) → fills slot w ≡ true → slot_of w ≡ Some slot
slot_filled w slot h = among _ _ (keys_are slot) h

passes : (t : Key → Bool) (slots : List Key) {slot : Key} → find t slots ≡ Some slot → t slot ≡ true
passes t [] h = cc
passes t (s ∷ slots) {slot} h =
    elim (cases_Bool (t s)) [
      | inl here ↦ rw (sym (same_Some s slot (rw here at h))) here
      | inr apart ↦ passes t slots (rw apart at h)
    ]

module _ (w : Word) (slot : Key) where
  pub fills_slot : slot_of w ≡ Some slot → fills slot w ≡ true
  fills_slot h = passes (λ s. fills s w) all_slots h

  pub fills_none_else : (s : Key) → slot_of w ≡ Some slot → (s ≡ slot → ⊥) → fills s w ≡ false
  fills_none_else s h other =
      elim (cases_Bool _) [
        | inl here ↦ absurd (other (same_Some s slot (sym (slot_filled w s here) ∙ h)))
        | inr apart ↦ apart
      ]
