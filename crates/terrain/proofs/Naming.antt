-- If a list of sinks has no fault, each of them is a data cell. A lawful grid (all parts within
-- limits, no height equal to the NODATA value) stays lawful with these, each once, as its sinks.
use Rattle.std.proofs.Common.{◌≡◌, ◌+◌, ℕ, ℤ, zero, suc, Bool, true, false, not, ◌&&◌, List, [], ◌∷◌, length, Option, None, Some, fold, refl, sym, ap, subst, ◌∙◌, inl, inr, arith, is_none, is_some}
use Rattle.std.specs.Prelude.{nat_lt, if◌then◌else◌}
use Rattle.std.specs.List.{All, list_any}
use Rattle.std.specs.Option.{option_or}
use Rattle.std.proofs.lemmas.Bool.{and_parts, cases_Bool, cond-true, cond-false, ltb-true}
use Rattle.std.proofs.lemmas.List.Elements.{All-append}
use Rattle.terrain.specs.Raster.{Terrain, Raster, IsLawful}
use Rattle.terrain.specs.Neighbours.{IsInside, IsDataCell, height_at, is_place}
use Rattle.terrain.specs.Faults.{first_fault, place_fault}
use Rattle.terrain.specs.Sinks.{named_once, each_once, sinks_fault, most_sinks, raster_with_sinks}
use Rattle.terrain.specs.declared.place.Place.{Place}
use Rattle.terrain.specs.declared.sinks.SinkFault.{SinkFault}
use Rattle.terrain.specs.declared.sinks.SinkFault.TheVariants.{Outside, OnNodata, TooManySinks}
use Rattle.terrain.proofs.OtherCells.{lawful_with_parts}

abbrev pub IsSound : Terrain → Place → Type 0
IsSound t p = IsInside t p × IsDataCell t p

module _ (t : Terrain) where
  none_of_both : (a b : Option SinkFault) → option_or a b ≡ None → (a ≡ None) × (b ≡ None)
  none_of_both None b h = (refl, h)
  none_of_both (Some f) b h = absurd (cc)

  abbrev fault : Bool → Option ℤ → ℕ → Option SinkFault
  fault inside height i = if not inside then Some (Outside i) else if is_none height then Some (OnNodata i) else None

  has_data : (height : Option ℤ) (i : ℕ) → fault true height i ≡ None → is_some height ≡ true
  has_data None i none = absurd (cc)
  has_data (Some z) i none = refl

  sound : (i : ℕ) (p : Place) → place_fault Outside OnNodata t i p ≡ None → IsSound t p
  sound i p none = elim (cases_Bool (nat_lt p.row t.rows && nat_lt p.col t.cols)) [
    | inl is ↦
        let both = and_parts (nat_lt p.row t.rows) (nat_lt p.col t.cols) is in
        let known = has_data (height_at t p) i (sym (ap (λ inside. fault inside (height_at t p) i) is) ∙ none) in
        ((ltb-true _ _ both.0, ltb-true _ _ both.1), known)
    | inr isnt ↦
        let is : fault false (height_at t p) i ≡ None =
        sym (ap (λ inside. fault inside (height_at t p) i) isnt) ∙ none in
        absurd (cc)
  ]

  all_sound : (i : ℕ) (places : List Place) → first_fault (place_fault Outside OnNodata t) i places ≡ None →
      All (IsSound t) places
  all_sound i [] none k d below = absurd (omega (arith, below))
  all_sound i (p ∷ rest) none zero d below = sound i p (none_of_both _ _ none).0
  all_sound i (p ∷ rest) none (suc k) d below =
      all_sound (i + 1) rest (none_of_both _ _ none).1 k d (omega (arith, below))

pub few_sinks : (t : Terrain) (sinks : List Place) → sinks_fault t sinks ≡ None →
    nat_lt most_sinks (length sinks) ≡ false
few_sinks t sinks h = elim (cases_Bool (nat_lt most_sinks (length sinks))) [
  | inl many ↦ let fault : sinks_fault t sinks ≡ Some TooManySinks = cond-true _ _ _ many in
      absurd (cc)
  | inr few ↦ few
]

pub sinks_sound : (t : Terrain) (sinks : List Place) → sinks_fault t sinks ≡ None →
    All (IsSound t) sinks
sinks_sound t sinks h = all_sound t 0 sinks (sym (cond-false _ _ _ (few_sinks t sinks h)) ∙ h)

named : (P : Place → Type 0) (places : List Place) (p : Place) → All P places → P p →
    All P (named_once places p)
named P places p all one = elim (cases_Bool (list_any (is_place p) places)) [
  | inl is ↦ subst (All P) (sym (cond-true _ _ _ is)) all
  | inr isnt ↦
      subst (All P) (sym (cond-false _ _ _ isnt)) (All-append P places (p ∷ []) all (alone P p one))
] where
  alone : (P : Place → Type 0) (p : Place) → P p → All P (p ∷ [])
  alone P p one zero d below = one
  alone P p one (suc k) d below = absurd (omega (arith, below))

all_named : (P : Place → Type 0) (places rest : List Place) → All P places → All P rest →
    All P (fold named_once places rest)
all_named P places [] all more = all
all_named P places (p ∷ rest) all more =
    all_named P (named_once places p) rest (named P places p all (more 0 p (omega arith)))
    (λ k d below. more (suc k) d (omega (arith, below)))

sinks_inside : (t : Terrain) (sinks : List Place) → sinks_fault t sinks ≡ None →
    All (IsInside t) (each_once sinks)
sinks_inside t sinks h =
    all_named (IsInside t) [] sinks (λ k d below. absurd (omega (arith, below))) (λ k d below.
    (sinks_sound t sinks h k d below).0)

pub lawful_with_sinks : (g : Raster) (sinks : List Place) → IsLawful g →
    sinks_fault g.terrain sinks ≡ None → IsLawful (raster_with_sinks g sinks)
lawful_with_sinks g sinks lawful fault =
    let t = lawful.terrain in
    lawful_with_parts g g.terrain.cells (each_once sinks) lawful t.size t.heights lawful.apart
    (sinks_inside g.terrain sinks fault)
