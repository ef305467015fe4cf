-- The crest of a path and the filled height of a cell are heights of cells of the terrain. A cell's
-- height is at most the crest of each path from it.
use Rattle.std.proofs.Common.{◌≡◌, ℕ, List, [], ◌∷◌, length, get_or, Option, None, Some, ℤ, pos, ◌≤ℤ◌, sym, subst, refl, ◌∙◌, arith, ◌⊎◌, inl, inr}
use Rattle.std.specs.Prelude.{unwrap_or, Contains, IsSome, int_lt}
use Rattle.std.specs.Int.{int_max}
use Rattle.std.proofs.lemmas.Bool.{cases_lt, cases_Bool, cond-true, cond-false}
use Rattle.std.proofs.lemmas.Int.{ints}
use Rattle.std.proofs.lemmas.List.{get_or_past, get_or_default}
use Rattle.terrain.proofs.Orders.{max_left}
use Rattle.terrain.specs.Raster.{Terrain}
use Rattle.terrain.specs.Neighbours.{height_at, IsDataCell, index_of, height_of}
use Rattle.drainage.specs.Filled.{IsPath, crest, IsFilledHeight}
use Rattle.terrain.specs.declared.place.Place.{Place}
use Rattle.terrain.proofs.Places.{entry-inside, inside_from_entry}

max_cases : (x y : ℤ) → (int_max x y ≡ x) ⊎ (int_max x y ≡ y)
max_cases x y = elim (cases_Bool (int_lt y x)) [
  | inl t ↦ inl (cond-true (int_lt y x) x y t)
  | inr f ↦ inr (cond-false (int_lt y x) x y f)
]

contains_at : (xs : List (Option ℤ)) (i : ℕ) (h : ℤ) → get_or xs i None ≡ Some h →
    Contains xs (Some h)
contains_at xs i h e = elim (cases_lt i (length xs)) [
  | inl k ↦ (i, k, get_or_default xs i (Some h) None k ∙ e)
  | inr n ↦ let past = get_or_past xs i None n in absurd (cc)
]

contains_height : (t : Terrain) (p : Place) (h : ℤ) → height_at t p ≡ Some h →
    Contains t.cells (Some h)
contains_height t p h e =
    let inside = inside_from_entry t.cols t.rows t.cells p h e in
    contains_at t.cells (index_of t.cols p) h
    (sym (entry-inside t.cols t.rows t.cells p inside.0 inside.1) ∙ e)

pub known : (o : Option ℤ) → IsSome o → o ≡ Some (unwrap_or o (pos 0))
known None h = absurd (cc)
known (Some x) h = refl

contains_data_height : (t : Terrain) (p : Place) → IsDataCell t p →
    Contains t.cells (Some (height_of t p))
contains_data_height t p h = contains_height t p (height_of t p) (known (height_at t p) h)

pub first_is_data : (t : Terrain) (p : Place) (rest : List Place) → IsPath t p rest → IsDataCell t p
first_is_data t p [] (inl edge) = edge.0
first_is_data t p [] (inr sink) = sink.0
first_is_data t p (q ∷ rest) path = path.0.from_data

pub contains_crest : (t : Terrain) (p : Place) (rest : List Place) → IsPath t p rest →
    Contains t.cells (Some (crest t p rest))
contains_crest t p [] path = contains_data_height t p (first_is_data t p [] path)
contains_crest t p (q ∷ rest) path = elim (max_cases (height_of t p) (crest t q rest)) [
  | inl e ↦
      subst (λ h. Contains t.cells (Some h)) (sym e) (contains_data_height t p path.0.from_data)
  | inr e ↦ subst (λ h. Contains t.cells (Some h)) (sym e) (contains_crest t q rest path.1)
]

pub filled_height_occurs : (t : Terrain) (p : Place) (level : ℤ) → IsFilledHeight t p level →
    Contains t.cells (Some level)
filled_height_occurs t p level h =
    subst (λ l. Contains t.cells (Some l)) h.reached.2 (contains_crest t p h.reached.0 h.reached.1)

pub height_below_crest : (t : Terrain) (p : Place) (rest : List Place) →
    height_of t p ≤ℤ crest t p rest
height_below_crest t p [] = omega (arith, ints)
height_below_crest t p (q ∷ rest) = max_left (height_of t p) (crest t q rest)
