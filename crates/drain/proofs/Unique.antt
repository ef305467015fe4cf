-- Each data cell of a filled terrain has one direction; a terrain has at most one list of
-- directions.
use Rattle.std.proofs.Common.{◌≡◌, ℕ, ◌+◌, ◌*◌, ◌/◌, ◌%◌, ◌<◌, ◌≤◌, inl, inr, List, length, get_or, Option, None, Some, sym, ap, subst, ◌∙◌, arith, map, is_some, MatchOption, ℤ, refl}
use Rattle.std.proofs.lemmas.Bool.{cases_eq}
use Rattle.std.proofs.lemmas.Option.{MatchOption-at_none, MatchOption-at_some}
use Rattle.std.proofs.Math.Nat.{div-add-mod}
use Rattle.std.proofs.lemmas.List.{ext_get_or, length-map}
use Rattle.std.proofs.lemmas.Nat.{div_below, mod_below, div-mul-add, mod-mul-add}
use Rattle.terrain.proofs.Places.{entry-inside, same_place, index_below}
use Rattle.terrain.specs.Raster.{Terrain}
use Rattle.terrain.specs.Neighbours.{height_at, entry_at, index_of, IsDataCell, height_of}
use Rattle.terrain.specs.declared.place.Place.{Place}
use Rattle.drain.specs.Directions.{AreDirections, IsDirection}
use Rattle.drain.proofs.Pointing.{one_direction}
use Rattle.terrain.proofs.Options.{cases_option}
use Rattle.std.proofs.lemmas.List.FromFn.{length-range_with_len, get_or-map-range_with_len}
use Rattle.std.specs.List.{range_with_len}
use Rattle.drainage.specs.Filled.{IsFilled}
use Rattle.drain.specs.Steps.{IsSteps, AreSteps}
use Rattle.drain.specs.Steepness.{direction_of}
use Rattle.drain.proofs.AroundLemmas.{around_with, laid_with, steps_at}
use Rattle.drain.proofs.Counted.{has_steps, height_is}
use Rattle.drain.proofs.Laid.{direction_is}
use Rattle.drainage.proofs.Reach.{is_end_cell, end_true, place_at, true_end}

pub index-place_at : (cols i : ℕ) → index_of cols (place_at cols i) ≡ i
index-place_at cols i = let whole : cols * (i / cols) + i % cols ≡ i = div-add-mod i cols in
    omega arith

some_cols : (cols rows i : ℕ) → i < cols * rows → 1 ≤ cols
some_cols cols rows i h = elim (cases_eq cols 0) [
  | inl e ↦ absurd (let none : cols * rows ≡ 0 * rows = ap (λ n. n * rows) e in omega arith)
  | inr ne ↦ omega arith
]

-- a property of the indexes of all places of a grid holds at each index of the grid
pub at_place : (P : ℕ → Type 0) (cols rows : ℕ) → ((p : Place) → p.row < rows → p.col < cols →
    P (index_of cols p)) → (i : ℕ) → i < cols * rows → P i
at_place P cols rows each i h =
    let some : 1 ≤ cols = some_cols cols rows i h in
    let row : i / cols < rows = div_below i cols rows some (omega arith) in
    let col : i % cols < cols = mod_below i cols some in
    rw (index-place_at cols i) at (each (place_at cols i) row col)

-- two lists of a grid's size with equal entries at each place are equal
pub same_entries : {X : Type 0} (cols rows : ℕ) (xs ys : List (Option X)) →
    length xs ≡ cols * rows → length ys ≡ cols * rows
    → ((p : Place) → p.row < rows → p.col < cols →
    entry_at cols rows xs p ≡ entry_at cols rows ys p) → xs ≡ ys
same_entries cols rows xs ys m n same =
    ext_get_or None xs ys (m
    ∙ sym n) (λ i h. at_place (λ k. get_or xs k None ≡ get_or ys k None) cols rows
    (λ p row col. sym (entry-inside cols rows xs p row col) ∙ same p row col
    ∙ entry-inside cols rows ys p row col) i (omega arith))

pub one_list_of_directions : (t : Terrain) (xs ys : List (Option ℕ)) → AreDirections t xs →
    AreDirections t ys → xs ≡ ys
one_list_of_directions t xs ys a b =
    same_entries t.cols t.rows xs ys a.size b.size (λ p row col.
    elim (cases_option (height_at t p)) [
      | inl none ↦ MatchOption-at_none _ _ none (a.each p (row, col))
          ∙ sym (MatchOption-at_none _ _ none (b.each p (row, col)))
      | inr some ↦
          (let m = MatchOption-at_some _ _ some.0 some.1 (a.each p (row, col)) in
          let n = MatchOption-at_some _ _ some.0 some.1 (b.each p (row, col)) in
          m.1 ∙ ap Some (one_direction t p m.0 n.0 m.2 n.2) ∙ sym n.1)
    ])

steps_of : (t : Terrain) → IsFilled t t.cells → (p : Place) (o : Option ℤ) → height_at t p ≡ o →
    (s : Option ℕ) × MatchOption o (s ≡ None) (λ _. (n : ℕ) × (s ≡ Some n) × IsSteps t p n)
steps_of t filled p None e = (None, refl)
steps_of t filled p (Some h) e = let n = has_steps t p filled (ap is_some e) in
    (Some n.0, (n.0, refl, n.1))

pub place_at-index_of : (cols : ℕ) (p : Place) → p.col < cols → place_at cols (index_of cols p) ≡ p
place_at-index_of cols p below = sym (same_place p (place_at cols (index_of cols p))
    (sym (div-mul-add p.row cols p.col below)) (sym (mod-mul-add p.row cols p.col below)))

module _ {t : Terrain} (filled : IsFilled t t.cells) where
  steps_in : ℕ → Option ℕ
  steps_in i = (steps_of t filled (place_at t.cols i) (height_at t (place_at t.cols i)) refl).0

  all_steps : List (Option ℕ)
  all_steps = map steps_in (range_with_len 0 (t.cols * t.rows))

  are_steps : AreSteps t all_steps
  unfolding all_steps steps_in steps_of
  are_steps = record {
    size = length-map (range_with_len 0 (t.cols * t.rows)) steps_in
        ∙ length-range_with_len 0 (t.cols * t.rows);
    each = λ p inside.
        let at = entry-inside t.cols t.rows all_steps p inside.0 inside.1
        ∙ get_or-map-range_with_len steps_in 0 (t.cols * t.rows) (index_of t.cols p)
        (index_of t.cols p) None (index_below t.cols t.rows p inside.0 inside.1) (omega arith)
        ∙ ap (λ q. (steps_of t filled q (height_at t q) refl).0)
        (place_at-index_of t.cols p inside.1) in
        subst (λ (s : Option ℕ). MatchOption (height_at t p) (s ≡ None) (λ _. (n : ℕ) × (s ≡ Some n)
        × IsSteps t p n)) (sym at) (steps_of t filled p (height_at t p) refl).1;
  }

  pub has_direction : (p : Place) → IsDataCell t p → (code : ℕ) × IsDirection t p code
      × ((other : ℕ) → IsDirection t p other → other ≡ code)
  has_direction p is =
      let n = steps_at p are_steps is in
      let code = direction_of (around_with t all_steps p (height_of t p) n.0 (is_end_cell t p)) in
      let direction : IsDirection t p code =
      direction_is are_steps
      (record {
        laid = laid_with t all_steps p (height_of t p) n.0 (is_end_cell t p) (height_is t p is) n.1;
        edge = (end_true t p, true_end t p);
      }) in
      (code, direction, λ other d. one_direction t p other code d direction)
