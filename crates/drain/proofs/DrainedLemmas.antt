-- In a map of directions exactly the data cells have steps and codes. Each code but 0 leads to a
-- data cell that is lower, or as high with fewer steps (`IsDraining`).
use Rattle.std.proofs.Common.{◌≡◌, ℕ, ◌<◌, inl, inr, List, [], Option, None, Some, MatchOption, is_some, ℤ, sym, ap, ◌∙◌}
use Rattle.std.proofs.lemmas.Bool.{cases_lt}
use Rattle.std.proofs.lemmas.Option.{MatchOption-at_some, MatchOption-at_none, same_Some, none-some}
use Rattle.terrain.proofs.Places.{entry-below, entry-beside, inside_from_entry}
use Rattle.terrain.specs.Raster.{Terrain}
use Rattle.terrain.specs.Neighbours.{IsInside, height_at, entry_at}
use Rattle.terrain.specs.Sinks.{with_sinks}
use Rattle.terrain.specs.declared.place.Place.{Place}
use Rattle.drain.specs.Steps.{IsSteps, AreSteps}
use Rattle.drain.specs.Directions.{IsDirection, AreDirections}
use Rattle.drainage.specs.Drained.{IsDraining}
use Rattle.drain.proofs.Pointing.{direction_leads}
use Rattle.terrain.proofs.Options.{cases_option}

-- two lists with values at the same places of the grid have values at the same places everywhere
everywhere : {X Y : Type 0} (cols rows : ℕ) (xs : List (Option X)) (ys : List (Option Y)) →
    ((p : Place) → p.row < rows → p.col < cols →
    is_some (entry_at cols rows xs p) ≡ is_some (entry_at cols rows ys p)) →
    (p : Place) → is_some (entry_at cols rows xs p) ≡ is_some (entry_at cols rows ys p)
everywhere cols rows xs ys same p = elim (cases_lt p.row rows) [
  | inl row ↦ elim (cases_lt p.col cols) [
    | inl col ↦ same p row col
    | inr past ↦ ap is_some (entry-beside cols rows xs p past)
        ∙ sym (ap is_some (entry-beside cols rows ys p past))
  ]
  | inr past ↦ ap is_some (entry-below cols rows xs p past)
      ∙ sym (ap is_some (entry-below cols rows ys p past))
]

-- a list with numbers at data cells and `None` at other cells has values just where there is data
same_where : (t : Terrain) (Is : Place → ℕ → Type 0) (xs : List (Option ℕ)) →
    ((p : Place) → IsInside t p → MatchOption (height_at t p) (entry_at t.cols t.rows xs p ≡ None)
    (λ _. (n : ℕ) × (entry_at t.cols t.rows xs p ≡ Some n) × Is p n)) →
    (p : Place) → is_some (entry_at t.cols t.rows xs p) ≡ is_some (height_at t p)
same_where t Is xs each =
    everywhere t.cols t.rows xs t.cells (λ p row col. elim (cases_option (height_at t p)) [
      | inl none ↦ ap is_some (MatchOption-at_none _ _ none (each p (row, col)))
          ∙ sym (ap is_some none)
      | inr some ↦ ap is_some (MatchOption-at_some _ _ some.0 some.1 (each p (row, col))).1
          ∙ sym (ap is_some some.1)
    ])

pub are_draining : (t : Terrain) (steps codes : List (Option ℕ)) → AreSteps t steps →
    AreDirections t codes → IsDraining (record { terrain = t; steps = steps; codes = codes })
are_draining t steps codes are all = record {
  codes_size = all.size;
  steps_size = are.size;
  same_data = same_where t (IsDirection t) codes all.each;
  same_steps = same_where t (IsSteps t) steps are.each;
  leads = λ p code e some.
      let inside = inside_from_entry t.cols t.rows codes p code e in
      elim (cases_option (height_at t p)) [
        | inl none ↦
            absurd (none-some code (sym (MatchOption-at_none _ _ none (all.each p inside)) ∙ e))
        | inr h ↦
            (let at = MatchOption-at_some _ _ h.0 h.1 (all.each p inside) in
            let same : code ≡ at.0 = same_Some _ _ (sym e ∙ at.1) in
            direction_leads t steps codes p code are
            (rw same (at.2)) some)
      ];
}

-- a terrain with its sinks removed is given by its size and cells
pub same_terrain : (t : Terrain) (cols rows : ℕ) (cells : List (Option ℤ)) →
    cols ≡ t.cols → rows ≡ t.rows → cells ≡ t.cells →
    with_sinks t [] ≡ record { cols = cols; rows = rows; cells = cells; sinks = [] }
same_terrain t cols rows cells a b c = cc
