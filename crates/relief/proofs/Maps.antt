-- Two texts of the same map, of the same grid text at the same scale with the same sinks, are
-- equal.
use Rattle.std.proofs.Common.{◌≡◌, ℕ, List, [], ◌∷◌, ◌++◌, Option, Some, ℤ, sym, ap, ap₂, subst, ◌∙◌, inl, inr}
use Rattle.std.proofs.lemmas.Option.{MatchOption-at_none, MatchOption-at_some}
use Rattle.terrain.specs.Raster.{Raster, Terrain}
use Rattle.terrain.specs.Neighbours.{height_at}
use Rattle.terrain.specs.Sinks.{raster_with_sinks}
use Rattle.drainage.specs.Filled.{IsFilled, IsFilledGrid}
use Rattle.ascii_grid.specs.Text.{heights_text, counts_text}
use Rattle.terrain.specs.declared.place.Place.{Place}
use Rattle.drainage.proofs.Uniqueness.{one_filled_height}
use Rattle.drainage.specs.Following.{Directed, code_at}
use Rattle.drain.specs.Directions.{AreDirections}
use Rattle.terrain.proofs.Options.{cases_option}
use Rattle.drain.proofs.Unique.{same_entries, one_list_of_directions}
use Rattle.flow.specs.Counts.{IsMapOf, accumulation, basin}
use Rattle.flow.specs.Catchments.{AreCatchments, catchment}
use Rattle.sight.proofs.Uniqueness.{viewsheds_are_one}
use Rattle.sight.proofs.Rises.{rises_are_one}
use Rattle.request.specs.declared.map.Map.{Map}
use Rattle.request.specs.declared.map.Map.TheVariants.{Fill, Flow, Accumulate, Basins, Catchments, View, Rise, Several}
use Rattle.request.specs.declared.map.DrainageMap.{DrainageMap}
use Rattle.request.specs.declared.map.DrainageMap.TheVariants as drainage
use Rattle.request.specs.Laws.{AreSame}
use Rattle.relief.specs.MapText.{HasValues, IsDrainage, IsDrainageText, IsMapText, IsMapOfText, JoinsTexts}

one_list_of_heights : (t : Terrain) (xs ys : List (Option ℤ)) → IsFilled t xs → IsFilled t ys →
    xs ≡ ys
one_list_of_heights t xs ys a b =
    same_entries t.cols t.rows xs ys a.size b.size (λ p row col.
    elim (cases_option (height_at t p)) [
      | inl none ↦ MatchOption-at_none _ _ none (a.each p (row, col))
          ∙ sym (MatchOption-at_none _ _ none (b.each p (row, col)))
      | inr some ↦
          (let m = MatchOption-at_some _ _ some.0 some.1 (a.each p (row, col)) in
          let n = MatchOption-at_some _ _ some.0 some.1 (b.each p (row, col)) in
          m.1 ∙ ap Some (one_filled_height t p m.0 n.0 m.2 n.2) ∙ sym n.1)
    ])

abbrev with_heights : Raster → List (Option ℤ) → Raster
with_heights g levels = record g { terrain = record g.terrain { cells = levels } }

one_filled_grid : (g f h : Raster) → IsFilledGrid g f → IsFilledGrid g h → f ≡ h
one_filled_grid g f h a b =
    a.rest ∙ ap (λ levels. with_heights g levels)
    (one_list_of_heights g.terrain f.terrain.cells h.terrain.cells a.filled b.filled) ∙ sym b.rest

one_list_of_values : (d : Directed) (value : Place → ℕ) (xs ys : List (Option ℕ)) →
    IsMapOf d value xs → IsMapOf d value ys → xs ≡ ys
one_list_of_values d value xs ys a b =
    same_entries d.cols d.rows xs ys a.size b.size (λ p row col.
    elim (cases_option (code_at d p)) [
      | inl none ↦ MatchOption-at_none _ _ none (a.each p (row, col))
          ∙ sym (MatchOption-at_none _ _ none (b.each p (row, col)))
      | inr some ↦ MatchOption-at_some _ _ some.0 some.1 (a.each p (row, col))
          ∙ sym (MatchOption-at_some _ _ some.0 some.1 (b.each p (row, col)))
    ])

abbrev directed : ℕ → ℕ → List (Option ℕ) → Directed
directed cols rows codes = record { cols = cols; rows = rows; codes = codes }

one_drainage : (g : Raster) (d e : Directed) → IsDrainage g d → IsDrainage g e → d ≡ e
one_drainage g d e a b =
    let filled : a.filled ≡ b.filled =
    one_filled_grid g a.filled b.filled a.is_filled b.is_filled in
    let codes : d.codes ≡ e.codes =
    one_list_of_directions b.filled.terrain d.codes e.codes
    (subst (λ (f : Raster). AreDirections f.terrain d.codes) filled a.directions) b.directions in
    ap (λ cols. directed cols d.rows d.codes) (a.same_size.0 ∙ sym b.same_size.0)
    ∙ ap (λ rows. directed e.cols rows d.codes) (a.same_size.1 ∙ sym b.same_size.1)
    ∙ ap (λ cs. directed e.cols e.rows cs) codes

one_map_of_values : (g : Raster) (value : Directed → Place → ℕ) (text other : List ℕ) →
    HasValues g value text → HasValues g value other → text ≡ other
one_map_of_values g value text other a b =
    let same : a.0 ≡ b.0 = one_drainage g a.0 b.0 a.2 b.2 in
    let values : a.1 ≡ b.1 = one_list_of_values b.0 (value b.0) a.1 b.1
    (subst (λ (d : Directed). IsMapOf d (value d) a.1) same a.3) b.3 in
    a.4 ∙ ap (λ vs. counts_text g vs) values ∙ sym b.4

one_drainage_text : (g : Raster) (gauges : List Place) (m : DrainageMap) (text other : List ℕ) →
    IsDrainageText g gauges m text → IsDrainageText g gauges m other → text ≡ other
one_drainage_text g gauges drainage.Fill text other a b =
    a.2 ∙ ap heights_text (one_filled_grid g a.0 b.0 a.1 b.1) ∙ sym b.2
one_drainage_text g gauges drainage.Flow text other a b =
    a.2 ∙ ap (λ (d : Directed). counts_text g d.codes) (one_drainage g a.0 b.0 a.1 b.1) ∙ sym b.2
one_drainage_text g gauges drainage.Accumulate text other a b =
    one_map_of_values g (λ d. accumulation d) text other a b
one_drainage_text g gauges drainage.Basins text other a b =
    one_map_of_values g (λ d. basin d) text other a b
one_drainage_text g gauges drainage.Catchments text other a b =
    one_map_of_values g (λ d. catchment d gauges) text other a b

one_joined_text : (g : Raster) (gauges : List Place) (maps : List DrainageMap)
    (text other : List ℕ) → JoinsTexts (IsDrainageText g gauges) maps text →
    JoinsTexts (IsDrainageText g gauges) maps other → text ≡ other
one_joined_text g gauges [] text other a b = a ∙ sym b
one_joined_text g gauges (m ∷ maps) text other a b =
    a.4 ∙ ap₂ (λ (x y : List ℕ). x ++ y) (one_drainage_text g gauges m a.0 b.0 a.2 b.2)
    (one_joined_text g gauges maps a.1 b.1 a.3 b.3) ∙ sym b.4

one_map_of_grid : (g : Raster) (m : Map) (text other : List ℕ) → IsMapText g m text →
    IsMapText g m other → text ≡ other
one_map_of_grid g Fill text other a b = one_drainage_text g [] drainage.Fill text other a b
one_map_of_grid g Flow text other a b = one_drainage_text g [] drainage.Flow text other a b
one_map_of_grid g Accumulate text other a b =
    one_drainage_text g [] drainage.Accumulate text other a b
one_map_of_grid g Basins text other a b = one_drainage_text g [] drainage.Basins text other a b
one_map_of_grid g (Catchments gauges) text other a b =
    one_drainage_text g gauges.items drainage.Catchments text other a b
one_map_of_grid g (View observers target radius) text other a b =
    a.2 ∙ ap (λ vs. counts_text g vs)
    (viewsheds_are_one g.terrain observers.items target radius a.0 b.0 a.1 b.1) ∙ sym b.2
one_map_of_grid g (Rise observers radius) text other a b =
    a.2 ∙ ap (λ vs. counts_text g vs)
    (rises_are_one g.terrain observers.items radius a.0 b.0 a.1 b.1) ∙ sym b.2
one_map_of_grid g (Several maps gauges) text other a b =
    one_joined_text g gauges.items maps.items text other a b

-- if the maps `m` and `n` have the same kind, gauges, observers, target, radius and list of maps
-- (`AreSame`), a text of `n` is a text of `m`
same_text : (g : Raster) (m n : Map) (text : List ℕ) → AreSame m n → IsMapText g n text →
    IsMapText g m text
same_text g Fill n text same h = subst (λ (k : Map). IsMapText g k text) (sym same) h
same_text g Flow n text same h = subst (λ (k : Map). IsMapText g k text) (sym same) h
same_text g Accumulate n text same h = subst (λ (k : Map). IsMapText g k text) (sym same) h
same_text g Basins n text same h = subst (λ (k : Map). IsMapText g k text) (sym same) h
same_text g (Catchments gauges) Fill text same h =
    subst (λ (k : Map). IsMapText g k text) (sym same) h
same_text g (Catchments gauges) Flow text same h =
    subst (λ (k : Map). IsMapText g k text) (sym same) h
same_text g (Catchments gauges) Accumulate text same h =
    subst (λ (k : Map). IsMapText g k text) (sym same) h
same_text g (Catchments gauges) Basins text same h =
    subst (λ (k : Map). IsMapText g k text) (sym same) h
same_text g (Catchments gauges) (Catchments others) text same h = (
  h.0,
  h.1,
  h.2,
  subst (λ (places : List Place). AreCatchments h.0 places h.1) (sym same) h.3,
  h.4,
)
same_text g (Catchments gauges) (View observers target radius) text same h =
    subst (λ (k : Map). IsMapText g k text) (sym same) h
same_text g (Catchments gauges) (Rise observers radius) text same h =
    subst (λ (k : Map). IsMapText g k text) (sym same) h
same_text g (Catchments gauges) (Several maps places) text same h =
    subst (λ (k : Map). IsMapText g k text) (sym same) h
same_text g (View observers target radius) Fill text same h =
    subst (λ (k : Map). IsMapText g k text) (sym same) h
same_text g (View observers target radius) Flow text same h =
    subst (λ (k : Map). IsMapText g k text) (sym same) h
same_text g (View observers target radius) Accumulate text same h =
    subst (λ (k : Map). IsMapText g k text) (sym same) h
same_text g (View observers target radius) Basins text same h =
    subst (λ (k : Map). IsMapText g k text) (sym same) h
same_text g (View observers target radius) (Catchments gauges) text same h =
    subst (λ (k : Map). IsMapText g k text) (sym same) h
same_text g (View observers target radius) (View others height reach) text same h =
    (h.0, rw (same.0, same.1, same.2) h.1, h.2)
same_text g (View observers target radius) (Rise others reach) text same h =
    subst (λ (k : Map). IsMapText g k text) (sym same) h
same_text g (View observers target radius) (Several maps gauges) text same h =
    subst (λ (k : Map). IsMapText g k text) (sym same) h
same_text g (Rise observers radius) Fill text same h =
    subst (λ (k : Map). IsMapText g k text) (sym same) h
same_text g (Rise observers radius) Flow text same h =
    subst (λ (k : Map). IsMapText g k text) (sym same) h
same_text g (Rise observers radius) Accumulate text same h =
    subst (λ (k : Map). IsMapText g k text) (sym same) h
same_text g (Rise observers radius) Basins text same h =
    subst (λ (k : Map). IsMapText g k text) (sym same) h
same_text g (Rise observers radius) (Catchments gauges) text same h =
    subst (λ (k : Map). IsMapText g k text) (sym same) h
same_text g (Rise observers radius) (View others height reach) text same h =
    subst (λ (k : Map). IsMapText g k text) (sym same) h
same_text g (Rise observers radius) (Rise others reach) text same h =
    (h.0, rw (same.0, same.1) h.1, h.2)
same_text g (Rise observers radius) (Several maps gauges) text same h =
    subst (λ (k : Map). IsMapText g k text) (sym same) h
same_text g (Several maps gauges) Fill text same h =
    subst (λ (k : Map). IsMapText g k text) (sym same) h
same_text g (Several maps gauges) Flow text same h =
    subst (λ (k : Map). IsMapText g k text) (sym same) h
same_text g (Several maps gauges) Accumulate text same h =
    subst (λ (k : Map). IsMapText g k text) (sym same) h
same_text g (Several maps gauges) Basins text same h =
    subst (λ (k : Map). IsMapText g k text) (sym same) h
same_text g (Several maps gauges) (Catchments places) text same h =
    subst (λ (k : Map). IsMapText g k text) (sym same) h
same_text g (Several maps gauges) (View observers target radius) text same h =
    subst (λ (k : Map). IsMapText g k text) (sym same) h
same_text g (Several maps gauges) (Rise observers radius) text same h =
    subst (λ (k : Map). IsMapText g k text) (sym same) h
same_text g (Several maps gauges) (Several others places) text same h =
    subst (λ (ps : List Place). JoinsTexts (IsDrainageText g ps) maps.items text) (sym same.1)
    (subst (λ (ms : List DrainageMap). JoinsTexts (IsDrainageText g places.items) ms text)
    (sym same.0) h)

pub one_map : (scale : ℕ) (m n : Map) (sinks : List Place) (input text other : List ℕ) →
    AreSame m n → IsMapOfText scale m sinks input text → IsMapOfText scale n sinks input other →
    text ≡ other
one_map scale m n sinks input text other same_map a b =
    let same : a.0 ≡ b.0 = a.1.grid ∙ sym b.1.grid in
    one_map_of_grid (raster_with_sinks b.0 sinks) m text other
    (subst (λ (g : Raster). IsMapText (raster_with_sinks g sinks) m text) same a.2)
    (same_text (raster_with_sinks b.0 sinks) m n other same_map b.2)
