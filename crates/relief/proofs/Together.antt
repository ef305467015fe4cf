-- The maps made from one header and one list of directions are the requested maps of the grid. Their
-- texts, joined, are the text of several maps.
use Rattle.std.proofs.Common.{◌≡◌, ℕ, suc, List, [], ◌∷◌, Option, Some, None, Vec, arith, ap, refl, subst, sym, ◌∙◌}
use Rattle.std.specs.Prelude.{Contains}
use Rattle.std.specs.List.{flat_map}
use Rattle.std.specs.Option.{option_map_or}
use Rattle.std.specs.declared.alloc.Global.{Global}
use Rattle.terrain.specs.Raster.{Raster}
use Rattle.terrain.specs.declared.place.Place.{Place}
use Rattle.ascii_grid.specs.Text.{counts_text}
use Rattle.drainage.specs.Drained.{Drained, directed_of}
use Rattle.drainage.specs.Filled.{IsFilledGrid}
use Rattle.request.specs.declared.map.DrainageMap.{DrainageMap}
use Rattle.request.specs.declared.map.DrainageMap.TheVariants.{Fill, Flow, Accumulate, Basins, Catchments}
use Rattle.relief.specs.MadeMap.{AreFrom, AreMade, counts_text_if, header_grid, heights_text_if, layer_text}
use Rattle.relief.specs.MapText.{IsDrainage, IsDrainageText, JoinsTexts}
use Rattle.relief.specs.declared.several.MadeMaps.{MadeMaps}
use Rattle.relief.specs.declared.several.MapHeader.{MapHeader}
use Rattle.relief.specs.declared.several.MapHeader.TheVariants.{WithHeights}

-- a list of values has the same text with the header of a grid and with that of the filled grid
pub same_text : (g f : Raster) (values : List (Option ℕ)) → IsFilledGrid g f →
    counts_text f values ≡ counts_text g values
same_text g f values is = ap (λ (r : Raster). counts_text r values) is.rest

pub joined : (g : Raster) (gauges : List Place) (maps : List DrainageMap) (made : MadeMaps) →
    AreMade g gauges maps made →
    JoinsTexts (IsDrainageText g gauges) maps (flat_map (layer_text made) maps)
joined g gauges [] made are = refl
joined g gauges (map ∷ maps) made are = (
  layer_text made map,
  flat_map (layer_text made) maps,
  are map (0, omega arith, refl),
  joined g gauges maps made (λ other at. are other (suc at.0, omega (arith, at.1), at.2)),
  refl,
)

-- filled heights alone need no directions
pub heights_alone : (g f : Raster) (gauges : List Place) (maps : List DrainageMap) →
    ((map : DrainageMap) → Contains maps map → map ≡ Fill) → IsFilledGrid g f →
    AreMade g gauges maps (record {
      header = WithHeights f;
      directions = None;
      accumulation = None;
      basins = None;
      catchments = None;
    })
heights_alone g f gauges maps alone filled map requested =
    let made : MadeMaps = record {
      header = WithHeights f;
      directions = None;
      accumulation = None;
      basins = None;
      catchments = None;
    } in
    subst (λ (m : DrainageMap). IsDrainageText g gauges m (layer_text made m))
    (sym (alone map requested)) (f, filled, refl)

module _ (g : Raster) (shared : MapHeader) (d : Drained) (gauges : List Place)
    (maps : List DrainageMap) (made : MadeMaps) (filled : IsFilledGrid g (header_grid shared))
    (drainage : IsDrainage g (directed_of d)) (from : AreFrom shared d gauges maps made) where
  values_text : (counts : Option (Vec (Option ℕ) Global)) (values : Vec (Option ℕ) Global) →
      counts ≡ Some values →
      counts_text_if (header_grid made.header) counts ≡ counts_text g values.items
  values_text counts values some =
      ap (λ h. counts_text_if (header_grid h) counts) from.header
      ∙ ap (λ o. counts_text_if (header_grid shared) o) some
      ∙ same_text g (header_grid shared) values.items filled

  pub made_from : (Contains maps Fill → shared ≡ WithHeights (header_grid shared)) →
      AreMade g gauges maps made
  made_from kept Fill requested = (
    header_grid shared,
    filled,
    ap heights_text_if (from.header ∙ kept requested),
  )
  made_from kept Flow requested = (
    directed_of d,
    drainage,
    ap (λ h. option_map_or (λ e. counts_text (header_grid h) e.codes) made.directions []) from.header
        ∙ ap (λ o. option_map_or (λ e. counts_text (header_grid shared) e.codes) o [])
        (from.flow requested) ∙ same_text g (header_grid shared) d.codes filled,
  )
  made_from kept Accumulate requested =
      let counts = from.accumulation requested in
      (directed_of d, counts.0.items, drainage, counts.2, values_text _ counts.0 counts.1)
  made_from kept Basins requested =
      let counts = from.basins requested in
      (directed_of d, counts.0.items, drainage, counts.2, values_text _ counts.0 counts.1)
  made_from kept Catchments requested =
      let counts = from.catchments requested in
      (directed_of d, counts.0.items, drainage, counts.2, values_text _ counts.0 counts.1)
