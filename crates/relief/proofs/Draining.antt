-- The first fault of tiles, sinks and gauges, in this order, forbids the requested map: a run may
-- return it. Without one, it may return the refused memory that ends the naming of its sinks. The
-- fault that forbids a map of a grid stays the same when the grid gets other sinks. The text of the
-- map of a grid with its requested sinks is that of the map that the run was asked for.
use Rattle.std.proofs.Common.{◌≡◌, ℕ, ◌<◌, ◌≤◌, true, false, eqb, length, List, [], ◌∷◌, Option, None, Some, Err, sym, ap, subst, refl, ◌∙◌}
use Rattle.std.specs.Option.{option_map, option_or}
use Rattle.std.proofs.lemmas.Bool.{le-ltb, lt-ltb, cond-false, cond-true}
use Rattle.terrain.specs.Raster.{Raster}
use Rattle.terrain.specs.Sinks.{RefusesSinks, raster_with_sinks, sinks_fault}
use Rattle.terrain.specs.declared.place.Place.{Place}
use Rattle.terrain.specs.declared.sinks.SinkFault.{SinkFault}
use Rattle.ascii_grid.specs.GridText.{IsGridText}
use Rattle.tiles.specs.Cutting.{most_tiles}
use Rattle.tiles.specs.declared.tiling.TilingFault.TheVariants.{TooManyTiles}
use Rattle.request.specs.Request.{IsSightMap, Request}
use Rattle.request.specs.declared.map.Map.{Map}
use Rattle.request.specs.declared.map.Map.TheVariants.{Fill, Flow, Accumulate, Basins, Catchments, View, Rise, Several}
use Rattle.flow.specs.declared.gauges.GaugeFault.{GaugeFault}
use Rattle.relief.specs.declared.fault.RunFault.{RunFault}
use Rattle.relief.specs.declared.fault.RunFault.TheVariants.{Tiling, Sight, Sinks, Gauges}
use Rattle.relief.specs.Faults.{of_sinks}
use Rattle.relief.specs.MadeMap.{grid_with_sinks}
use Rattle.relief.specs.MapText.{IsMapOfText, IsMapText}
use Rattle.relief.specs.Refusals.{tiles_of, gauge_fault, view_fault, named_place_fault, request_fault, IsFaultOnGrid}
use Rattle.relief.proofs.Viewing.{forbidden}

-- on a grid as read, `grid_with_sinks` and `raster_with_sinks` agree for every list, the empty one
-- too, since such a grid has no sinks
read_grid_has_no_sinks : (scale : ℕ) (text : List ℕ) (g : Raster) (sinks : List Place) →
    IsGridText scale text g → grid_with_sinks sinks g ≡ raster_with_sinks g sinks
read_grid_has_no_sinks scale text g [] is = ap (λ (named : List Place). record g {
  terrain =
      record g.terrain { sinks = named };
}) (ap (λ (r : Raster). r.terrain.sinks) is.grid)
read_grid_has_no_sinks scale text g (p ∷ rest) is = refl

pub grid_with_some_sinks : (g : Raster) (sinks : List Place) → eqb (length sinks) 0 ≡ false →
    raster_with_sinks g sinks ≡ grid_with_sinks sinks g
grid_with_some_sinks g [] some = absurd (cc)
grid_with_some_sinks g (p ∷ rest) some = refl

pub map_of_text : (w : Request) (text map : List ℕ) (g : Raster) → IsGridText w.scale text g →
    IsMapText (grid_with_sinks w.sinks g) w.map map → IsMapOfText w.scale w.map w.sinks text map
map_of_text w text map g is made = (
  g,
  is,
  subst (λ (r : Raster). IsMapText r w.map map)
      (read_grid_has_no_sinks w.scale text g w.sinks is) made,
)

pub request_fault_without_sinks : (w : Request) (g : Raster) (sinks : List Place) →
    request_fault w (grid_with_sinks sinks g) ≡ request_fault w g
request_fault_without_sinks w g [] = refl
request_fault_without_sinks w g (p ∷ rest) = refl

pub fault_on_grid_without_sinks : (w : Request) (g : Raster) (f : RunFault) (sinks : List Place) →
    IsFaultOnGrid w (grid_with_sinks sinks g) f → IsFaultOnGrid w g f
fault_on_grid_without_sinks w g f [] h = h
fault_on_grid_without_sinks w g f (p ∷ rest) h = h

pub request_of_many : (w : Request) (g : Raster) → most_tiles < tiles_of g w.tile →
    request_fault w g ≡ Some (Tiling TooManyTiles)
request_of_many w g many = cond-true _ _ _ (lt-ltb _ _ many)

pub request_of_few : (w : Request) (g : Raster) → tiles_of g w.tile ≤ most_tiles → request_fault w g
    ≡ option_or (named_place_fault w g) (option_map Sight (view_fault g w.map))
request_of_few w g few = cond-false _ _ _ (le-ltb _ _ few)

pub request_of_sound : (w : Request) (g : Raster) → tiles_of g w.tile ≤ most_tiles →
    named_place_fault w g ≡ None → request_fault w g ≡ option_map Sight (view_fault g w.map)
request_of_sound w g few sound = request_of_few w g few
    ∙ ap (λ o. option_or o (option_map Sight (view_fault g w.map))) sound

pub place_refused : (w : Request) (g : Raster) (f : RunFault) → tiles_of g w.tile ≤ most_tiles →
    named_place_fault w g ≡ Some f → IsFaultOnGrid w g f
place_refused w g f few at_fault =
    forbidden w g f (request_of_few w g few
    ∙ ap (λ o. option_or o (option_map Sight (view_fault g w.map))) at_fault)

no_sinks : (a : Option SinkFault) (b : Option RunFault) → option_or (option_map Sinks a) b ≡ None →
    a ≡ None
no_sinks None b e = refl
no_sinks (Some f) b e = absurd (cc)

pub sound_sinks : (w : Request) (g : Raster) → named_place_fault w g ≡ None →
    sinks_fault g.terrain w.sinks ≡ None
sound_sinks w g sound =
    no_sinks (sinks_fault g.terrain w.sinks) (option_map Gauges (gauge_fault g w.map)) sound

no_gauges : (a : Option SinkFault) (b : Option GaugeFault) →
    option_or (option_map Sinks a) (option_map Gauges b) ≡ None → b ≡ None
no_gauges None None e = refl
no_gauges None (Some f) e = absurd (cc)
no_gauges (Some f) b e = absurd (cc)

pub sound_gauges : (w : Request) (g : Raster) → named_place_fault w g ≡ None →
    gauge_fault g w.map ≡ None
sound_gauges w g sound = no_gauges (sinks_fault g.terrain w.sinks) (gauge_fault g w.map) sound

unseen : (g : Raster) (m : Map) → ¬ IsSightMap m → view_fault g m ≡ None
unseen g Fill drains = refl
unseen g Flow drains = refl
unseen g Accumulate drains = refl
unseen g Basins drains = refl
unseen g (Catchments gauges) drains = refl
unseen g (Several maps gauges) drains = refl
unseen g (View observers target radius) drains = absurd (drains tt)
unseen g (Rise observers radius) drains = absurd (drains tt)

-- Let tiles, sinks and gauges have no fault, and let no viewshed or rise have sinks. If giving the grid one
-- or more requested sinks ends with a fault, a run may return that fault: refused memory.
pub sinks_refused : {T : Type 0} (w : Request) (g : Raster) (f : SinkFault) →
    (IsSightMap w.map → w.sinks ≡ []) →
    eqb (length w.sinks) 0 ≡ false → tiles_of g w.tile ≤ most_tiles → named_place_fault w g ≡ None →
    RefusesSinks {T = T} (sinks_fault g.terrain w.sinks) (Err f) → IsFaultOnGrid w g (of_sinks f)
sinks_refused w g f none some few sound h =
    let drains : ¬ IsSightMap w.map = λ view. (let empty : eqb (length w.sinks) 0 ≡ true =
    ap (λ (ps : List Place). eqb (length ps) 0) (none view) in cc) in
    subst (λ (k : SinkFault). IsFaultOnGrid w g (of_sinks k))
    (sym (h.memory (sound_sinks w g sound) f refl))
    (request_of_sound w g few sound ∙ ap (λ o. option_map Sight o) (unseen g w.map drains))
