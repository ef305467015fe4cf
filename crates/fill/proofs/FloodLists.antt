-- The jobs return each tile's flood with meetings of its labels. The lists of floods and of meetings
-- that are made of them have those of each tile.
use Rattle.std.proofs.Common.{◌≡◌, ℕ, ◌<◌, List, length, get_or, map, Some, ◌∙◌, sym, ap, subst, arith, Vec, Global}
use Rattle.std.specs.Prelude.{slice_get}
use Rattle.std.specs.List.{All}
use Rattle.std.proofs.lemmas.List.{get_or-map, length-map}
use Rattle.std.proofs.lemmas.Option.{get_or_from_slice_get, slice_get_within, same_Some}
use Rattle.tile_jobs.specs.Results.{AreResults}
use Rattle.terrain.specs.Raster.{Terrain}
use Rattle.tiles.specs.Cutting.{Cutting, IsCutting, Cuts, tile_count}
use Rattle.cell_floods.specs.TileFlood.{Flood, IsMeeting, IsTileFlood}
use Rattle.cell_floods.specs.declared.tile.FloodWithMeetings.{FloodWithMeetings}
use Rattle.cell_floods.specs.declared.tile.Meeting.{Meeting}
use Rattle.fill.specs.Crests.{AreMet}
use Rattle.fill.specs.SpillGraph.{AreFloods}
use Rattle.fill.proofs.LabelNets.{list_there}

-- `map` makes the item at an index from the item at that index.
image_at : {X Y : Type 0} (g : X → Y) (xs : List X) (ys : List Y) (i : ℕ) (y : Y) → ys ≡ map g xs →
    slice_get ys i ≡ Some y → (x : X) × (slice_get xs i ≡ Some x) × (g x ≡ y)
image_at g xs ys i y is there =
    let low : i < length xs = omega (arith, slice_get_within ys i y there, ap length is, length-map xs g) in
    let x = list_there xs i low in (
      x.0,
      x.1,
      ap g (sym (get_or_from_slice_get xs i x.0 x.0 x.1)) ∙ sym (get_or-map g xs i _ y low) ∙
          ap (λ z. get_or z i y) (sym is) ∙ get_or_from_slice_get ys i y y there,
    )

module _ (t : Terrain) (c : Cutting) (tiles : List FloodWithMeetings) (n : ℕ) (size : length tiles ≡ n)
    (given : AreResults
    (λ job (x : FloodWithMeetings). IsTileFlood t c job x.flood × All (IsMeeting t x.flood) x.meetings.items) n tiles)
    (floods : List Flood) (floods_are : floods ≡ map (λ (x : FloodWithMeetings). x.flood) tiles) where
  here : (tile : ℕ) {x : FloodWithMeetings} → slice_get tiles tile ≡ Some x →
      IsTileFlood t c tile x.flood × All (IsMeeting t x.flood) x.meetings.items
  here tile {x} e =
      rw (get_or_from_slice_get tiles tile x x e) at
      (given tile x (omega (arith, size, slice_get_within tiles tile x e)))

  pub floods_given : IsCutting c → Cuts c t → n ≡ tile_count c → AreFloods t c floods
  floods_given h cuts same = record {
    lawful = h;
    cuts = cuts;
    count = omega (arith, ap length floods_are, length-map tiles (λ x. x.flood), size, same);
    each = λ tile f e. let x = image_at (λ x. x.flood) tiles floods tile f floods_are e in rw x.2 at (here tile x.1).0;
  }

  pub meetings_given : (met : List (Vec Meeting Global)) → met ≡ map (λ (x : FloodWithMeetings). x.meetings) tiles →
      AreMet t floods met
  meetings_given met met_are = record {
    count = omega (
      arith,
      ap length floods_are,
      ap length met_are,
      length-map tiles (λ x. x.flood),
      length-map tiles (λ x. x.meetings),
    );
    each = λ tile f list e h.
        let x = image_at (λ x. x.flood) tiles floods tile f floods_are e in
        let y = image_at (λ x. x.meetings) tiles met tile list met_are h in
        subst (λ (g : Flood). All (IsMeeting t g) list.items) x.2
        (subst (λ (z : Vec Meeting Global). All (IsMeeting t x.0.flood) z.items)
        (ap (λ (z : FloodWithMeetings). z.meetings) (same_Some x.0 y.0 (cc)) ∙ y.2) (here tile x.1).1);
  }
