-- If each tile's list has the tile's entries of a map, the lists joined are the map of the grid.
use Rattle.std.proofs.Common.{◌≡◌, ℕ, ◌*◌, ◌<◌, inl, inr, List, length, get_or, Option, None, Some, Vec, Global, vec_len, sym, ap, subst, refl, ◌∙◌, arith}
use Rattle.std.specs.Prelude.{slice_get, option_and_then}
use Rattle.std.proofs.lemmas.Option.{get_or_from_slice_get, slice_get-get_or, slice_get_within, slice_get_cases}
use Rattle.terrain.specs.Neighbours.{entry_at, index_of}
use Rattle.terrain.specs.declared.place.Place.{Place}
use Rattle.terrain.proofs.Places.{entry-inside, index_below}
use Rattle.tile_jobs.specs.Results.{AreResults}
use Rattle.tiles.specs.Cutting.{Cutting, IsCutting, IsInTile, IsWithin, AreTileLists, IsPutBack, cell_count, index_in_tile, tile_count, tile_entry, tile_of_place}
use Rattle.tiles.proofs.Cut.{tile_of_place_below}
use Rattle.tiles.proofs.TileOrder.{index_in_tile_is, tile_entry-in}
use Rattle.tile_maps.specs.Maps.{IsMadeTile, IsMadeMap}

module _ {X : Type 0} (c : Cutting) (Has : Place → X → Type 0) (n : ℕ)
    (lists : Vec (Vec X Global) Global) (count : vec_len lists ≡ n) (all : n ≡ tile_count c)
    (given :
    AreResults (λ tile (list : Vec X Global). IsMadeTile c tile Has list.items) n lists.items) where
  made_at : (tile : ℕ) (list : Vec X Global) → slice_get lists.items tile ≡ Some list →
      IsMadeTile c tile Has list.items
  made_at tile list e = subst (λ (v : Vec X Global). IsMadeTile c tile Has v.items)
      (get_or_from_slice_get lists.items tile list list e)
      (given tile list (omega (arith, lists.ok.0, count, slice_get_within lists.items tile list e)))

  pub lists_of_tiles : AreTileLists c lists.items
  lists_of_tiles = record {
    count = omega (arith, lists.ok.0, count, all);
    each = λ tile list e. (made_at tile list e).size;
  }

  pub made_whole : (whole : List X) → IsCutting c → IsPutBack c lists.items whole →
      IsMadeMap c Has whole
  made_whole whole lawful put = record {
    size = put.size;
    each = λ p within entry is.
        let tile = tile_of_place c p in
        elim (slice_get_cases lists.items tile).1 [
          | inr past ↦ absurd
              (omega (arith, past.0, lists_of_tiles.count, tile_of_place_below c p lawful within))
          | inl list ↦
              let at : Option (Vec X Global) → Option X = λ o.
              option_and_then (λ (l : Vec X Global). slice_get l.items (index_in_tile c p)) o in
              (made_at tile list.0 list.2).each p (within, refl) entry (sym (ap at list.2)
              ∙ sym (put.each p within) ∙ is)
        ];
  }

pub tile_of_entries : {X : Type 0} (c : Cutting) (tile : ℕ) (Has : Place → Option X → Type 0)
    (list : List (Option X)) → length list ≡ cell_count c tile →
    ((p : Place) → IsInTile c tile p → Has p (tile_entry c tile list p)) →
    IsMadeTile c tile Has list
tile_of_entries {X} c tile Has list size each = record {
  size = size;
  each = λ p i entry is. subst (λ (o : Option X). Has p o)
      (tile_entry-in c tile list p i
      ∙ ap (λ n. get_or list n None) (sym (index_in_tile_is c tile p i.1))
      ∙ get_or_from_slice_get list (index_in_tile c p) entry None is)
      (each p i);
}

pub entry_of_map : {X : Type 0} (c : Cutting) (Has : Place → Option X → Type 0)
    (whole : List (Option X)) → IsMadeMap c Has whole → (p : Place) → IsWithin c p →
    Has p (entry_at c.cols c.rows whole p)
entry_of_map {X} c Has whole made p within =
    subst (λ (o : Option X). Has p o) (sym (entry-inside c.cols c.rows whole p within.0 within.1))
    (made.each p within (get_or whole (index_of c.cols p) None)
    (slice_get-get_or whole (index_of c.cols p) None
    (omega (arith, made.size, index_below c.cols c.rows p within.0 within.1))))

-- A map of `cols` by `rows` cells has one entry for each cell, and `Has` holds of each entry.
pub map_of_size : {X : Type 0} (c : Cutting) (cols rows : ℕ) (Has : Place → Option X → Type 0)
    (whole : List (Option X)) → c.cols ≡ cols → c.rows ≡ rows → IsMadeMap c Has whole →
    (length whole ≡ cols * rows)
    × ((p : Place) → (p.row < rows) × (p.col < cols) → Has p (entry_at cols rows whole p))
map_of_size {X} c cols rows Has whole same_cols same_rows made = (
  made.size ∙ ap (λ n. n * c.rows) same_cols ∙ ap (λ n. cols * n) same_rows,
  λ p inside. subst (λ (o : Option X). Has p o) (ap (λ n. entry_at n c.rows whole p) same_cols
      ∙ ap (λ n. entry_at cols n whole p) same_rows)
      (entry_of_map c Has whole made p
      (omega (arith, inside, same_rows), omega (arith, inside, same_cols))),
)
