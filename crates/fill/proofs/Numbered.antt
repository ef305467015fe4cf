-- In `places_of` and `ends_of`, a label's number is the index of its place and, if it is an end
-- cell, of its height.
use Rattle.std.proofs.Common.{◌≡◌, ℕ, zero, suc, ◌+◌, ◌<◌, ◌≤◌, ℤ, List, [], ◌∷◌, length, get_or, take, None, Some, ◌∙◌, sym, subst, refl, arith}
use Rattle.std.specs.Prelude.{slice_get}
use Rattle.std.specs.List.{flat_map}
use Rattle.std.proofs.lemmas.Bool.{cond-true}
use Rattle.std.proofs.lemmas.Option.{slice_get_within, get_or_from_slice_get}
use Rattle.std.proofs.lemmas.List.Concat.{get_or-flat_map}
use Rattle.std.proofs.lemmas.List.{get_or-map, length-append, length-map, take_all}
use Rattle.terrain.specs.Raster.{Terrain}
use Rattle.terrain.specs.declared.place.Place.{Place}
use Rattle.tiles.specs.Cutting.{Cutting, tile_of_place, index_in}
use Rattle.tiles.proofs.TileOrder.{entry_in-inside, bounds_from_entry}
use Rattle.tiles.proofs.Cut.{in_bounds_from}
use Rattle.cell_floods.specs.Labels.{labels_by}
use Rattle.cell_floods.specs.TileFlood.{Flood, IsFlood, level_in, label_in}
use Rattle.fill.specs.Gathering.{Fit, cell_label_among}
use Rattle.fill.specs.Numbers.{places_of, ends_of, first_of}
use Rattle.fill.specs.SpillGraph.{AreFloods, level_among, label_among}
use Rattle.fill.specs.declared.cell_labels.CellLabel.{CellLabel}
use Rattle.fill.proofs.CellLabels.{some_below, labelled, cell_label_from_tile, cell_label_some}
use Rattle.fill.proofs.LabelNets.{among_is, list_there}

-- If `g` and `h` give lists of equal lengths for each item, their `flat_map`s over the first `i`
-- items have equal lengths.
flat_same : {X Y Z : Type 0} (g : X → List Y) (h : X → List Z) (xs : List X) (i : ℕ) → i ≤ length xs →
    ((k : ℕ) (d : X) → k < length xs → length (g (get_or xs k d)) ≡ length (h (get_or xs k d))) →
    length (flat_map g (take i xs)) ≡ length (flat_map h (take i xs))
flat_same g h [] zero low same = refl
flat_same g h [] (suc i) low same = absurd (omega arith)
flat_same g h (x ∷ xs) zero low same = refl
flat_same g h (x ∷ xs) (suc i) low same =
    let here = same 0 x (omega arith) in
    let rest = flat_same g h xs i (omega arith) (λ k d below. same (suc k) d (omega arith)) in
    length-append (g x) (flat_map g (take i xs)) ∙ omega arith ∙ sym (length-append (h x) (flat_map h (take i xs)))

-- In `places_of`, the place at the number of an entry of a tile's table is that entry.
pub place_at : (floods : List Flood) (tile k : ℕ) {f : Flood} → slice_get floods tile ≡ Some f →
    k < length f.table.places → get_or (places_of floods) (first_of floods tile + k) None ≡ get_or f.table.places k None
place_at floods tile k {f} there inside =
    let is = get_or_from_slice_get floods tile f f there in
    cc (get_or-flat_map (λ g. g.table.places) floods tile k f None (slice_get_within floods tile f there)
    (subst (λ (g : Flood). k < length g.table.places) (sym is) inside))

module _ {t : Terrain} {c : Cutting} {floods : List Flood} (are : AreFloods t c floods) where
  ends_size : (i : ℕ) (d : Flood) → i < length floods →
      length (get_or floods i d).ends ≡ length (get_or floods i d).table.places
  ends_size i d below =
      let x = list_there floods i below in
      rw (get_or_from_slice_get floods i _ d x.1) (are.each i x.0 x.1).ends.size

  -- In `ends_of`, the height at the number of entry k of a tile's table is entry k of the flood's
  -- `ends`.
  pub end_at : (tile k : ℕ) (f : Flood) → slice_get floods tile ≡ Some f → k < length f.table.places →
      get_or (ends_of floods) (first_of floods tile + k) None ≡ get_or f.ends k None
  end_at tile k f there inside =
      let is = get_or_from_slice_get floods tile f f there in
      let low = slice_get_within floods tile f there in
      cc (
        flat_same (λ (g : Flood). g.table.places) (λ (g : Flood). g.ends) floods tile (omega (arith, low))
            (λ i d below. sym (ends_size i d below)),
        get_or-flat_map (λ (g : Flood). g.ends) floods tile k f None low
            (subst (λ (g : Flood). k < length g.ends) (sym is) (omega (
              arith,
              (are.each tile f there).ends.size,
              inside,
            ))),
      )

  pub ends_length : length (ends_of floods) ≡ length (places_of floods)
  ends_length =
      let all : take (length floods) floods ≡ floods = take_all (length floods) floods (omega arith) in
      cc (flat_same (λ (g : Flood). g.ends) (λ (g : Flood). g.table.places) floods (length floods)
      (omega arith) ends_size)

  pub fit_of : Fit c floods
  fit_of = record {
    count = are.count;
    bounds = λ tile f e. (are.each tile f e).bounds;
    sizes = λ tile f e. cc ((are.each tile f e).labels_size, (are.each tile f e).bounds);
    levels = λ tile f e. cc ((are.each tile f e).levels_size, (are.each tile f e).bounds);
  }

abbrev pub AreLawful : List Flood → Type 0
AreLawful floods = (tile : ℕ) (f : Flood) → slice_get floods tile ≡ Some f → IsFlood f

-- Cell label m has the level of cell p and the number of its label. In the table of the cell's
-- tile, the label is entry `entry`.
pub record IsNumbered (c : Cutting) (floods : List Flood) (p : Place) (m : CellLabel) : Type 0 where
  pub flood : Flood
  pub entry : ℕ
  pub label : Place
  pub there : slice_get floods (tile_of_place c p) ≡ Some flood
  pub level_is : level_among c floods p ≡ Some m.level
  pub label_is : label_among c floods p ≡ Some label
  pub listed : get_or flood.table.places entry None ≡ Some label
  pub inside : entry < length flood.table.places
  pub node : first_of floods (tile_of_place c p) + entry ≡ m.node

module _ (c : Cutting) (floods : List Flood) (p : Place) where
  pub numbered : {m : CellLabel} → AreLawful floods → cell_label_among c floods p ≡ Some m → IsNumbered c floods p m
  numbered {m} lawful e =
      let x = labelled c floods p m e in
      let f = x.flood in
      let i = index_in f.bounds p in
      let entry = get_or f.table.indexes i 0 in
      let at : get_or (labels_by f.table.places f.table.indexes) i None ≡ Some x.label =
      cc ((lawful _ f x.there).labels) in
      let low : i < length f.table.indexes = omega (
        arith,
        some_below (labels_by f.table.places f.table.indexes) i at,
        length-map f.table.indexes (λ n. get_or f.table.places n None),
      ) in
      let listed : get_or f.table.places entry None ≡ Some x.label =
      sym (get_or-map (λ n. get_or f.table.places n None) f.table.indexes i 0 None low) ∙ at in
      record {
        flood = f;
        entry = entry;
        label = x.label;
        there = x.there;
        level_is = among_is (λ g. level_in g p) floods (tile_of_place c p) x.there ∙
            entry_in-inside f.bounds f.levels p x.inside ∙ x.level_is;
        label_is = among_is (λ g. label_in g p) floods (tile_of_place c p) x.there ∙
            entry_in-inside f.bounds f.labels p x.inside ∙ x.label_is;
        listed = listed;
        inside = some_below f.table.places entry listed;
        node = x.node_is;
      }

  -- In `places_of`, the place at the number of a cell's label is that label.
  pub number_label : {m : CellLabel} (x : IsNumbered c floods p m) →
      get_or (places_of floods) m.node None ≡ Some x.label
  number_label x = cc (place_at floods _ _ x.there x.inside)

  pub number_below : (m : CellLabel) → AreLawful floods → cell_label_among c floods p ≡ Some m →
      m.node < length (places_of floods)
  number_below m lawful e = some_below (places_of floods) m.node (number_label (numbered lawful e))

  pub has_cell_label : {level : ℤ} {label : Place} {f : Flood} → slice_get floods (tile_of_place c p) ≡ Some f →
      level_among c floods p ≡ Some level → label_among c floods p ≡ Some label →
      (node : ℕ) × (cell_label_among c floods p ≡ Some (record { level = level; node = node }))
  has_cell_label {level} {label} {f} there level_is label_is =
      let first = first_of floods (tile_of_place c p) in
      let level_here = sym (among_is _ floods _ there) ∙ level_is in
      let inside = bounds_from_entry _ _ p level level_here in (
        first + get_or f.table.indexes (index_in f.bounds p) 0,
        sym (cell_label_from_tile c floods p there refl) ∙ cond-true _ _ _ (in_bounds_from _ p inside) ∙
            cell_label_some _ (sym (entry_in-inside _ _ p inside) ∙ level_here)
            (sym (entry_in-inside _ _ p inside) ∙ (sym (among_is _ floods _ there) ∙ label_is)),
      )
