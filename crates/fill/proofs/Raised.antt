-- A cell's raised height is the greater of its level and its label's least crest. It is the cell's
-- filled height, and all tiles together give the filled grid.
use Rattle.std.proofs.Common.{◌≡◌, ℕ, ◌+◌, ◌*◌, ◌<◌, ◌⊎◌, inl, inr, ℤ, List, length, get_or, map, Option, None, Some, is_some, ◌∙◌, sym, ap, subst, refl, arith, zero, suc, ◌/◌, ◌%◌, IfSome, MatchOption, mul_comm, pos, Vec, Global}
use Rattle.std.specs.Prelude.{slice_get, option_and_then, option_map}
use Rattle.std.specs.Int.{int_max}
use Rattle.std.specs.Ordering.{int_eq}
use Rattle.std.proofs.lemmas.Bool.{cases_eq, cases_Bool, cond-true, cond-false}
use Rattle.std.proofs.lemmas.List.{get_or-map, length-map}
use Rattle.terrain.specs.Raster.{Terrain, IsTerrain, IsHeight, Raster}
use Rattle.terrain.specs.StoredCells.{cell_of, stored_cell, no_data}
use Rattle.terrain.proofs.Stored.{stored_some}
use Rattle.terrain.specs.Sinks.{with_sinks}
use Rattle.terrain.specs.Neighbours.{height_at, index_of, entry_at, IsDataCell, IsInside}
use Rattle.drainage.specs.Filled.{IsFilledHeight, IsFilled, IsFilledGrid, IsOwnFilled}
use Rattle.terrain.specs.declared.place.Place.{Place}
use Rattle.terrain.proofs.Orders.{max_left, max_right}
use Rattle.terrain.proofs.Places.{entry-inside, index_injective, index_below, inside_from_entry, same_place}
use Rattle.drainage.proofs.Heights.{filled_height_occurs}
use Rattle.tiles.specs.Cutting.{Cutting, IsCutting, IsInBounds, IsInTile, IsWithin, bounds_of, cell_count, tile_count, tile_entry, tile_of_place, Cuts, View, terrain_of, index_in}
use Rattle.tiles.proofs.Cut.{bounds_inside, in_bounds, in_tile, tile_of_place_below}
use Rattle.tiles.proofs.TileOrder.{tile_entry-in, entry_in-inside, index_in_below}
use Rattle.cell_floods.specs.TileFlood.{Flood, level_in, label_in, IsMeeting, IsTileFlood}
use Rattle.cell_floods.specs.declared.tile.Meeting.{Meeting}
use Rattle.fill.specs.SpillGraph.{AreFloods, level_among, label_among, AreLeastCrests, crest_of, greater_of, raised_by, IsRaised, IsFilledTile, IsGraphOf, IsPass, Graph, HasJoin, source_in}
use Rattle.fill.specs.RaisedTiles.{AreTileRuns, HasTile, IsRaisedTile, cell_at, raised_among, raised_cell, crest_with}
use Rattle.fill.specs.RaisedRuns.{AreAllRaised, IsInTiles, IsPatched}
use Rattle.fill.specs.declared.raised_runs.RaisedRun.{RaisedRun}
use Rattle.fill.specs.Crests.{AreCrests}
use Rattle.fill.specs.Held.{AreAsRead, AreHeldTiles, IsHeld}
use Rattle.fill.specs.Numbers.{first_of, places_of}
use Rattle.fill.proofs.Settled.{IsSettled, settled, settled_filled}
use Rattle.drainage.proofs.Reach.{HasLowPath}
use Rattle.fill.proofs.CellLabels.{entry_cell_label, label_entry}
use Rattle.fill.proofs.Numbered.{AreLawful, fit_of, has_cell_label, number_label, numbered}
use Rattle.fill.specs.declared.raised_tiles.RaisedTile.{RaisedTile}
use Rattle.fill.specs.Gathering.{Fit, cell_label_among, cell_label_of, cell_label_with}
use Rattle.cell_floods.proofs.Where.{levels_where-at}
use Rattle.fill.proofs.Gathered.{labels_within}
use Rattle.cell_floods.proofs.Rectangles.{data_is}
use Rattle.cell_floods.proofs.TileRectangles.{data_within}
use Rattle.terrain.proofs.Options.{cases_option, match_of, none_some}
use Rattle.fill.proofs.LabelNets.{HasTileLevel, IsLabelNet, has_tile_level, among_is, filled_height_is, list_there, low_below, low_from_label}
use Rattle.std.specs.List.{Contains, All}
use Rattle.std.proofs.lemmas.Option.{MatchOption-at_some, MatchOption-at_none, get_or_from_slice_get, slice_get_within, same_Some}
use Rattle.std.proofs.lemmas.List.Elements.{All-contains, All-from_get_or}
use Rattle.std.proofs.lemmas.Nat.{div-add-mod', div-mul-add, mod-mul-add, mod_below, div_below}
use Rattle.tile_jobs.specs.Results.{AreResults}
use Rattle.tile_maps.specs.Maps.{IsMadeMap}
use Rattle.tile_maps.proofs.Whole.{map_of_size}
use Rattle.drainage.proofs.FilledTwice.{filled_twice}

module _ {first : ℕ} {f : Flood} {crests : List (Option ℤ)} {x : RaisedTile}
    (tile : IsRaisedTile first f crests x) where
  -- The lists of a raised tile give a cell the raised height that the flood and the crests give. A
  -- cell without a label has the first entry of the table, which has no crest.
  pub raised_stored : (i : ℕ) → (0 < length f.table.places → get_or crests (first + 0) None ≡ None) →
      i < length f.labels →
      cell_at x i ≡ cell_of (greater_of (get_or f.levels i None) (crest_with crests (cell_label_with first f i)))
  raised_stored i bare below =
      let h = get_or x.heights.now i (pos 0) in
      let k = get_or f.table.indexes i 0 in
      let inside : i < length f.table.indexes = omega (arith, below, table_size) in
      let listed = ap (λ z. get_or z i None) tile.lawful.labels ∙ get_or-map _ _ i 0 None inside in
      let level = ap (λ z. get_or z i None) tile.heights ∙ levels_where-at _ _ i (sym tile.size) in
      ap (λ z. cell_of (greater_of (Some h) (get_or x.crests.now (get_or z i 0) None))) tile.labels ∙
      ap (λ o. cell_of (greater_of (Some h) o)) (tile.each k (tile.lawful.table.inside i 0 inside)) ∙
      ap cell_of
      (by (get_or f.labels i None) (get_or f.levels i None) h k listed level (tile.lawful.table.inside i 0 inside))
    where
      table_size : length f.labels ≡ length f.table.indexes
      table_size = ap length tile.lawful.labels ∙ length-map _ _

      by : (label : Option Place) (level : Option ℤ) (h : ℤ) (k : ℕ) → label ≡ get_or f.table.places k None →
          level ≡ option_map (λ _. h) label → k < length f.table.places →
          greater_of (Some h) (get_or crests (first + k) None) ≡
          greater_of level (crest_with crests (cell_label_of (first + k) level label))
      by (Some p) level h k listed is low = rw is refl
      by None level h k listed is low = elim (cases_eq k 0) [
        | inl none ↦ ap (λ n. greater_of (Some h) (get_or crests (first + n) None)) none ∙
            ap (greater_of (Some h)) (bare (omega (arith, low))) ∙ sym (rw is refl)
        | inr some ↦ absurd (cc (tile.lawful.table.rest k (omega (arith, some)) low, listed))
      ]

-- The row and the column of a place's index are those of the place.
place_back : (cols : ℕ) (p : Place) → p.col < cols →
    record { row = index_of cols p / cols; col = index_of cols p % cols } ≡ p
place_back cols p low = same_place _ p (div-mul-add _ cols _ low) (mod-mul-add _ cols _ low)

-- The raised height of a place; `levels` has the least crests of labels by place.
abbrev placed_among : Cutting → List Flood → List (Option ℤ) → Place → Option ℤ
placed_among c floods levels p = raised_by c levels (level_among c floods p) (label_among c floods p)

module _ {c : Cutting} {floods : List Flood} (tile : ℕ) {f : Flood} (h : IsCutting c) (fit : Fit c floods)
    (there : slice_get floods tile ≡ Some f) where
  module _ {k : ℕ} (levels : List (Option ℤ)) (p : Place) (i : IsInTile c tile p)
      (at : k ≡ index_in (bounds_of c tile) p) where
    -- With least crests by place, the raised height at p's index k in its tile is that of p.
    pub raised_here : raised_by c levels (get_or f.levels k None) (get_or f.labels k None) ≡
        placed_among c floods levels p
    raised_here =
        let bounds = fit.bounds tile f there in
        let held = subst (λ x. IsInBounds x p) (sym bounds) (in_bounds c tile p h i) in
        let index = ap (λ x. index_in x p) bounds ∙ sym at in
        let label : label_in f p ≡ get_or f.labels k None =
        entry_in-inside f.bounds f.labels p held ∙ ap (λ n. get_or f.labels n None) index in
        let own : slice_get floods (tile_of_place c p) ≡ Some f = ap (slice_get floods) i.1 ∙ there in
        let own_level =
        among_is (λ g. level_in g p) floods (tile_of_place c p) own ∙
        (entry_in-inside f.bounds f.levels p held ∙ ap (λ n. get_or f.levels n None) index) in
        sym (ap (λ z. raised_by c levels z (get_or f.labels k None)) own_level) ∙
        sym (ap (raised_by c levels (level_among c floods p))
        (among_is (λ g. label_in g p) floods (tile_of_place c p) own ∙ label))

    -- With least crests by number, the raised height at p's index k in its tile is that of p.
    number_here : greater_of (get_or f.levels k None) (crest_with levels (cell_label_with (first_of floods tile) f k)) ≡
        raised_among c floods levels p
    number_here =
        let bounds = fit.bounds tile f there in
        let inside = in_bounds c tile p h i in
        let held = subst (λ x. IsInBounds x p) (sym bounds) inside in
        let index = ap (λ x. index_in x p) bounds ∙ sym at in
        let below : tile < tile_count c = omega (arith, fit.count, slice_get_within floods tile f there) in
        let level =
        among_is _ floods _ (ap (slice_get floods) i.1 ∙ there) ∙ entry_in-inside _ _ p held ∙
        ap (λ n. get_or f.levels n None) index in
        sym (ap (λ z. greater_of z (crest_with levels (cell_label_with (first_of floods tile) f k))) level) ∙
        sym (ap (λ z. greater_of (level_among c floods p) (crest_with levels z))
        (entry_cell_label c floods tile f p k h below there bounds inside at))

  pub raised_tile : (levels raised : List (Option ℤ)) → IsRaised c f levels raised →
      (length raised ≡ cell_count c tile) ×
      ((p : Place) → IsInTile c tile p → tile_entry c tile raised p ≡ placed_among c floods levels p)
  raised_tile levels raised is =
      let area = fit.levels tile f there ∙ ap (λ x. x.rows * x.cols) (fit.bounds tile f there) in (
        is.size ∙ area,
        λ p i.
            let b = bounds_of c tile in
            tile_entry-in c tile raised p i ∙
            is.each (index_in b p) (omega (arith, index_in_below b p (in_bounds c tile p h i), area)) ∙
            raised_here levels p i refl,
      )

  -- A tile's lists give its places their raised cells.
  pub raised_places : {crests : List (Option ℤ)} (x : RaisedTile) → tile < tile_count c →
      (0 < length f.table.places → get_or crests (first_of floods tile + 0) None ≡ None) →
      IsRaisedTile (first_of floods tile) f crests x → HasTile x (raised_cell c floods crests) c tile
  raised_places {crests} x low bare by p inside =
      let b = bounds_of c tile in
      let k = index_in b p in
      let below : k < length f.labels =
      omega (
        arith,
        index_in_below b p inside,
        fit.sizes tile f there ∙
            ap (λ x. x.rows * x.cols) (fit.bounds tile f there),
      ) in
      ap (λ q. cell_of (raised_among c floods crests q))
      (place_back _ p (omega (arith, inside, (bounds_inside c tile h low).cols_inside))) ∙
      sym (ap cell_of (number_here crests p (in_tile c tile p h low inside) refl)) ∙ sym (raised_stored by k bare below)

-- The cells read, with the runs of all tiles in their places, are the raised cells.
pub patched_map : (c : Cutting) (floods : List Flood) (levels : List (Option ℤ)) {cells whole : List (Option ℤ)}
    (tiles : List (Vec RaisedRun Global)) → IsCutting c → length cells ≡ c.cols * c.rows → length tiles ≡ tile_count c →
    AreResults (λ tile (runs : Vec RaisedRun Global).
    AreTileRuns (raised_cell c floods levels) (record { cutting = c; tile = tile; cells = cells }) runs.items)
    (tile_count c) tiles →
    ((raised : ℕ → Option ℤ) → AreAllRaised raised tiles → IsPatched raised cells (IsInTiles tiles) whole) →
    IsMadeMap c (λ p cell. (cell ≡ cell_of (raised_among c floods levels p)) ×
    (IsInTiles tiles (index_of c.cols p) ⊎ (cell ≡ get_or cells (index_of c.cols p) None))) whole
patched_map c floods levels {cells} {whole} tiles h size count given patched =
    let raised = raised_cell c floods levels in
    let all =
    patched raised (λ runs at.
    (subst (λ z. AreTileRuns raised (record { cutting = c; tile = at.0; cells = cells }) z.items) at.2
    (given at.0 runs (omega (arith, at.1, count)))).sound) in
    record {
      size = all.size ∙ size;
      each = λ p within entry is.
          let tile = tile_of_place c p in
          let i = index_of c.cols p in
          let low = tile_of_place_below c p h within in
          let below : i < length cells = omega (arith, index_below _ _ p within.0 within.1, size) in
          let runs = list_there tiles tile (omega (arith, low, count)) in
          let same = get_or_from_slice_get tiles tile _ _ runs.1 in
          let entry_is = sym (get_or_from_slice_get whole i entry None is) in (
            entry_is ∙ (elim (all.each i below) [
              | inl found ↦ found.1
              | inr as_read ↦
                  elim ((subst (λ (z : Vec RaisedRun Global).
                  AreTileRuns raised (record { cutting = c; tile = tile; cells = cells }) z.items) same
                  (given tile runs.0 low)).each p (in_bounds c tile p h (within, refl))) [
                    | inl there ↦ absurd (as_read.1 (runs.0, (tile, omega (arith, low, count), same), there))
                    | inr level ↦ as_read.0 ∙ level
                  ]
            ]) ∙ ap (λ q. cell_of (raised_among c floods levels q)) (place_back _ p within.1),
            elim (all.each i below) [
              | inl found ↦ inl found.0
              | inr as_read ↦ inr (entry_is ∙ as_read.0)
            ],
          );
    }

module _ {t : Terrain} {c : Cutting} {floods : List Flood} (are : AreFloods t c floods) where
  label_inside : (p : Place) {label : Place} → label_among c floods p ≡ Some label → IsWithin c label
  label_inside p {label} e = elim (cases_option (slice_get floods (tile_of_place c p))) [
    | inl none ↦ none_some (label_among c floods p) label (ap (option_and_then (λ g. label_in g p)) none) e
    | inr f ↦
        let entry = label_entry f.0 p (sym (among_is _ floods _ f.1) ∙ e) in
        labels_within t c floods _ _ are f.1 entry.0 label entry.1
  ]

  -- The spill graph by places is a net whose nodes are labels (`IsLabelNet`). A label's number there
  -- is the node of its place.
  place_net : (g : Graph) → IsGraphOf t c floods g →
      IsLabelNet t c floods (λ p. option_map (index_of c.cols) (label_among c floods p)) (HasJoin g) (source_in g)
  place_net g graph = record {
    some = λ p has. let l = has_tile_level t are.lawful are p has in
        (index_of c.cols l.label, ap (option_map (index_of c.cols)) l.label_is);
    one = λ p q a p_is q_is.
        let x = label_of p a p_is in
        let y = label_of q a q_is in
        x.1 ∙ ap Some (index_injective c.cols x.0 _ x.3.1 y.3.1 (x.2 ∙ sym y.2)) ∙ sym y.1;
    joined = λ a b h differ meet.
        let x = label_of meet.from a meet.from_number in
        let y = label_of meet.to b meet.to_number in
        let pass : IsPass t c floods a b h = record {
          from = meet.from;
          to = meet.to;
          from_level = meet.from_level;
          to_level = meet.to_level;
          neighbours = meet.neighbours;
          from_label = (x.0, x.1, x.2);
          to_label = (y.0, y.1, y.2);
          from_is = meet.from_is;
          to_is = meet.to_is;
          greater = meet.greater;
        } in
        let join = graph.joined a b h differ pass in
        (join.0, join.1, (graph.joined_only a b join.0 join.1).least h pass);
    joined_only = λ a b h join.
        let pass = (graph.joined_only a b h join).pass in
        record {
          from = pass.from;
          to = pass.to;
          from_level = pass.from_level;
          to_level = pass.to_level;
          neighbours = pass.neighbours;
          from_number = ap (option_map (index_of c.cols)) pass.from_label.1 ∙ ap Some pass.from_label.2;
          to_number = ap (option_map (index_of c.cols)) pass.to_label.1 ∙ ap Some pass.to_label.2;
          from_is = pass.from_is;
          to_is = pass.to_is;
          greater = pass.greater;
        };
    end_source = λ p a h end own is height.
        let x = label_of p a is in
        let same = same_Some _ p (sym x.1 ∙ own) in
        let at = ap (index_of c.cols) (sym same) ∙ x.2 in
        subst (λ n. source_in g n ≡ Some h) at (graph.sources.each p h (p, own, refl) end height);
    source_end = λ p a h has is source.
        let x = label_of p a is in
        let end = graph.sources.only a h source in
        let within = data_within t c _ are.cuts (ap is_some end.4) in
        let same = index_injective _ _ _ within.1 x.3.1 (end.1 ∙ sym x.2) in
        (end.0, x.1 ∙ ap Some (sym same), end.3, end.4);
  } where
    from_option : (o : Option Place) (a : ℕ) → option_map (index_of c.cols) o ≡ Some a →
        (label : Place) × (o ≡ Some label) × (index_of c.cols label ≡ a)
    from_option None a e = absurd (cc)
    from_option (Some label) a e = (label, refl, same_Some _ a e)

    label_of : (p : Place) (a : ℕ) → option_map (index_of c.cols) (label_among c floods p) ≡ Some a →
        (label : Place) × (label_among c floods p ≡ Some label) × (index_of c.cols label ≡ a) × IsWithin c label
    label_of p a e =
        let x = from_option (label_among c floods p) a e in
        (x.0, x.1, x.2, label_inside p x.1)

  no_level : (p : Place) → IsWithin c p → height_at t p ≡ None → level_among c floods p ≡ None
  no_level p within none =
      let tile = tile_of_place c p in
      let f = list_there floods tile (omega (arith, are.count, tile_of_place_below c p are.lawful within)) in
      among_is _ floods tile f.1 ∙ (MatchOption-at_none _ _ none ((are.each tile f.0 f.1).each p (within, refl))).0

  -- Let the greater of a data cell's level and `crest` be the cell's filled height. Then `greater_of`
  -- gives that height, and None for a place without data.
  raised_filled : (p : Place) → IsWithin c p → {crest : Option ℤ} → ((l : HasTileLevel t c floods p) → IsDataCell t p →
      (n : ℤ) × (crest ≡ Some n) × IsFilledHeight t p (int_max l.level n)) →
      MatchOption (height_at t p) (greater_of (level_among c floods p) crest ≡ None)
      (λ _. (level : ℤ) × (greater_of (level_among c floods p) crest ≡ Some level) × IsFilledHeight t p level)
  raised_filled p within {crest} has = match_of _ _ _ (λ none. rw (no_level p within none) refl) (λ h some.
      let l = has_tile_level t are.lawful are p (ap is_some some) in
      let filled = has l (ap is_some some) in
      (int_max l.level filled.0, both l.level filled.0 l.level_is filled.1, filled.2)) where
        both : (x n : ℤ) → level_among c floods p ≡ Some x → crest ≡ Some n →
            greater_of (level_among c floods p) crest ≡ Some (int_max x n)
        both x n a b = rw (a, b) refl

  pub filled_tile : (tile : ℕ) {f : Flood} {levels : List (Option ℤ)} (raised : List (Option ℤ)) →
      slice_get floods tile ≡ Some f → AreLeastCrests t c floods levels → IsRaised c f levels raised →
      IsFilledTile t c tile raised
  filled_tile tile {levels} raised there least is =
      let made = raised_tile tile are.lawful (fit_of are) there levels raised is in
      let g = least.0 in
      record {
        size = made.0;
        each = λ p i.
            subst (λ o.
            MatchOption (height_at t p) (o ≡ None) (λ _. (level : ℤ) × (o ≡ Some level) × IsFilledHeight t p level))
            (sym (made.1 p i)) (raised_filled p i.0 (λ l data_is.
            let within = label_inside p l.label_is in
            let filled =
            filled_height_is t c floods are.lawful are (λ q. option_map (index_of c.cols) (label_among c floods q))
            (HasJoin g) (source_in g) (place_net g least.1) levels least.2.1 p l data_is
            (ap (option_map (index_of c.cols)) l.label_is)
            (omega (arith, least.1.count, index_below _ _ _ within.0 within.1)) in
            (filled.0, ap (crest_of c levels) l.label_is ∙ filled.1, filled.2)));
      }

-- A filled height is a height of the grid, so a cell can store it.
fits_in_cell : (t : Terrain) (p : Place) (level : ℤ) → IsTerrain t → IsFilledHeight t p level →
    cell_of (Some level) ≡ Some level
fits_in_cell t p level lawful filled =
    stored_some level
    (All-contains (λ c. IfSome c IsHeight) t.cells _ lawful.heights (filled_height_occurs t p level filled)).1

-- Filled heights, stored as cells, are filled heights.
pub filled_stored : {t : Terrain} {levels : List (Option ℤ)} → IsTerrain t → IsFilled t levels →
    IsFilled t (map cell_of levels)
filled_stored {t} {levels} lawful filled = record {
  size = length-map levels cell_of ∙ filled.size;
  each = λ p inside.
      let i = index_of t.cols p in
      let entry : entry_at t.cols t.rows (map cell_of levels) p ≡ cell_of (entry_at t.cols t.rows levels p) =
      entry-inside t.cols t.rows (map cell_of levels) p inside.0 inside.1 ∙
      get_or-map cell_of levels i None None
      (omega (arith, filled.size, index_below t.cols t.rows p inside.0 inside.1)) ∙
      ap cell_of (sym (entry-inside t.cols t.rows levels p inside.0 inside.1)) in
      match_of (height_at t p) _ _ (λ none. entry ∙ ap cell_of (MatchOption-at_none _ _ none (filled.each p inside)))
      (λ h some. let level = MatchOption-at_some _ _ h some (filled.each p inside) in
      (level.0, entry ∙ ap cell_of level.1 ∙ fits_in_cell t p level.0 lawful level.2, level.2));
}

-- Only the height that it stores is a cell's height.
stored_back : (o : Option ℤ) (level : ℤ) → cell_of o ≡ Some level → o ≡ Some level
stored_back None level is = absurd cc
stored_back (Some z) level is = elim (cases_Bool (int_eq z no_data)) [
  | inl lacks ↦ none_some (stored_cell z) level (cond-true _ _ _ lacks) is
  | inr other ↦ sym (cond-false _ _ _ other) ∙ is
]

-- Some path from a cell does not exceed its raised height.
raised_low : (t : Terrain) (c : Cutting) (floods : List Flood) (crests : List (Option ℤ)) → AreFloods t c floods →
    AreLawful floods → AreCrests t (places_of floods) crests → (p : Place) (level : ℤ) → IsDataCell t p →
    raised_among c floods crests p ≡ Some level → HasLowPath t level p
raised_low t c floods crests are lawful all p level has is =
    let l = has_tile_level t are.lawful are p has in
    let m =
    has_cell_label c floods p
    (list_there floods _
    (omega (arith, are.count, tile_of_place_below c p are.lawful (data_within t c p are.cuts has)))).1 l.level_is
    l.label_is in
    let x = numbered c floods p lawful m.1 in
    let sum =
    sym (ap (λ o. greater_of o (get_or crests m.0 None)) l.level_is) ∙
    sym (ap (λ o. greater_of (level_among c floods p) (crest_with crests o)) m.1) ∙ is in
    elim (cases_option _) [
      | inl none ↦ none_some _ level (ap (greater_of (Some l.level)) none) sum
      | inr crest ↦
          let leaves = all m.0 crest.0 crest.1 in
          let label = same_Some _ _ (sym leaves.1 ∙ number_label c floods p x ∙ sym x.label_is ∙ l.label_is) in
          subst (λ z. HasLowPath t z p) (same_Some _ _ (sym (ap (greater_of (Some l.level)) crest.1) ∙ sum))
          (low_from_label t c l.right (int_max l.level crest.0) (max_left _ _)
          (low_below t _ _ l.label (max_right _ _) (subst (HasLowPath t crest.0) label leaves.2)))
    ]

-- Raised cells are the filled heights of the grid if those that rose are held.
module _ (t : Terrain) (c : Cutting) (floods : List Flood) (crests whole : List (Option ℤ))
    (tiles : List (Vec RaisedRun Global)) (lawful : AreLawful floods) (are : AreFloods t c floods)
    (all : AreCrests t (places_of floods) crests)
    (made : IsMadeMap c (λ p cell. (cell ≡ cell_of (raised_among c floods crests p)) ×
    (IsInTiles tiles (index_of c.cols p) ⊎ (cell ≡ get_or t.cells (index_of c.cols p) None))) whole)
    (held : AreHeldTiles c.cols whole tiles) (sinks : AreAsRead c.cols t.cells whole t.sinks) where
  map_is : (length whole ≡ t.cols * t.rows) × ((p : Place) → IsInside t p →
      (entry_at t.cols t.rows whole p ≡ cell_of (raised_among c floods crests p)) ×
      (IsInTiles tiles (index_of c.cols p) ⊎
      (entry_at t.cols t.rows whole p ≡ get_or t.cells (index_of c.cols p) None)))
  map_is = map_of_size c _ _ _ whole are.cuts.0 are.cuts.1 made

  bare : (p : Place) → IsInside t p → height_at t p ≡ None → entry_at t.cols t.rows whole p ≡ None
  bare p inside none =
      (map_is.1 p inside).0 ∙ ap (λ o. cell_of (greater_of o (crest_with crests (cell_label_among c floods p))))
      (no_level are p (omega (arith, inside, are.cuts)) none)

  each : (p : Place) → IsDataCell t p → (level : ℤ) × IsSettled t whole p level
  each p has =
      let height = data_is _ has in
      let inside = inside_from_entry _ _ _ p _ height.1 in
      let e = map_is.1 p inside in
      let at = sym (entry-inside _ _ whole p inside.0 inside.1) in
      let index = ap (λ n. index_of n p) are.cuts.0 in
      let of_level : (level : ℤ) → entry_at t.cols t.rows whole p ≡ Some level →
      (IsHeld t.cols whole (index_of t.cols p) ⊎
      (get_or whole (index_of t.cols p) None ≡ get_or t.cells (index_of t.cols p) None)) →
      (level : ℤ) × IsSettled t whole p level = λ level is way. (
        level,
        settled t whole map_is.0 bare (subst (λ n. AreAsRead n t.cells whole t.sinks) are.cuts.0 sinks) p level has is
            (raised_low t c floods crests are lawful all p level has (stored_back _ level (sym e.0 ∙ is))) way,
      ) in
      elim e.1 [
        | inl risen ↦
            let own =
            subst (IsHeld t.cols whole) index
            (subst (λ n. IsHeld n whole (index_of c.cols p)) are.cuts.0 (held _ risen)) in
            of_level own.around.level (sym at ∙ own.around.is) (inl own)
        | inr as_read ↦
            let read : entry_at t.cols t.rows whole p ≡ get_or t.cells (index_of t.cols p) None =
            as_read ∙ ap (λ n. get_or t.cells n None) index in
            of_level height.0 (read ∙ sym (entry-inside _ _ _ p inside.0 inside.1) ∙ height.1) (inr (at ∙ read))
      ]

  pub filled_map : IsFilled t whole
  filled_map = settled_filled t whole each map_is.0 bare

module _ (t : Terrain) (c : Cutting) (job : ℕ) {v : View (Option ℤ)} {cells : List (Option ℤ)} {sinks : List Place}
    (cuts : Cuts c t) (view : v ≡ record { cutting = c; tile = job; cells = cells }) (same : cells ≡ t.cells)
    (named : sinks ≡ t.sinks) where
  -- The terrain that the view of a tile shows, with the sinks, is the grid's.
  terrain_of_view : with_sinks (terrain_of v) sinks ≡ t
  terrain_of_view = ap (λ x. with_sinks (terrain_of x) sinks) view ∙
      ap (λ n. record { cols = n; rows = c.rows; cells = cells; sinks = sinks }) cuts.0 ∙
      ap (λ n. record { cols = t.cols; rows = n; cells = cells; sinks = sinks }) cuts.1 ∙
      ap (λ z. record { cols = t.cols; rows = t.rows; cells = z; sinks = sinks }) same ∙
      ap (λ z. record { cols = t.cols; rows = t.rows; cells = t.cells; sinks = z }) named

  pub meetings_of_view : (f : Flood) (met : List Meeting) → All (IsMeeting (with_sinks (terrain_of v) sinks) f) met →
      All (IsMeeting t f) met
  meetings_of_view f met all = subst (λ x. All (IsMeeting x f) met) terrain_of_view all

pub flood_of_view : (t : Terrain) (c : Cutting) (job : ℕ) (v : View (Option ℤ)) (cells : List (Option ℤ))
    (sinks : List Place) (f : Flood) → Cuts c t → v ≡ record { cutting = c; tile = job; cells = cells } →
    cells ≡ t.cells → sinks ≡ t.sinks → IsTileFlood (with_sinks (terrain_of v) sinks) v.cutting v.tile f →
    IsTileFlood t c job f
flood_of_view t c job v cells sinks f cuts view same named flood =
    subst (λ x. IsTileFlood x c job f) (terrain_of_view t c job cuts view same named)
    (subst (λ x. IsTileFlood (with_sinks (terrain_of v) sinks) x.cutting x.tile f) view flood)

pub filled_stand : (t : Terrain) {levels : List (Option ℤ)} → IsFilled t levels →
    All (λ c. IfSome c (λ h. Contains t.cells (Some h))) levels
filled_stand t {levels} filled =
    All-from_get_or (λ c. IfSome c (λ h. Contains t.cells (Some h))) levels None
    (λ i below. each i below (cases_option (get_or levels i None))) where
      positive : (a b k : ℕ) → k < a * b → 0 < a
      positive zero b k h = absurd (omega (arith, h))
      positive (suc a) b k h = omega arith

      each : (i : ℕ) → i < length levels → (get_or levels i None ≡ None) ⊎ ((h : ℤ) × (get_or levels i None ≡ Some h)) →
          IfSome (get_or levels i None) (λ h. Contains t.cells (Some h))
      each i below (inl none) = subst (λ c. IfSome c (λ h. Contains t.cells (Some h))) (sym none) tt
      each i below (inr found) =
          let count : i < t.cols * t.rows = omega (arith, below, filled.size) in
          let some_cols = positive t.cols t.rows i count in
          let p : Place = record { row = i / t.cols; col = i % t.cols } in
          let inside : IsInside t p = (
            div_below i t.cols t.rows some_cols (omega (arith, count, mul_comm t.cols t.rows)),
            mod_below i t.cols some_cols,
          ) in
          let entry =
          entry-inside t.cols t.rows levels p inside.0 inside.1 ∙
          ap (λ n. get_or levels n None) (div-add-mod' i t.cols) ∙ found.1 in
          subst (λ c. IfSome c (λ h. Contains t.cells (Some h))) (sym found.1) (elim (cases_option (height_at t p)) [
            | inl none ↦
                none_some (entry_at t.cols t.rows levels p) found.0
                (MatchOption-at_none _ _ none (filled.each p inside)) entry
            | inr height ↦
                let level = MatchOption-at_some _ _ height.0 height.1 (filled.each p inside) in
                subst (λ z. Contains t.cells (Some z)) (same_Some level.0 found.0 (sym level.1 ∙ entry))
                (filled_height_occurs t p level.0 level.2)
          ])

pub filled_grid : (g : Raster) {f : Raster} {cells : List (Option ℤ)} →
    f ≡ record g { terrain = record g.terrain { cells = cells } } → IsFilled g.terrain cells →
    IsOwnFilled f × IsFilledGrid g f
filled_grid g {cells} is filled =
    subst (λ x. IsOwnFilled x × IsFilledGrid g x) (sym is)
    (filled_twice _ cells filled, record { filled = filled; rest = refl })
