-- A tile's cells have levels exactly where they have labels, and labels are data cells of the tile.
-- So labels, and heights that store the levels, give the levels back (`levels_where`).
use Rattle.std.proofs.Common.{◌≡◌, ◌==◌, ℕ, zero, suc, ◌+◌, ◌*◌, ◌<◌, inl, inr, ℤ, pos, List, [], ◌∷◌, map, length, get_or, Option, None, Some, is_some, option_map, sym, ap, subst, ◌∙◌, refl, arith}
use Rattle.std.proofs.lemmas.Bool.{cases_lt, eqb-true}
use Rattle.std.proofs.lemmas.List.{get_or-map, get_or_past, length-map}
use Rattle.std.proofs.lemmas.Option.{MatchOption-at_some, MatchOption-at_none, same_Some}
use Rattle.terrain.specs.Raster.{Terrain}
use Rattle.terrain.specs.Neighbours.{height_at, IsDataCell}
use Rattle.terrain.specs.declared.place.Place.{Place}
use Rattle.tiles.specs.declared.bounds.Bounds.{Bounds}
use Rattle.tiles.specs.Cutting.{Cutting, IsCutting, Cuts, IsInBounds, IsInTile, tile_count, tile_of_place, entry_in, place_in}
use Rattle.tiles.proofs.Cut.{in_tile}
use Rattle.cell_floods.specs.Cells.{inner_rows, last_cell}
use Rattle.terrain.proofs.Options.{cases_option, none_some}
use Rattle.cell_floods.proofs.InnerRows.{length-inner_rows}
use Rattle.cell_floods.specs.Labels.{IsTable, LabelTable, labels_by, label_of_node}
use Rattle.cell_floods.specs.TileFlood.{Flood, IsTileLevel, IsTilePath, flood_of, levels_where}
use Rattle.cell_floods.proofs.TileRectangles.{AreTileLevels, data_within}
use Rattle.drainage.proofs.Heights.{first_is_data}
use Rattle.std.specs.List.{All}
use Rattle.std.specs.Prelude.{IfSome}
use Rattle.std.proofs.lemmas.List.Elements.{All-from_get_or}
use Rattle.std.proofs.lemmas.List.Folds.{Any-from_list_any}
use Rattle.floods.specs.Notes.{height_or_lack}
use Rattle.tiles.proofs.TileOrder.{entry_in-inside, place_in_bounds, index_in-place_in}

pub levels_where-at : (labels : List (Option Place)) (heights : List ℤ) (i : ℕ) →
    length labels ≡ length heights → get_or (levels_where labels heights) i None
    ≡ option_map (λ _. get_or heights i (pos 0)) (get_or labels i None)
levels_where-at [] heights i e = refl
levels_where-at (label ∷ labels) [] i e = absurd (omega (arith, e))
levels_where-at (label ∷ labels) (height ∷ heights) zero e = refl
levels_where-at (label ∷ labels) (height ∷ heights) (suc i) e =
    levels_where-at labels heights i (omega (arith, e))

one_back : (label : Option Place) (level : Option ℤ) → is_some label ≡ is_some level →
    option_map (λ _. height_or_lack level) label ≡ level
one_back None None e = refl
one_back None (Some z) e = absurd (cc)
one_back (Some p) None e = absurd (cc)
one_back (Some p) (Some z) e = refl

-- If just the cells with labels have levels, `levels_where` gives the levels back from heights that
-- encode them.
pub levels_back : (labels : List (Option Place)) (levels : List (Option ℤ)) → length labels
    ≡ length levels → ((i : ℕ) → is_some (get_or labels i None) ≡ is_some (get_or levels i None)) →
    levels_where labels (map height_or_lack levels) ≡ levels
levels_back [] [] e each = refl
levels_back [] (level ∷ levels) e each = absurd (omega (arith, e))
levels_back (label ∷ labels) [] e each = absurd (omega (arith, e))
levels_back (label ∷ labels) (level ∷ levels) e each =
    ap (λ z. z ∷ levels_where labels (map height_or_lack levels)) (one_back label level (each 0))
    ∙ ap (λ z. level ∷ z) (levels_back labels levels (omega (arith, e)) (λ i. each (suc i)))

some_below : (i m n : ℕ) → i < m * n → 0 < n
some_below i m zero low = absurd (omega (arith, low))
some_below i m (suc n) low = omega arith

both_or_neither : (t : Terrain) (c : Cutting)
    (tile : ℕ) (b : Bounds) (levels : List (Option ℤ)) (labels : List (Option Place)) →
    IsCutting c → tile < tile_count c → AreTileLevels t c tile b levels labels → (i : ℕ) →
    is_some (get_or labels i None) ≡ is_some (get_or levels i None)
both_or_neither t c tile b levels labels h l is i = elim (cases_lt i (b.rows * b.cols)) [
  | inr past ↦
      ap is_some (get_or_past labels i None (omega (arith, past, is.labels_size)))
      ∙ sym (ap is_some (get_or_past levels i None (omega (arith, past, is.levels_size))))
  | inl low ↦
      let wide : 0 < b.cols = some_below i b.rows b.cols low in
      let p = place_in b i in
      let inside = place_in_bounds b i wide low in
      let there = index_in-place_in b i in
      let label : entry_in b labels p ≡ get_or labels i None = entry_in-inside b labels p inside
      ∙ ap (λ n. get_or labels n None) there in
      let level : entry_in b levels p ≡ get_or levels i None = entry_in-inside b levels p inside
      ∙ ap (λ n. get_or levels n None) there in
      let each =
      is.each p (in_tile c tile p h l (subst (λ (x : Bounds). IsInBounds x p) is.bounds inside)) in
      let both : is_some (entry_in b labels p) ≡ is_some (entry_in b levels p) =
      elim (cases_option (height_at t p)) [
        | inl none ↦ let neither = MatchOption-at_none _ _ none each in ap is_some neither.1
            ∙ sym (ap is_some neither.0)
        | inr found ↦ let here = MatchOption-at_some _ _ found.0 found.1 each in ap is_some here.3
            ∙ sym (ap is_some here.2)
      ] in
      sym (ap is_some label) ∙ both ∙ ap is_some level
]

-- If `heights` store a tile's levels (`height_or_lack`), `levels_where` gives these levels back
-- from the tile's labels and `heights`.
pub levels_where_are : (t : Terrain) (c : Cutting) (tile : ℕ) (b : Bounds)
    (levels : List (Option ℤ)) (labels : List (Option Place)) (heights : List ℤ) → IsCutting c →
    tile < tile_count c → heights ≡ map height_or_lack levels
    → AreTileLevels t c tile b levels labels → levels_where labels heights ≡ levels
levels_where_are t c tile b levels labels heights h l are is =
    ap (levels_where labels) are ∙ levels_back labels levels (is.labels_size ∙ sym is.levels_size)
    (both_or_neither t c tile b levels labels h l is)

label_data : (t : Terrain) (c : Cutting) (p : Place) (rest : List Place) → IsTilePath t c p rest →
    IsDataCell t (last_cell p rest)
label_data t c p [] path = elim path [ inl rim ↦ rim.0 | inr end ↦ first_is_data t p [] end ]
label_data t c p (q ∷ rest) path = label_data t c q rest path.2

pub label_has_data : (t : Terrain) (c : Cutting) (p label : Place) (level : ℤ) →
    IsTileLevel t c p level label → IsDataCell t label
label_has_data t c p label level l =
    subst (IsDataCell t) l.reached.3 (label_data t c p l.reached.0 l.reached.1)

last_in_tile : (t : Terrain) (c : Cutting) (p : Place) (rest : List Place) → IsTilePath t c p rest →
    tile_of_place c (last_cell p rest) ≡ tile_of_place c p
last_in_tile t c p [] path = refl
last_in_tile t c p (q ∷ rest) path = last_in_tile t c q rest path.2 ∙ path.1

pub label_in_tile : (t : Terrain) (c : Cutting) (p label : Place) (level : ℤ) →
    IsTileLevel t c p level label → tile_of_place c label ≡ tile_of_place c p
label_in_tile t c p label level l = subst (λ (q : Place). tile_of_place c q
    ≡ tile_of_place c p) l.reached.3 (last_in_tile t c p l.reached.0 l.reached.1)

-- Each label of a tile is one of its cells.
pub labels_inside : (t : Terrain) (c : Cutting) (tile : ℕ) (b : Bounds) (levels : List (Option ℤ))
    (labels : List (Option Place)) → IsCutting c → tile < tile_count c →
    Cuts c t → AreTileLevels t c tile b levels labels → (k : ℕ) (label : Place) →
    get_or labels k None ≡ Some label → IsInTile c tile label
labels_inside t c tile b levels labels h l cuts is k label e = elim (cases_lt k (b.rows * b.cols)) [
  | inr past ↦ none_some _ label (get_or_past labels k None (omega (arith, past, is.labels_size))) e
  | inl low ↦
      let p = place_in b k in
      let inside = place_in_bounds b k (some_below k b.rows b.cols low) low in
      let i = in_tile c tile p h l (subst (λ (x : Bounds). IsInBounds x p) is.bounds inside) in
      let at : entry_in b labels p ≡ Some label = entry_in-inside b labels p inside
      ∙ ap (λ n. get_or labels n None) (index_in-place_in b k) ∙ e in
      elim (cases_option (height_at t p)) [
        | inl none ↦
            none_some (entry_in b labels p) label (MatchOption-at_none _ _ none (is.each p i)).1 at
        | inr height ↦
            let here = MatchOption-at_some _ _ height.0 height.1 (is.each p i) in
            let same = same_Some here.1 label (sym here.3 ∙ at) in
            subst (IsInTile c tile) same (
              data_within t c here.1 cuts (label_has_data t c p here.1 here.0 here.4),
              label_in_tile t c p here.1 here.0 here.4 ∙ i.1,
            )
      ]
]

-- A property that all labels have is a property of all places of their table.
pub table_inside : (P : Place → Type 0) (labels places : List (Option Place)) (cells : List ℕ) →
    labels ≡ labels_by places cells → IsTable places cells → ((k : ℕ) (p : Place) →
    get_or labels k None ≡ Some p → P p) → (k : ℕ) (p : Place) → get_or places k None ≡ Some p → P p
table_inside P labels places cells are table inside k p e =
    let held = Any-from_list_any (λ n. n == k) cells (table.used k p e) in
    inside held.0 p (
    ap (λ (z : List (Option Place)). get_or z held.0 None) are
    ∙ get_or-map (λ n. get_or places n None) cells held.0 held.1 None held.2
    ∙ ap (λ n. get_or places n None) (held.3 ∙ eqb-true _ _ held.4) ∙ e
    )

pub all_inside : (P : Place → Type 0) (places : List (Option Place)) → ((k : ℕ) (p : Place) →
    get_or places k None ≡ Some p → P p) → All (λ (o : Option Place). IfSome o P) places
all_inside P places inside = All-from_get_or (λ (o : Option Place).
    IfSome o P) places None (λ k low. elim (cases_option (get_or places k None)) [
      | inl none ↦ subst (λ (o : Option Place). IfSome o P) (sym none) tt
      | inr found ↦
          subst (λ (o : Option Place). IfSome o P) (sym found.1) (inside k found.0 found.1)
    ])

-- A cell with a label has its entry of `heights` as level; a cell without a label has no level.
pub level_shown : (b : Bounds) (heights : List ℤ) (t : LabelTable) (ends : List (Option ℤ))
    (f : Flood) (i : ℕ) → flood_of b heights t ends ≡ f → length heights ≡ length t.indexes →
    (length f.labels ≡ length heights) × (get_or f.levels i None
    ≡ option_map (λ _. get_or heights i (pos 0)) (get_or (labels_by t.places t.indexes) i None))
level_shown b heights t ends f i is whole =
    let fit = length-map t.indexes (λ k. get_or t.places k None) ∙ sym whole in (
      ap (λ (z : Flood). length z.labels) (sym is) ∙ fit,
      ap (λ (z : Flood). get_or z.levels i None)
          (sym is) ∙ levels_where-at (labels_by t.places t.indexes) heights i fit,
    )

-- The net's lists have a border of one cell around the tile. Without it, there are as many heights
-- as label indexes: one for each cell of the tile.
pub heights_whole : (b : Bounds) (levels : List (Option ℤ))
    (nodes : List (Option ℕ)) (places : List (Option Place)) (cells : List ℕ) (heights : List ℤ) →
    length levels ≡ (b.rows + 2) * (b.cols + 2) → length nodes ≡ (b.rows + 2) * (b.cols + 2)
    → heights ≡ map height_or_lack (inner_rows levels b.cols b.rows) → labels_by places cells
    ≡ map (label_of_node b) (inner_rows nodes b.cols b.rows) → length heights ≡ length cells
heights_whole b levels nodes places cells heights levels_long nodes_long are labels =
    ap length are ∙ length-map (inner_rows levels b.cols b.rows) height_or_lack
    ∙ length-inner_rows levels b.cols b.rows (omega (arith, levels_long))
    ∙ sym (sym (length-map cells (λ k. get_or places k None))
    ∙ ap length labels ∙ length-map (inner_rows nodes b.cols b.rows) (label_of_node b)
    ∙ length-inner_rows nodes b.cols b.rows (omega (arith, nodes_long)))
