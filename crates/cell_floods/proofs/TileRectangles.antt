-- A flood of a tile's net has the levels and the labels of the tile (`AreTileLevels`). Its labels
-- are nodes of the net. Lists that store levels and labels still do so without the net's border.
use Rattle.std.proofs.Common.{◌≡◌, ℕ, ◌+◌, ◌-◌, ◌*◌, ◌<◌, inl, inr, ℤ, List, [], ◌∷◌, length, get_or, Option, None, is_some, ◌∙◌, sym, ap, arith, true, map, Some, subst, refl, take, zero, suc}
use Rattle.std.specs.Prelude.{MatchOption}
use Rattle.std.proofs.lemmas.Bool.{or_cases, or_left, or_right, eqb-true, eq-eqb, cases_lt}
use Rattle.std.proofs.lemmas.Nat.{mul-add-lt, div-mul-add, mod-mul-add}
use Rattle.std.proofs.lemmas.List.{get_or-map, length-map, get_or_past, get_or_append_left, get_or-append_right, get_or-drop, get_or-take, length-take}
use Rattle.std.proofs.lemmas.Slice.{between_is}
use Rattle.terrain.specs.Raster.{Terrain}
use Rattle.terrain.specs.Neighbours.{height_at, IsDataCell}
use Rattle.terrain.specs.declared.place.Place.{Place}
use Rattle.terrain.proofs.Places.{same_place}
use Rattle.drainage.proofs.Reach.{data_inside}
use Rattle.tiles.specs.Cutting.{IsInBounds, IsWithinLimits, Cutting, IsCutting, AreBounds, IsInTile, IsWithin, tile_count, bounds_of, is_on_rim, is_first_or_last, entry_in}
use Rattle.floods.specs.Walk.{IsFlooded, IsWalk, last_node}
use Rattle.cell_floods.specs.Cells.{Cells, node_at, IsNetOf, IsCellJoin, source_of, inner_rows, place_of_node}
use Rattle.terrain.proofs.Options.{cases_option, match_of, none_some}
use Rattle.cell_floods.proofs.InnerRows.{length-inner_rows, inner_rows-map, inner_rows_at}
use Rattle.floods.specs.Notes.{height_or_lack, label_of, numbered_labels}
use Rattle.cell_floods.proofs.Rectangles.{IsOnRim, IsRectangleSource, IsRectanglePath, IsRectangleLevel, end_is_source, rectangle_level, rectangle_none}
use Rattle.std.proofs.lemmas.Option.{MatchOption-at_some, MatchOption-at_none, same_Some}
use Rattle.tiles.specs.declared.bounds.Bounds.{Bounds}
use Rattle.tiles.proofs.Cut.{in_bounds, in_tile, bounds_inside}
use Rattle.tiles.proofs.TileOrder.{index_in_below, entry_in-inside}
use Rattle.floods.specs.declared.net.Spill.{Spill}
use Rattle.terrain.proofs.Options.{some_inside}
use Rattle.cell_floods.specs.Labels.{label_of_node, AreNodesBelow}
use Rattle.cell_floods.specs.TileFlood.{IsTileSource, IsTilePath, IsTileLevel}

pub rim_of_tile : (c : Cutting) (tile : ℕ) (p : Place) → IsInTile c tile p →
    IsOnRim (bounds_of c tile) p → is_on_rim c p ≡ true
rim_of_tile c tile p i rim =
    subst (λ n. is_first_or_last (bounds_of c n) p ≡ true) (sym i.1) (at rim) where
      b : Bounds
      b = bounds_of c tile

      at : IsOnRim b p → is_first_or_last b p ≡ true
      at (inl e) = or_left _ _ (or_left _ _ (or_left _ _ (eq-eqb _ _ e)))
      at (inr (inl e)) = or_left _ _ (or_left _ _ (or_right _ _ (eq-eqb _ _ e)))
      at (inr (inr (inl e))) = or_left _ _ (or_right _ _ (eq-eqb _ _ e))
      at (inr (inr (inr e))) = or_right _ _ (eq-eqb _ _ e)

pub rim_of_rectangle : (c : Cutting) (tile : ℕ) (p : Place) → IsInTile c tile p →
    is_on_rim c p ≡ true → IsOnRim (bounds_of c tile) p
rim_of_rectangle c tile p i e =
    at (subst (λ n. is_first_or_last (bounds_of c n) p ≡ true) i.1 e) where
      at : is_first_or_last (bounds_of c tile) p ≡ true → IsOnRim (bounds_of c tile) p
      at e = elim (or_cases _ _ e) [
        | inr last ↦ inr (inr (inr (eqb-true _ _ last)))
        | inl three ↦ elim (or_cases _ _ three) [
          | inr left ↦ inr (inr (inl (eqb-true _ _ left)))
          | inl two ↦ elim (or_cases _ _ two) [
            | inr bottom ↦ inr (inl (eqb-true _ _ bottom))
            | inl top ↦ inl (eqb-true _ _ top)
          ]
        ]
      ]

tile_source : (t : Terrain) (c : Cutting) (tile : ℕ) (p : Place) → IsInTile c tile p →
    IsRectangleSource t (bounds_of c tile) p → IsTileSource t c p
tile_source t c tile p i (inl source) = elim source.1 [
  | inl rim ↦
      inl (source.0, rim_of_tile c tile p i rim)
  | inr gap ↦ inr (inl (source.0, gap))
]
tile_source t c tile p i (inr sink) = inr (inr sink)

rectangle_source : (t : Terrain) (c : Cutting) (tile : ℕ) (p : Place) → IsInTile c tile p →
    IsTileSource t c p → IsRectangleSource t (bounds_of c tile) p
rectangle_source t c tile p i (inl rim) = inl (rim.0, inl (rim_of_rectangle c tile p i rim.1))
rectangle_source t c tile p i (inr end) = end_is_source t (bounds_of c tile) p end

pub data_within : (t : Terrain) (c : Cutting) (p : Place) → (c.cols ≡ t.cols) × (c.rows ≡ t.rows) →
    IsDataCell t p → IsWithin c p
data_within t c p cuts some =
    let inside = data_inside t p some in
    (omega (arith, inside, cuts), omega (arith, inside, cuts))

pub tile_path : (t : Terrain) (c : Cutting) (tile : ℕ) → IsCutting c → tile < tile_count c →
    (p : Place) (rest : List Place) → IsInTile c tile p →
    IsRectanglePath t (bounds_of c tile) p rest → IsTilePath t c p rest
tile_path t c tile h l p [] i path = tile_source t c tile p i path
tile_path t c tile h l p (q ∷ rest) i path =
    let j = in_tile c tile q h l path.1 in
    (path.0, j.1 ∙ sym i.1, tile_path t c tile h l q rest j path.2)

rectangle_path : (t : Terrain) (c : Cutting) (tile : ℕ) → IsCutting c →
    (c.cols ≡ t.cols) × (c.rows ≡ t.rows) → (p : Place) (rest : List Place) → IsInTile c tile p →
    IsTilePath t c p rest → IsRectanglePath t (bounds_of c tile) p rest
rectangle_path t c tile h cuts p [] i path = rectangle_source t c tile p i path
rectangle_path t c tile h cuts p (q ∷ rest) i path =
    let j : IsInTile c tile q = (data_within t c q cuts path.0.to_data, path.1 ∙ i.1) in
    (path.0, in_bounds c tile q h j, rectangle_path t c tile h cuts q rest j path.2)

tile_level : (t : Terrain) (c : Cutting) (tile : ℕ) → IsCutting c → tile < tile_count c →
    (c.cols ≡ t.cols) × (c.rows ≡ t.rows) → (p label : Place) (level : ℤ) → IsInTile c tile p →
    IsRectangleLevel t (bounds_of c tile) p level label → IsTileLevel t c p level label
tile_level t c tile h l cuts p label level i w = record {
  reached =
      (w.reached.0, tile_path t c tile h l p w.reached.0 i w.reached.1, w.reached.2, w.reached.3);
  least = λ rest path. w.least rest (rectangle_path t c tile h cuts p rest i path);
  own = λ source height. w.own (rectangle_source t c tile p i source) height;
}

place_back : (b : Bounds) (p : Place) → IsInBounds b p →
    place_of_node b.top b.left b.cols (node_at b p) ≡ p
place_back b p i =
    let col : p.col - b.left + 1 < b.cols + 2 = omega (arith, i) in
    same_place _ p
    (ap (λ n. b.top + n - 1) (div-mul-add (p.row - b.top + 1) (b.cols + 2) (p.col - b.left + 1) col)
    ∙ omega (arith, i))
    (ap (λ n. b.left + n - 1)
    (mod-mul-add (p.row - b.top + 1) (b.cols + 2) (p.col - b.left + 1) col) ∙ omega (arith, i))

-- At a place, the inner rows of a bordered list have the list's entry at the place's node.
pub inner_entry : {X : Type 0} (b : Bounds) (list : List (Option X)) (p : Place) →
    length list ≡ (b.rows + 2) * (b.cols + 2) → IsInBounds b p →
    entry_in b (inner_rows list b.cols b.rows) p ≡ get_or list (node_at b p) None
inner_entry b list p size i =
    entry_in-inside b (inner_rows list b.cols b.rows) p i
    ∙ inner_rows_at list b.cols b.rows (omega (arith, size)) (p.row - b.top) (p.col - b.left)
    (omega (arith, i)) (omega (arith, i))

mapped_entry : (b : Bounds) (xs : List (Option ℕ)) (p : Place) → length xs ≡ b.rows * b.cols →
    IsInBounds b p → entry_in b (map (label_of_node b) xs) p ≡ label_of_node b (entry_in b xs p)
mapped_entry b xs p size i =
    entry_in-inside b (map (label_of_node b) xs) p i
    ∙ get_or-map (label_of_node b) xs _ None None (omega (arith, size, index_in_below b p i))
    ∙ ap (label_of_node b) (sym (entry_in-inside b xs p i))

-- At a place, the inner rows of a bordered list of labels have the label at the place's node.
pub label_entry : (b : Bounds) (labels : List (Option ℕ)) (p : Place) →
    length labels ≡ (b.rows + 2) * (b.cols + 2) → IsInBounds b p →
    entry_in b (map (label_of_node b) (inner_rows labels b.cols b.rows)) p
    ≡ label_of_node b (get_or labels (node_at b p) None)
label_entry b labels p size i =
    mapped_entry b (inner_rows labels b.cols b.rows) p
    (length-inner_rows labels b.cols b.rows (omega (arith, size))) i
    ∙ ap (label_of_node b) (inner_entry b labels p size i)

-- Each data cell of the tile has its level and its label in these lists, other cells have None. `b`
-- has the tile's bounds, which lie within 4,096 by 4,096 cells.
pub record AreTileLevels (t : Terrain) (c : Cutting) (tile : ℕ) (b : Bounds)
    (levels : List (Option ℤ)) (labels : List (Option Place)) : Type 0 where
  pub bounds : b ≡ bounds_of c tile
  pub limits : IsWithinLimits b
  pub levels_size : length levels ≡ b.rows * b.cols
  pub labels_size : length labels ≡ b.rows * b.cols
  pub each : (p : Place) → IsInTile c tile p →
      MatchOption (height_at t p) ((entry_in b levels p ≡ None) × (entry_in b labels p ≡ None))
      (λ _. (level : ℤ) × (label : Place) × (entry_in b levels p ≡ Some level)
      × (entry_in b labels p ≡ Some label) × IsTileLevel t c p level label)

pub bounds_limits : (t : Cutting) (b : Bounds) → IsCutting t → AreBounds t b → IsWithinLimits b
bounds_limits t b h inside = (omega arith, omega arith)

pub tile_flooded : (t : Terrain) (c : Cutting) (tile : ℕ) (n : Cells) (levels : List (Option ℤ))
    (labels : List (Option ℕ)) → IsCutting c → tile < tile_count c → (c.cols ≡ t.cols)
    × (c.rows ≡ t.rows) → IsNetOf t (bounds_of c tile) n → IsFlooded (IsCellJoin n) (source_of n)
    (length n.cells) levels labels → AreTileLevels t c tile (bounds_of c tile) (inner_rows levels
    (bounds_of c tile).cols (bounds_of c tile).rows) (map (label_of_node (bounds_of c tile))
    (inner_rows labels (bounds_of c tile).cols (bounds_of c tile).rows))
tile_flooded t c tile n levels labels h l cuts net flooded =
    let b = bounds_of c tile in
    let size : length levels ≡ (b.rows + 2) * (b.cols + 2) = flooded.levels_size ∙ net.size in
    let labels_long : length labels ≡ (b.rows + 2) * (b.cols + 2) = flooded.labels_size
    ∙ net.size in
    record {
      bounds = refl;
      limits = bounds_limits c b h (bounds_inside c tile h l);
      levels_size = length-inner_rows levels b.cols b.rows (omega (arith, size));
      labels_size = length-map (inner_rows labels b.cols b.rows) (label_of_node b)
          ∙ length-inner_rows labels b.cols b.rows (omega (arith, labels_long));
      each = λ p i.
          let inside = in_bounds c tile p h i in
          let level = inner_entry b levels p size inside in
          let label = label_entry b labels p labels_long inside in
          match_of (height_at t p) _ _
          (λ none.
          let both = rectangle_none t b n levels labels net flooded p inside none
          (omega (
            arith,
            net.size,
            mul-add-lt (p.row - b.top + 1) (b.cols + 2) (p.col - b.left + 1) (b.rows
                + 2) (omega (arith, inside)) (omega (arith, inside)),
          )) in
          (level ∙ both.0, label ∙ ap (label_of_node b) both.1))
          (λ z some.
          let here = rectangle_level t b n levels labels net flooded p inside (ap is_some some) in
          let label_is = label ∙ ap (label_of_node b) here.label_is
          ∙ ap Some (place_back b here.label here.inside) in (
            here.level,
            here.label,
            level ∙ here.level_is,
            label_is,
            tile_level t c tile h l cuts p here.label here.level i here.right,
          ));
    }

pub tile_flood_is : (t : Terrain)
    (c : Cutting) (tile : ℕ) (n : Cells) (b : Bounds) (levels levels_in : List (Option ℤ))
    (labels : List (Option ℕ)) (labels_in : List (Option Place)) → IsCutting c →
    tile < tile_count c → (c.cols ≡ t.cols) × (c.rows ≡ t.rows) → IsNetOf t (bounds_of c tile) n →
    IsFlooded (IsCellJoin n) (source_of n) (length n.cells) levels labels → b ≡ bounds_of c tile →
    levels_in ≡ inner_rows levels b.cols b.rows → labels_in ≡ map (label_of_node b)
    (inner_rows labels b.cols b.rows) → AreTileLevels t c tile b levels_in labels_in
tile_flood_is t c tile n b levels levels_in labels labels_in h l cuts net flooded same x y =
    rw (y, x, same) (tile_flooded t c tile n levels labels h l cuts net flooded)

pub walk_end_below : (n : Cells) (a : ℕ) (walk : List Spill) → a < length n.cells →
    IsWalk (IsCellJoin n) (source_of n) a walk → last_node a walk < length n.cells
walk_end_below n a [] low walk = low
walk_end_below n a (step ∷ rest) low walk = walk_end_below n step.to rest
    (some_inside n.cells step.to walk.0.to_height walk.0.to_cell) walk.1

labels_below : (n : Cells) (levels : List (Option ℤ)) (labels : List (Option ℕ)) →
    IsFlooded (IsCellJoin n) (source_of n) (length n.cells) levels labels →
    AreNodesBelow (length labels) labels
labels_below n levels labels flooded k node e = elim (cases_lt k (length labels)) [
  | inr past ↦ none_some _ node (get_or_past labels k None past) e
  | inl low ↦ elim (cases_option (get_or levels k None)) [
    | inl none ↦ none_some _ node (MatchOption-at_none _ _ none
        (flooded.each k (omega (arith, low, flooded.labels_size)))).1 e
    | inr found ↦
        let here = MatchOption-at_some _ _ found.0 found.1
        (flooded.each k (omega (arith, low, flooded.labels_size))) in
        let same : here.0 ≡ node = same_Some here.0 node (sym here.1 ∙ e) in
        let reached = here.2.reached in
        omega (
          arith,
          flooded.labels_size,
          same,
          reached.3,
          walk_end_below n k reached.0 (omega (arith, low, flooded.labels_size)) reached.1,
        )
  ]
]

inner_below : (count : ℕ) (list : List (Option ℕ)) (cols rows : ℕ) → AreNodesBelow count list →
    AreNodesBelow count (inner_rows list cols rows)
inner_below count list cols zero below k node e =
    none_some _ node (get_or_past [] k None (omega arith)) e
inner_below count list cols (suc rows) below k node e =
    let was = inner_rows list cols rows in
    let from = (rows + 1) * (cols + 2) + 1 in
    let row = take (from + cols) list in
    elim (cases_lt k (length was)) [
      | inl low ↦ inner_below count list cols rows below k node
          (sym (get_or_append_left was _ None k low) ∙ e)
      | inr past ↦
          let i = from + (k - length was) in
          let there : get_or row i None ≡ Some node =
          sym (get_or-drop from row (k - length was) None)
          ∙ ap (λ z. get_or z (k - length was) None) (sym (between_is list from (from + cols)))
          ∙ sym (get_or-append_right was _ (length was) k None refl past) ∙ e in
          elim (cases_lt i (from + cols)) [
            | inl inside ↦ below i node (sym (get_or-take (from + cols) list i None inside) ∙ there)
            | inr outside ↦ none_some _ node (get_or_past row i None
                (omega (arith, outside, length-take (from + cols) list))) there
          ]
    ]

-- There is a label entry for each cell inside the border, and the labels are nodes of the net.
pub inner_labels : (b : Bounds) (n : Cells) (levels : List (Option ℤ)) (labels : List (Option ℕ)) →
    length n.cells ≡ (b.rows + 2) * (b.cols + 2) →
    IsFlooded (IsCellJoin n) (source_of n) (length n.cells) levels labels →
    AreNodesBelow ((b.rows + 2) * (b.cols + 2)) (inner_rows labels b.cols b.rows)
    × (length (inner_rows labels b.cols b.rows) ≡ b.rows * b.cols)
inner_labels b n levels labels size flooded =
    let long = flooded.labels_size ∙ size in (
      inner_below _ labels b.cols b.rows (subst (λ (k : ℕ). AreNodesBelow k labels) long
          (labels_below n levels labels flooded)),
      length-inner_rows labels b.cols b.rows (omega (arith, long)),
    )

-- Heights that encode levels, and numbers that encode labels, still do so without the border.
pub inner_lists : (b : Bounds) (levels : List (Option ℤ)) (labels : List (Option ℕ))
    (raw heights : List ℤ) (numbers nodes : List ℕ) → raw ≡ map height_or_lack levels →
    labels ≡ numbered_labels numbers → heights ≡ inner_rows raw b.cols b.rows →
    nodes ≡ inner_rows numbers b.cols b.rows →
    (heights ≡ map height_or_lack (inner_rows levels b.cols b.rows))
    × (numbered_labels nodes ≡ inner_rows labels b.cols b.rows)
inner_lists b levels labels raw heights numbers nodes raw_is labels_are heights_are nodes_are = (
  heights_are ∙ ap (λ z. inner_rows z b.cols b.rows) raw_is
      ∙ inner_rows-map height_or_lack levels b.cols b.rows,
  ap numbered_labels nodes_are ∙ sym (inner_rows-map label_of numbers b.cols b.rows)
      ∙ ap (λ z. inner_rows z b.cols b.rows) (sym labels_are),
)
