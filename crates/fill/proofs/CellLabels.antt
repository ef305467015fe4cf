-- A cell label is a cell's level and its label, both from the flood of its tile.
use Rattle.std.proofs.Common.{◌≡◌, ◌↔◌, ◌⊎◌, ℕ, ◌+◌, ◌<◌, inl, inr, ℤ, List, length, get_or, Option, None, Some, ◌∙◌, sym, ap, subst, refl, arith}
use Rattle.std.specs.Prelude.{slice_get, option_map, IfSome}
use Rattle.std.specs.List.{All}
use Rattle.std.proofs.lemmas.Bool.{cond-true, cond-false, cases_Bool, cases_lt}
use Rattle.std.proofs.lemmas.List.{length-map, get_or_past}
use Rattle.std.proofs.lemmas.Option.{slice_get_within}
use Rattle.terrain.specs.declared.place.Place.{Place}
use Rattle.terrain.proofs.Places.{same_place}
use Rattle.tiles.specs.Cutting.{Cutting, IsCutting, IsWithin, IsInBounds, tile_count, tile_of_place, bounds_of, is_in_bounds, index_in}
use Rattle.cell_floods.proofs.Where.{all_inside, table_inside}
use Rattle.tiles.proofs.Cut.{in_tile, in_bounds_parts, in_bounds_from}
use Rattle.cell_floods.specs.TileFlood.{Flood, IsFlood, label_in}
use Rattle.cell_floods.specs.Labels.{labels_by, IsTable}
use Rattle.fill.specs.Numbers.{first_of}
use Rattle.fill.specs.Gathering.{Fit, LabelsInside, cell_label_of, cell_label_in, cell_label_among, cell_label_with}
use Rattle.fill.specs.declared.cell_labels.CellLabel.{CellLabel}
use Rattle.terrain.proofs.Options.{cases_option, none_some}
use Rattle.tiles.proofs.TileOrder.{bounds_from_entry, entry_in-inside}

module _ (f : Flood) (places : List (Option Place)) (cells : List ℕ) (are : f.labels ≡ labels_by places cells) where
  -- If the labels of a flood lie in the grid, so do the places of its table.
  pub all_within : (c : Cutting) → IsTable places cells → LabelsInside c f →
      All (λ (o : Option Place). IfSome o (IsWithin c)) places
  all_within c table inside = all_inside _ places (table_inside _ _ places cells are table inside)

pub label_entry : (f : Flood) (p : Place) {label : Place} → label_in f p ≡ Some label →
    (k : ℕ) × (get_or f.labels k None ≡ Some label)
label_entry f p {label} e = (index_in f.bounds p, sym (entry_in-inside _ _ p (bounds_from_entry _ _ p label e)) ∙ e)

pub cell_label_some : (node : ℕ) {o : Option ℤ} {l : Option Place} {level : ℤ} {label : Place} → o ≡ Some level →
    l ≡ Some label → cell_label_of node o l ≡ Some (record { level = level; node = node })
cell_label_some node a b = rw (a, b) refl

pub cell_label_parts : (node : ℕ) (o : Option ℤ) (l : Option Place) (m : CellLabel) → cell_label_of node o l ≡ Some m →
    (label : Place) × (o ≡ Some m.level) × (l ≡ Some label) × (node ≡ m.node)
cell_label_parts node None l m e = absurd cc
cell_label_parts node _ None m e = absurd cc
cell_label_parts node (Some level) (Some label) m e = (label, cc, refl, cc)

pub cell_label_from_tile : (c : Cutting) (floods : List Flood) {tile : ℕ} {f : Flood} (p : Place) →
    slice_get floods tile ≡ Some f → tile_of_place c p ≡ tile →
    cell_label_in (first_of floods tile) f p ≡ cell_label_among c floods p
cell_label_from_tile c floods {tile} p e same = cc

-- In the flood of its tile, cell `p` has the level of `m`, and a label with the number of `m`.
pub record IsLabelled (c : Cutting) (floods : List Flood) (p : Place) (m : CellLabel) : Type 0 where
  pub flood : Flood
  pub label : Place
  pub there : slice_get floods (tile_of_place c p) ≡ Some flood
  pub inside : IsInBounds flood.bounds p
  pub level_is : get_or flood.levels (index_in flood.bounds p) None ≡ Some m.level
  pub label_is : get_or flood.labels (index_in flood.bounds p) None ≡ Some label
  pub node_is : first_of floods (tile_of_place c p)
      + get_or flood.table.indexes (index_in flood.bounds p) 0 ≡ m.node

module _ (c : Cutting) (floods : List Flood) (p : Place) where
  pub labelled : (m : CellLabel) → cell_label_among c floods p ≡ Some m → IsLabelled c floods p m
  labelled m e = elim (cases_option (slice_get floods (tile_of_place c p))) [
    | inl none ↦ none_some (cell_label_among c floods p) m (cc) e
    | inr found ↦
        let f = found.0 in
        let first = first_of floods (tile_of_place c p) in
        let here = cell_label_from_tile c floods p found.1 refl ∙ e in
        elim (cases_Bool (is_in_bounds f.bounds p)) [
          | inr out ↦ none_some (cell_label_in first f p) m (cond-false _ _ _ out) here
          | inl inside ↦
              let parts = cell_label_parts _ _ _ m (sym (cond-true _ _ _ inside) ∙ here) in
              record {
                flood = f;
                label = parts.0;
                there = found.1;
                inside = in_bounds_parts f.bounds p inside;
                level_is = parts.1;
                label_is = parts.2;
                node_is = parts.3;
              }
        ]
  ]

  pub labelled_within : {m : CellLabel} → IsCutting c → Fit c floods → cell_label_among c floods p ≡ Some m →
      IsWithin c p
  labelled_within {m} h fit e =
      let x = labelled m e in
      let tile = tile_of_place c p in
      (in_tile c tile p h (omega (arith, fit.count, slice_get_within floods tile _ x.there))
      (rw (fit.bounds tile x.flood x.there) at x.inside)).0

  pub cell_label_outside : IsCutting c → Fit c floods → (IsWithin c p → ⊥) → cell_label_among c floods p ≡ None
  cell_label_outside h fit outside = elim (cases_option _) [
    | inl none ↦ none
    | inr some ↦ absurd (outside (labelled_within h fit some.1))
  ]

-- The cell label of a cell among the floods is that at its index in the flood of its tile.
pub entry_cell_label : (c : Cutting) (floods : List Flood) (tile : ℕ) (f : Flood) (q : Place) (i : ℕ) → IsCutting c →
    tile < tile_count c → slice_get floods tile ≡ Some f → f.bounds ≡ bounds_of c tile →
    IsInBounds (bounds_of c tile) q → i ≡ index_in (bounds_of c tile) q →
    cell_label_among c floods q ≡ cell_label_with (first_of floods tile) f i
entry_cell_label c floods tile f q i h below e bounds inside at =
    cc (
      cell_label_from_tile c floods q e (in_tile c tile q h below inside).1,
      cond-true _ _ _ (in_bounds_from _ q (subst (λ b. IsInBounds b q) (sym bounds) inside)),
    )

pub cell_label_inside : (f : Flood) (p : Place) (m : CellLabel) → cell_label_in 0 f p ≡ Some m → IsInBounds f.bounds p
cell_label_inside f p m is = elim (cases_Bool _) [
  | inl inside ↦ in_bounds_parts _ p inside
  | inr out ↦ none_some _ m (cond-false _ _ _ out) is
]

-- The places of a row up to column `col` are those before `col` and the one in `col`.
pub row_so_far : (Inside : Place → Type 0) (row col : ℕ) → Inside (record { row = row; col = col }) → (p : Place) →
    (Inside p × (p.row ≡ row) × (p.col < col + 1)) ↔
    ((Inside p × (p.row ≡ row) × (p.col < col)) ⊎ (p ≡ record { row = row; col = col }))
row_so_far Inside row col inside p = (
  λ at. elim (cases_lt _ col) [
    | inl early ↦ inl (at.0, at.1, early)
    | inr late ↦ inr (same_place p _ at.1 (omega arith))
  ],
  λ at. elim at [
    | inl early ↦ (early.0, early.1, omega arith)
    | inr same ↦ subst (λ q. Inside q × (q.row ≡ row) × (q.col < col + 1)) (sym same) (inside, refl, omega arith)
  ],
)

pub some_below : {X : Type 0} (xs : List (Option X)) (i : ℕ) {x : X} → get_or xs i None ≡ Some x → i < length xs
some_below xs i {x} e = elim (cases_lt i _) [
  | inl low ↦ low
  | inr past ↦ none_some _ x (get_or_past xs i None past) e
]

abbrev pub shift : ℕ → CellLabel → CellLabel
shift first m = record { level = m.level; node = first + m.node }

shift_with : (first : ℕ) (f : Flood) (i : ℕ) →
    cell_label_with first f i ≡ option_map (shift first) (cell_label_with 0 f i)
shift_with first f i = at (get_or f.levels i None) (get_or f.labels i None) where
  at : (level : Option ℤ) (label : Option Place) →
      cell_label_of (first + get_or f.table.indexes i 0) level label ≡
      option_map (shift first) (cell_label_of (0 + get_or f.table.indexes i 0) level label)
  at None label = refl
  at (Some level) None = refl
  at (Some level) (Some label) = ap (λ n. Some (record { level = level; node = n })) (omega arith)

in_shift : (first : ℕ) (f : Flood) (p : Place) →
    cell_label_in first f p ≡ option_map (shift first) (cell_label_in 0 f p)
in_shift first f p = elim (cases_Bool (is_in_bounds f.bounds p)) [
  | inl inside ↦ cc (cond-true _ _ _ inside, shift_with first f (index_in f.bounds p))
  | inr out ↦ cc (cond-false _ _ _ out)
]

-- A cell label gives a label by its number or by its index in the tile's table. A place's cell
-- label by number is its cell label by index, with the table's first number added to the index.
pub among_shift : (c : Cutting) (floods : List Flood) (tile : ℕ) (f : Flood) (p : Place) →
    slice_get floods tile ≡ Some f → tile_of_place c p ≡ tile →
    cell_label_among c floods p ≡ option_map (shift (first_of floods tile)) (cell_label_in 0 f p)
among_shift c floods tile f p there here = sym (cell_label_from_tile c floods p there here) ∙ in_shift _ f p

-- With first number 0, a cell label gives its label by an index into the flood's table.
pub index_inside : (f : Flood) (p : Place) {m : CellLabel} → IsFlood f → cell_label_in 0 f p ≡ Some m →
    m.node < length f.table.places
index_inside f p {m} lawful is =
    let inside = cell_label_inside f p m is in
    let i = index_in f.bounds p in
    let parts = cell_label_parts _ _ _ m (sym (cond-true _ _ _ (in_bounds_from f.bounds p inside)) ∙ is) in
    let at : get_or (labels_by f.table.places f.table.indexes) i None ≡ Some parts.0 =
    ap (λ (z : List (Option Place)). get_or z i None) (sym lawful.labels) ∙ parts.2 in
    let low : i < length f.table.indexes = omega (
      arith,
      some_below (labels_by f.table.places f.table.indexes) i at,
      length-map f.table.indexes (λ n. get_or f.table.places n None),
    ) in
    omega (arith, parts.3, lawful.table.inside i 0 low)
