-- The joins gathered from all tiles, with labels by place, are those of the spill graph. The lowest
-- join of each two labels is taken (`AreLowest`).
use Rattle.std.proofs.Common.{◌≡◌, ◌≢◌, ℕ, ◌*◌, ◌<◌, ◌⊎◌, inl, inr, ℤ, ◌≤ℤ◌, List, [], length, get_or, Option, None, Some, ◌∙◌, sym, ap, subst, refl, arith}
use Rattle.std.specs.Prelude.{slice_get}
use Rattle.std.specs.List.{All, Contains}
use Rattle.std.proofs.lemmas.Bool.{cases_lt, cases_order}
use Rattle.std.proofs.lemmas.Option.{same_Some, slice_get_within}
use Rattle.std.proofs.lemmas.List.{get_or_default, get_or_past, get_or-map}
use Rattle.terrain.specs.Raster.{Terrain}
use Rattle.terrain.specs.Neighbours.{index_of, IsDataCell}
use Rattle.terrain.specs.declared.place.Place.{Place}
use Rattle.terrain.proofs.Places.{same_place, index_below}
use Rattle.tiles.specs.Cutting.{Cutting, IsCutting, IsWithin, IsInTile, IsWithinLimits, Cuts, tile_count, tile_of_place}
use Rattle.tiles.proofs.Cut.{tile_of_place_below, bounds_inside}
use Rattle.cell_floods.specs.TileFlood.{Flood, IsTileFlood, label_in}
use Rattle.terrain.proofs.Orders.{max_comm}
use Rattle.cell_floods.proofs.TileRectangles.{bounds_limits, data_within}
use Rattle.cell_floods.proofs.Where.{labels_inside}
use Rattle.floods.proofs.Heaps.{all_by_contains}
use Rattle.drainage.proofs.Uniqueness.{between}
use Rattle.fill.specs.Gathering.{Fit, LabelsInside, cell_label_among, Meets, Covered, IsLater, IsBefore, AreRising, AreLowest, AreGathered, turned}
use Rattle.fill.specs.Numbers.{places_of, nodes_of, node_of_label}
use Rattle.fill.specs.Parts.{IsGraph, graph_with}
use Rattle.fill.specs.Placing.{AddsPlaced, join_at}
use Rattle.fill.specs.SpillGraph.{AreFloods, level_among, Carries, IsPass, AreSourcesOf, IsGraphOf}
use Rattle.fill.specs.declared.spill_graph.Join.{Join}
use Rattle.fill.specs.declared.cell_labels.CellLabel.{CellLabel}
use Rattle.fill.proofs.Adding.{no_join}
use Rattle.fill.proofs.CellLabels.{label_entry, labelled_within}
use Rattle.fill.proofs.Numbered.{AreLawful, IsNumbered, numbered, number_below, number_label, has_cell_label, fit_of}
use Rattle.fill.proofs.LabelNets.{neighbour_back, level_has_data, list_there, among_is}

-- A list of joins in the order of their labels has each pair of labels at most once.
one_join : (joins : List Join) → AreRising joins → (j k : Join) → Contains joins j → Contains joins k →
    j.from ≡ k.from → j.to ≡ k.to → j ≡ k
one_join joins rise j k a b e f = elim (cases_order a.0 b.0) [
  | inl same ↦ cc (there a.0 j a.2 a.1, move b.0 b.1 b.2)
  | inr other ↦ elim other [
    | inl less ↦
        absurd (apart (get_or joins a.0 j) (get_or joins b.0 j) j k a.2 (move b.0 b.1 b.2) e f
        (rise a.0 b.0 j less b.1))
    | inr more ↦
        absurd (apart (get_or joins b.0 j) (get_or joins a.0 j) k j (move b.0 b.1 b.2) a.2 (sym e) (sym f)
        (rise b.0 a.0 j more a.1))
  ]
] where
  there : (n : ℕ) (x : Join) → get_or joins n x ≡ x → n < length joins → get_or joins n x ≡ x
  there n x h l = h

  move : (n : ℕ) → n < length joins → get_or joins n k ≡ k → get_or joins n j ≡ k
  move n l h = get_or_default joins n j k l ∙ h

  apart : (x y u v : Join) → x ≡ u → y ≡ v → u.from ≡ v.from → u.to ≡ v.to → IsBefore x y → ⊥
  apart x y u v p q g h (inl a) =
      let s = ap (λ (z : Join). z.from) p in let t = ap (λ (z : Join). z.from) q in omega arith
  apart x y u v p q g h (inr a) = let s = ap (λ (z : Join). z.to) p in let t = ap (λ (z : Join). z.to) q in omega arith

module _ {p q : Place} where
  meets_turned : (c : Cutting) (floods : List Flood) {j : Join} → Meets (cell_label_among c floods) p q j →
      Meets (cell_label_among c floods) q p (turned j)
  meets_turned c floods m = record {
    touches = record {
      row_down = m.touches.row_up;
      row_up = m.touches.row_down;
      col_right = m.touches.col_left;
      col_left = m.touches.col_right;
    };
    from_level = m.to_level;
    to_level = m.from_level;
    from_is = m.to_is;
    to_is = m.from_is;
    different = λ e. m.different (sym e);
    greater = max_comm m.to_level m.from_level ∙ m.greater;
  }

  after_cases : p ≢ q → IsLater p q ⊎ IsLater q p
  after_cases differ = elim (cases_order _ _) [
    | inr other ↦ elim other [ inl less ↦ inl (inl less) | inr more ↦ inr (inl more) ]
    | inl row ↦ elim (cases_order _ _) [
      | inl col ↦ absurd (differ (same_place p q row col))
      | inr other ↦ elim other [ inl less ↦ inl (inr (row, less)) | inr more ↦ inr (inr (sym row, more)) ]
    ]
  ]

  meets_differ : (c : Cutting) (floods : List Flood) (j : Join) → Meets (cell_label_among c floods) p q j → p ≢ q
  meets_differ c floods j m e =
      m.different (ap (λ z. z.node) (same_Some _ _ (sym m.from_is ∙ ap (cell_label_among c floods) e ∙ m.to_is)))

-- The labels of a tile's flood lie in the tile.
fit_labels : (t : Terrain) (c : Cutting) (tile : ℕ) (f : Flood) → IsCutting c → tile < tile_count c → Cuts c t →
    IsTileFlood t c tile f → (k : ℕ) (label : Place) → get_or f.labels k None ≡ Some label → IsInTile c tile label
fit_labels t c tile f h below cuts flood = labels_inside t c tile _ _ _ h below cuts (record {
  bounds = flood.bounds;
  limits = subst IsWithinLimits (cc) (bounds_limits c _ h (bounds_inside c tile h below));
  levels_size = cc;
  labels_size = cc;
  each = flood.each;
})

pub labels_within : (t : Terrain) (c : Cutting) (floods : List Flood) (tile : ℕ) (f : Flood) → AreFloods t c floods →
    slice_get floods tile ≡ Some f → LabelsInside c f
labels_within t c floods tile f are there k label at =
    (fit_labels t c tile f are.lawful (omega (arith, are.count, slice_get_within floods tile f there)) are.cuts
    (are.each tile f there) k label at).0

module _ (t : Terrain) (c : Cutting) (floods : List Flood) (are : AreFloods t c floods)
    (lawful : AreLawful floods) where
  fit : Fit c floods
  fit = fit_of are

  cell_label_data : (p : Place) (m : CellLabel) (x : IsNumbered c floods p m) → cell_label_among c floods p ≡ Some m →
      IsDataCell t p
  cell_label_data p m x e = level_has_data t are.lawful are p (labelled_within c floods p are.lawful fit e) x.level_is

  made_of : {joins : List Join} → AreGathered c floods joins → (j : Join) → Contains joins j →
      (p q : Place) × Meets (cell_label_among c floods) p q j
  made_of s j there = elim (s.only j there) [ inl none ↦ absurd (no_join j none) | inr made ↦ made ]

  pub joins_below : (joins : List Join) → AreGathered c floods joins →
      All (λ j. (j.from < length (places_of floods)) × (j.to < length (places_of floods))) joins
  joins_below joins s =
      all_by_contains (λ j. (j.from < length (places_of floods)) × (j.to < length (places_of floods))) joins
      (λ j there.
      let m = (made_of s j there).2 in
      (number_below c floods _ _ lawful m.from_is, number_below c floods _ _ lawful m.to_is))

  module _ {p : Place} {m : CellLabel} (x : IsNumbered c floods p m) where
    -- The entry of `nodes_of` at the number of a cell's label is the node of that label.
    node_is : get_or (nodes_of c.cols floods) m.node 0 ≡ index_of c.cols x.label
    node_is =
        get_or-map _ _ _ None 0 (number_below_of p m x) ∙ ap (node_of_label c.cols) (number_label c floods p x) where
          number_below_of : (p : Place) (m : CellLabel) → IsNumbered c floods p m → m.node < length (places_of floods)
          number_below_of p m x = elim (cases_lt _ _) [
            | inl low ↦ low
            | inr past ↦ absurd (cc (number_label c floods p x, get_or_past _ _ None past))
          ]

    label_node_below : index_of c.cols x.label < c.cols * c.rows
    label_node_below =
        let y = label_entry x.flood p (cc (among_is (λ f. label_in f p) floods (tile_of_place c p) x.there)) in
        let within = labels_within t c floods (tile_of_place c p) x.flood are x.there y.0 x.label y.1 in
        index_below c.cols c.rows x.label within.0 within.1

  place_pass : {nodes : List ℕ} {p q : Place} {j : Join} → nodes ≡ nodes_of c.cols floods →
      Meets (cell_label_among c floods) p q j → IsPass t c floods (join_at nodes j).from (join_at nodes j).to j.height
  place_pass {p} {q} {j} is m =
      let x = numbered c floods p lawful m.from_is in
      let y = numbered c floods q lawful m.to_is in
      record {
        from = p;
        to = q;
        from_level = m.from_level;
        to_level = m.to_level;
        neighbours = record {
          different = meets_differ c floods j m;
          touches = m.touches;
          from_data = cell_label_data p _ x m.from_is;
          to_data = cell_label_data q _ y m.to_is;
        };
        from_label = (x.label, x.label_is, sym (ap (λ z. get_or z j.from 0) is ∙ node_is x));
        to_label = (y.label, y.label_is, sym (ap (λ z. get_or z j.to 0) is ∙ node_is y));
        from_is = x.level_is;
        to_is = y.level_is;
        greater = m.greater;
      }

  pass_turned : {a b : ℕ} {h : ℤ} → IsPass t c floods a b h → IsPass t c floods b a h
  pass_turned x = record {
    from = x.to;
    to = x.from;
    from_level = x.to_level;
    to_level = x.from_level;
    neighbours = neighbour_back t x.neighbours;
    from_label = x.to_label;
    to_label = x.from_label;
    from_is = x.to_is;
    to_is = x.from_is;
    greater = max_comm x.to_level x.from_level ∙ x.greater;
  }

  -- A cell with a level and the label at node `a` has a cell label, and `a` is the node of its
  -- number.
  carried : (p : Place) {a : ℕ} {level : ℤ} → Carries c floods p a → level_among c floods p ≡ Some level →
      IsWithin c p → (n : ℕ) × (cell_label_among c floods p ≡ Some (record { level = level; node = n })) ×
      (get_or (nodes_of c.cols floods) n 0 ≡ a)
  carried p {level} carries level_is within =
      let m =
      has_cell_label c floods p
      (list_there floods _ (omega (arith, are.count, tile_of_place_below c p are.lawful within))).1 level_is
      carries.1 in
      let x = numbered c floods p lawful m.1 in (
        m.0,
        m.1,
        node_is x ∙ ap (index_of c.cols) (same_Some _ _ (sym x.label_is ∙ carries.1)) ∙ carries.2,
      )

  module _ (nodes : List ℕ) (joins placed lowest : List Join) (s : AreGathered c floods joins)
      (is : nodes ≡ nodes_of c.cols floods) (adds : AddsPlaced nodes joins [] placed)
      (low : AreLowest placed lowest) where
    placed_pass : (j : Join) → Contains lowest j → (j.from ≢ j.to) × IsPass t c floods j.from j.to j.height
    placed_pass j there = elim (adds.only j (low.only j there)) [
      | inl none ↦ absurd (no_join j none)
      | inr from ↦
          let pass = place_pass is (made_of s from.0 from.1).2 in
          elim from.3 [
            | inl same ↦ subst (λ x. (x.from ≢ x.to) × IsPass t c floods x.from x.to x.height) (sym same) (from.2, pass)
            | inr turn ↦
                subst (λ x. (x.from ≢ x.to) × IsPass t c floods x.from x.to x.height) (sym turn)
                (λ e. from.2 (sym e), pass_turned pass)
          ]
    ]

    pass_cover : {a b : ℕ} {h : ℤ} → a ≢ b → IsPass t c floods a b h →
        Covered lowest (record { from = a; to = b; height = h })
    pass_cover {a} {b} {h} differ x =
        let from_within = data_within t c x.from are.cuts x.neighbours.from_data in
        let to_within = data_within t c x.to are.cuts x.neighbours.to_data in
        let m = carried x.from x.from_label x.from_is from_within in
        let n = carried x.to x.to_label x.to_is to_within in
        let number : Join = record { from = m.0; to = n.0; height = h } in
        let meets : Meets (cell_label_among c floods) x.from x.to number = record {
          touches = x.neighbours.touches;
          from_level = x.from_level;
          to_level = x.to_level;
          from_is = m.1;
          to_is = n.1;
          different = λ e. differ (cc);
          greater = x.greater;
        } in
        let made : Join = record { from = a; to = b; height = h } in
        let placed_is : join_at nodes number ≡ made = cc in
        let apart : (join_at nodes number).from ≢ (join_at nodes number).to = λ e. differ (cc) in
        low.every made (elim (after_cases x.neighbours.different) [
          | inl after ↦
              adds.every made (number, s.every x.from x.to number from_within after meets, apart, inl (sym placed_is))
          | inr before ↦ adds.every made (
            turned number,
            s.every x.to x.from (turned number) to_within before (meets_turned c floods meets),
            λ e. apart (sym e),
            inr (sym placed_is),
          )
        ])

    low_as : (j : Join) {h : ℤ} → Contains lowest j → IsPass t c floods j.from j.to h → j.height ≤ℤ h
    low_as j {h} there pass =
        let k = pass_cover (placed_pass j there).0 pass in
        subst (λ z. z.height ≤ℤ h) (sym (one_join lowest low.rising j _ there k.1 (sym k.2) (sym k.3))) k.4

    join_back : (j : Join) → Contains lowest j → Contains lowest (turned j)
    join_back j there =
        let x = placed_pass j there in
        let k = pass_cover (λ e. x.0 (sym e)) (pass_turned x.1) in
        let pass = (placed_pass _ k.1).1 in
        let height =
        between _ _ k.4
        (low_as j there
        (pass_turned (subst (λ n. IsPass t c floods n j.from k.0.height) k.2
        (subst (λ n. IsPass t c floods k.0.from n k.0.height) k.3 pass)))) in
        subst (Contains lowest) (same_join k.0 (turned j) k.2 k.3 height) k.1 where
          same_join : (x y : Join) → x.from ≡ y.from → x.to ≡ y.to → x.height ≡ y.height → x ≡ y
          same_join x y a b e = ap (λ n. record { from = n; to = x.to; height = x.height }) a ∙
              ap (λ n. record { from = y.from; to = n; height = x.height }) b ∙
              ap (λ n. record { from = y.from; to = y.to; height = n }) e

    pass_below : {a b : ℕ} {h : ℤ} → IsPass t c floods a b h → a < c.cols * c.rows
    pass_below x =
        let m = carried _ x.from_label x.from_is (data_within t c _ are.cuts x.neighbours.from_data) in
        let y = numbered c floods x.from lawful m.1 in
        omega (arith, label_node_below y, node_is y, m.2)

    pub is_graph : (sources : List (Option ℤ)) → length sources ≡ c.cols * c.rows →
        IsGraph (graph_with c lowest sources)
    is_graph sources size = record {
      sources = size;
      ends = all_by_contains (λ j. (j.from < c.cols * c.rows) × (j.to < c.cols * c.rows)) lowest (λ j there.
          let x = placed_pass j there in (pass_below x.1, pass_below (pass_turned x.1)));
      back = join_back;
      rising = low.rising;
    }

    pub is_graph_of : {sources : List (Option ℤ)} → AreSourcesOf t c floods sources →
        IsGraphOf t c floods (graph_with c lowest sources)
    is_graph_of {sources} srcs = record {
      count = refl;
      joined = λ a b h differ pass.
          let k = pass_cover differ pass in
          let there =
          subst (Contains lowest) (ap (λ n. record { from = n; to = k.0.to; height = k.0.height }) k.2 ∙
          ap (λ n. record { from = a; to = n; height = k.0.height }) k.3) k.1 in (
            k.0.height,
            record {
              from_node = pass_below pass;
              to_node = pass_below (pass_turned pass);
              there = there;
              back = join_back _ there;
            },
          );
      joined_only = λ a b h join. record {
        different = (placed_pass _ join.there).0;
        pass = (placed_pass _ join.there).1;
        least = λ other pass. low_as _ join.there pass;
      };
      sources = srcs.right (graph_with c lowest sources) refl;
    }
