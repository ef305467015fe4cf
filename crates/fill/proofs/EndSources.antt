-- The heights of all labels that are end cells are written into one list, tile by tile. Then that
-- list has just the sources of the spill graph.
use Rattle.std.proofs.Common.{◌≡◌, ℕ, ◌+◌, ◌*◌, ◌<◌, ◌≤◌, ◌⊎◌, inl, inr, ℤ, List, length, get_or, set, Option, None, Some, IsSome, IfSome, is_some, ◌∙◌, sym, ap, subst, arith}
use Rattle.std.specs.Prelude.{slice_get}
use Rattle.std.proofs.lemmas.Bool.{cases_eq, cases_lt}
use Rattle.std.proofs.lemmas.Option.{same_Some, MatchOption-at_some, MatchOption-at_none, slice_get_within}
use Rattle.std.proofs.lemmas.List.{length-set, get_or-set_same, get_or-set_other, get_or-map, get_or_past, length-map}
use Rattle.terrain.specs.Raster.{Terrain}
use Rattle.terrain.specs.Neighbours.{height_at, index_of, IsEnd}
use Rattle.terrain.specs.declared.place.Place.{Place}
use Rattle.terrain.proofs.Places.{index_injective, index_below}
use Rattle.terrain.proofs.Options.{cases_option, none_some, none_done}
use Rattle.tiles.specs.Cutting.{Cutting, IsWithin, tile_of_place}
use Rattle.tiles.proofs.Cut.{tile_of_place_below}
use Rattle.cell_floods.specs.Labels.{labels_by}
use Rattle.cell_floods.specs.TileFlood.{Flood, IsFlood, AreEndHeights, label_in}
use Rattle.cell_floods.proofs.TileRectangles.{data_within}
use Rattle.cell_floods.proofs.Rectangles.{data_is}
use Rattle.fill.specs.Ends.{IsEndAt, PutsEnds, put_end}
use Rattle.fill.specs.SpillGraph.{AreFloods, AreGraphSources, AreSourcesOf}
use Rattle.fill.proofs.LabelNets.{has_tile_level, end_label, list_there, among_is}
use Rattle.fill.proofs.CellLabels.{label_entry}

-- `new` is `old` with heights written at the nodes of labels that are end cells. At least those of
-- the first `count` entries of the table are written.
pub record PutsFirst (c : Cutting) (f : Flood) (count : ℕ) (old new : List (Option ℤ)) :
    Type 0 where
  pub size : length new ≡ length old
  pub only : (a : ℕ) → (get_or new a None ≡ get_or old a None) ⊎ IsEndAt c f a (get_or new a None)
  pub every : (k : ℕ) (p : Place) → k < count → get_or f.table.places k None ≡ Some p → IsSome
      (get_or f.ends k None) → IsEndAt c f (index_of c.cols p) (get_or new (index_of c.cols p) None)

module _ {c : Cutting} {f : Flood} {old : List (Option ℤ)} where
  pub one_put : (k : ℕ) (label : Option Place) (end : Option ℤ) {now : List (Option ℤ)} →
      label ≡ get_or f.table.places k None → end ≡ get_or f.ends k None → IfSome label (IsWithin c) →
      length old ≡ c.cols * c.rows → PutsFirst c f k old now → PutsFirst c f (k + 1) old (put_end c.cols label end now)
  one_put k None end label_is end_is within size s = record {
    size = s.size;
    only = s.only;
    every = λ j p low e some. elim (cases_eq j k) [
      | inl same ↦ none_some _ p (ap (λ n. get_or f.table.places n None) same ∙ sym label_is) e
      | inr other ↦ s.every j p (omega (arith, low, other)) e some
    ];
  }
  one_put k (Some q) None label_is end_is within size s = record {
    size = s.size;
    only = s.only;
    every = λ j p low e some. elim (cases_eq j k) [
      | inl same ↦ none_done _ (ap (λ n. get_or f.ends n None) same ∙ sym end_is) some
      | inr other ↦ s.every j p (omega (arith, low, other)) e some
    ];
  }
  one_put k (Some q) (Some h) {now} label_is end_is within size s = record {
    size = length-set now (index_of c.cols q) (Some h) ∙ s.size;
    only = λ a. elim (cases_eq a (index_of c.cols q)) [
      | inl same ↦ inr (here a same)
      | inr other ↦
          subst (λ o. (o ≡ get_or old a None) ⊎ IsEndAt c f a o)
          (sym (get_or-set_other now (index_of c.cols q) a (Some h) None other)) (s.only a)
    ];
    every = λ j p low e some. elim (cases_eq (index_of c.cols p) (index_of c.cols q)) [
      | inl same ↦ here (index_of c.cols p) same
      | inr other ↦ elim (cases_eq j k) [
        | inl last ↦
            absurd (other
            (ap (index_of c.cols) (same_Some p q (sym e ∙ ap (λ n. get_or f.table.places n None) last ∙ sym label_is))))
        | inr before ↦
            subst (IsEndAt c f (index_of c.cols p))
            (sym (get_or-set_other now (index_of c.cols q) (index_of c.cols p) (Some h) None other))
            (s.every j p (omega (arith, low, before)) e some)
      ]
    ];
  } where
    below : index_of c.cols q < length now
    below = omega (arith, index_below c.cols c.rows q within.0 within.1, s.size, size)

    here : (a : ℕ) → a ≡ index_of c.cols q → IsEndAt c f a (get_or (set now (index_of c.cols q) (Some h)) a None)
    here a same = record {
      entry = k;
      place = q;
      listed = sym label_is;
      within = within;
      node = sym same;
      some = ap is_some (sym end_is);
      is = ap (λ n. get_or (set now (index_of c.cols q) (Some h)) n None) same ∙
          get_or-set_same now (index_of c.cols q) (Some h) None below ∙ end_is;
    }

  pub all_put : {count : ℕ} {new : List (Option ℤ)} → length f.table.places ≤ count → PutsFirst c f count old new →
      PutsEnds c f old new
  all_put {count} all s = record {
    size = s.size;
    only = s.only;
    every = λ k p e some. elim (cases_lt k count) [
      | inl low ↦ s.every k p low e some
      | inr past ↦ none_some _ p (get_or_past _ k None (omega (arith, past, all))) e
    ];
  }

abbrev IsEndNode : Terrain → Cutting → ℕ → ℤ → Type 0
IsEndNode t c a h = (p : Place) × (index_of c.cols p ≡ a) × IsEnd t p × (height_at t p ≡ Some h)

-- An entry of `heights` is None or the height of an end cell whose node is the entry's index. Each
-- label of the first `count` tiles that is an end cell has its height at its node.
pub record HaveEnds (t : Terrain) (c : Cutting) (floods : List Flood) (count : ℕ)
    (heights : List (Option ℤ)) : Type 0 where
  pub size : length heights ≡ c.cols * c.rows
  pub only : (a : ℕ) (h : ℤ) → get_or heights a None ≡ Some h → IsEndNode t c a h
  pub every : (tile : ℕ) (f : Flood) (k : ℕ) (p : Place) (h : ℤ) →
      tile < count → slice_get floods tile ≡ Some f → get_or f.labels k None ≡ Some p → IsEnd t p →
      height_at t p ≡ Some h → get_or heights (index_of c.cols p) None ≡ Some h

module _ {t : Terrain} {c : Cutting} where
  -- The height that `IsEndAt` gives is that of an end cell with this node.
  end_is : (f : Flood) (a : ℕ) (o : Option ℤ) → AreEndHeights t f.table.places f.ends → IsEndAt c f a o →
      (h : ℤ) × (o ≡ Some h) × IsEndNode t c a h
  end_is f a o ends at =
      let some = data_is _ at.some in
      let end = MatchOption-at_some _ _ _ some.1 (ends.each at.entry at.place at.listed) in
      (some.0, at.is ∙ some.1, (at.place, at.node, end.0, end.1))

  pub one_tile : (floods : List Flood) {tile : ℕ} {f : Flood} {old : List (Option ℤ)} (new : List (Option ℤ)) →
      AreFloods t c floods → slice_get floods tile ≡ Some f → IsFlood f → PutsEnds c f old new →
      HaveEnds t c floods tile old → HaveEnds t c floods (tile + 1) new
  one_tile floods {tile} {f} new are there lawful puts s = record {
    size = puts.size ∙ s.size;
    only = λ a h e. elim (puts.only a) [
      | inl kept ↦ s.only a h (sym kept ∙ e)
      | inr put ↦
          let end = end_is f a (get_or new a None) ends put in
          subst (IsEndNode t c a) (same_Some end.0 h (sym end.1 ∙ e)) end.2
    ];
    every = λ i g k p h low at e end height.
        let within = data_within t c p are.cuts (ap is_some height) in
        let from : (o : Option ℤ) → IsEndAt c f (index_of c.cols p) o → o ≡ Some h = λ o put.
        let found = end_is f (index_of c.cols p) o ends put in
        let q_within = data_within t c found.2.0 are.cuts (ap is_some found.2.3) in
        let same = index_injective c.cols found.2.0 p q_within.1 within.1 found.2.1 in
        found.1 ∙ sym found.2.3 ∙ ap (height_at t) same ∙ height in
        elim (cases_eq i tile) [
          | inl same ↦
              let g_is = same_Some g f (sym at ∙ ap (slice_get floods) same ∙ there) in
              let entry = entry_of k p (ap (λ (z : Flood). get_or z.labels k None) (sym g_is) ∙ e) in
              from (get_or new (index_of c.cols p) None) (puts.every entry.0 p entry.1 (some_end entry.0 p entry.1 end))
          | inr other ↦ elim (puts.only (index_of c.cols p)) [
            | inl kept ↦ kept ∙ s.every i g k p h (omega (arith, low, other)) at e end height
            | inr put ↦ from (get_or new (index_of c.cols p) None) put
          ]
        ];
  } where
    ends : AreEndHeights t f.table.places f.ends
    ends = (are.each tile f there).ends

    entry_of : (k : ℕ) (p : Place) → get_or f.labels k None ≡ Some p → (j : ℕ) × (get_or f.table.places j None ≡ Some p)
    entry_of k p e =
        let at : get_or (labels_by f.table.places f.table.indexes) k None ≡ Some p =
        ap (λ (z : List (Option Place)). get_or z k None) (sym lawful.labels) ∙ e in
        elim (cases_lt k (length f.table.indexes)) [
          | inl low ↦ (
            get_or f.table.indexes k 0,
            sym (get_or-map (λ n. get_or f.table.places n None) f.table.indexes k 0 None low) ∙ at,
          )
          | inr past ↦
              none_some _ p (get_or_past (labels_by f.table.places f.table.indexes) k None
              (omega (arith, past, length-map f.table.indexes (λ n. get_or f.table.places n None)))) at
        ]

    some_end : (k : ℕ) (p : Place) → get_or f.table.places k None ≡ Some p → IsEnd t p → IsSome (get_or f.ends k None)
    some_end k p e end = elim (cases_option (get_or f.ends k None)) [
      | inl none ↦ absurd (MatchOption-at_none _ _ none (ends.each k p e) end)
      | inr found ↦ ap is_some found.1
    ]

  -- If `HaveEnds` holds of all tiles, the heights are those of the labels that are end cells.
  pub all_tiles : {floods : List Flood} {count : ℕ} {heights : List (Option ℤ)} → AreFloods t c floods →
      length floods ≤ count → HaveEnds t c floods count heights → AreSourcesOf t c floods heights
  all_tiles {floods} are all s = record {
    size = s.size;
    right = λ g is. subst (λ z. AreGraphSources t c floods (record { nodes = g.nodes; joins = g.joins; sources = z }))
        (sym is) (record {
          each = λ p h carries end height.
              let l = has_tile_level t are.lawful are p (ap is_some height) in
              let tile = tile_of_place c p in
              let f =
              list_there floods tile
              (omega (
                arith,
                are.count,
                tile_of_place_below c p are.lawful (data_within t c p are.cuts (ap is_some height)),
              )) in
              let entry =
              label_entry f.0 p
              (sym (among_is (λ g. label_in g p) floods tile f.1) ∙ l.label_is ∙ ap Some (end_label t c l.right end)) in
              s.every tile f.0 entry.0 p h (omega (arith, slice_get_within floods tile _ f.1, all)) f.1 entry.1 end
              height;
          only = λ a h e.
              let end = s.only a h e in
              let l = has_tile_level t are.lawful are end.0 (ap is_some end.3) in
              (end.0, end.1, (end.0, l.label_is ∙ ap Some (end_label t c l.right end.2), end.1), end.2, end.3);
        });
  }
