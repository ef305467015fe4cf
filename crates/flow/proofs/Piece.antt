-- The lists made for a tile, of codes, links, sums and ends of paths, are the tile's flow.
use Rattle.std.proofs.Common.{◌≡◌, ℕ, ◌-◌, ◌*◌, ◌^◌, ◌<◌, ◌≤◌, inl, inr, List, length, get_or, Option, None, Some, is_some, MatchOption, cond, sym, ap, subst, refl, ◌∙◌, arith}
use Rattle.std.specs.Prelude.{slice_index}
use Rattle.std.proofs.lemmas.Bool.{cond-true}
use Rattle.std.proofs.Math.ListN.{length-map}
use Rattle.std.proofs.lemmas.List.{get_or-map}
use Rattle.std.proofs.lemmas.List.FromFn.{get_or-map-range_with_len, length-map-range_with_len}
use Rattle.std.proofs.lemmas.Option.{none-some}
use Rattle.terrain.specs.StoredCells.{uncounted}
use Rattle.terrain.specs.declared.place.Place.{Place}
use Rattle.tiles.specs.declared.bounds.Bounds.{Bounds}
use Rattle.tiles.specs.Cutting.{Cutting, IsCutting, View, IsView, AreBounds, IsInBounds, bounds_of, tile_count, place_in, index_in, entry_in}
use Rattle.tiles.proofs.Cut.{places_from_value, in_bounds, bounds_inside, in_bounds_from}
use Rattle.tiles.proofs.TileOrder.{place_in_tile, index_in-place_in, index_in_below, place_in-index_in, entry_in-inside}
use Rattle.drainage.specs.Following.{Directed, code_at}
use Rattle.drainage.specs.Drained.{AllFlowEnds}
use Rattle.flow.specs.Numbering.{AreExitNumbers}
use Rattle.flow.specs.Streams.{AreStreams, AreSums, AreEnds, AreEndNumbers, end_of, total}
use Rattle.flow.specs.TileFlow.{Flow, directed_by, through_in, through_of, IsExitOf, IsFlow, IsTileExits, IsTileCounts}
use Rattle.flow.specs.TileLinks.{link_by, AreTileCodes, EndsInLargestGrid, links_by, weights_by, where_data, counts_by, ends_by, rim_ends_by, exits_by, flow_by, AreFlowLists}
use Rattle.flow.proofs.Totals.{total_is}
use Rattle.flow.proofs.Reaching.{IsEnding, ending_of}
use Rattle.flow.proofs.DrainedCells.{all_drained_inside, drained_inside_few, through_is as drained_inside_through}
use Rattle.flow.proofs.Coded.{IsCoded, cases_coded}
use Rattle.flow.proofs.InTile.{AreTileLinks, AreTileWeights, IsPiece, tile_streams, exit_is}
use Rattle.flow.proofs.Ending.{end-inside}
use Rattle.flow.proofs.Moved.{few_cells}
use Rattle.flow.proofs.TileTotals.{own_totals}

pub bounds_end_in_grid : {t : Cutting} {b : Bounds} → IsCutting t → AreBounds t b → EndsInLargestGrid b
bounds_end_in_grid h a = record { some_col = a.some_col; few_rows = omega arith; few_cols = omega arith }

pub links_from : {d : Directed} {b : Bounds} {cells : List (Option ℕ)} → AreTileCodes d b cells →
    AreTileLinks d b (links_by b cells)
links_from {b = b} {cells = cells} codes = record {
  size = length-map-range_with_len (λ i. link_by b i (get_or cells i None)) 0 _;
  each = λ i h. get_or-map-range_with_len (λ i. link_by b i (get_or cells i None)) 0 _ i i 0 h (omega arith) ∙
      ap (link_by b i) (codes.each i h);
}

pub weights_from : {d : Directed} {b : Bounds} {cells : List (Option ℕ)} → AreTileCodes d b cells →
    AreTileWeights d b (weights_by cells)
weights_from {cells = cells} codes = record {
  size = length-map cells (λ code. cond (is_some code) 1 0) ∙ codes.size;
  each = λ i h. cc (
    get_or-map (λ (code : Option ℕ). cond {A = ℕ} (is_some code) 1 0) cells i None 0 (omega arith),
    codes.each i h,
  );
}

pub ends_are : (links : List ℕ) → AreEnds links (ends_by links)
ends_are links = record {
  size = length-map-range_with_len _ 0 _;
  each = λ i h. get_or-map-range_with_len _ 0 _ i i 0 h (omega arith);
}

placed : (b : Bounds) (code : Option ℕ) (n : ℕ) (e : Place) → where_data code (place_in b n) ≡ Some e → n ≡ index_in b e
placed b None n e is = absurd (none-some e is)
placed b (Some code) n e is = cc (index_in-place_in b n)

-- In the lists of one flow each cell has a link, and `ends_by` lists the ends of paths.
module _ {b : Bounds} {cells : List (Option ℕ)} {links rim_ends : List ℕ} (s : AreFlowLists b cells links rim_ends)
  where
    pub as_many_links : length links ≡ length cells
    as_many_links = cc (length-map-range_with_len (λ i. link_by b i (get_or cells i None)) 0 (b.rows * b.cols))

    pub end_listed : (i : ℕ) → i < length cells → end_of links i ≡ get_or (ends_by links) i 0
    end_listed i h = sym ((ends_are links).each i (omega (arith, as_many_links)))

    -- The numbers of the ends of paths are those of the exits.
    pub exit_numbers_are : {f : Flow} → flow_by b cells (ends_by links) ≡ f → {number : ℕ → ℕ} →
        ((i : ℕ) → i < length f.exits → number i < uncounted) → {numbers : List ℕ} →
        AreEndNumbers links number numbers → AreExitNumbers f number numbers
    exit_numbers_are seen {number} few {numbers} are =
        subst (λ f. ((i : ℕ) → i < length f.exits → number i < uncounted) → AreExitNumbers f number numbers) seen
        (λ few.
        let exit : ℕ → Option Place = λ i. where_data (get_or cells i None) (place_in b (get_or (ends_by links) i 0)) in
        let size = length-map-range_with_len exit 0 _ in
        record {
          size = are.size ∙ as_many_links ∙ sym size;
          few = λ i below.
              let here : i < length links = omega (arith, as_many_links) in
              omega (arith, few (end_of links i) (omega (arith, end-inside s.streams i here, as_many_links)));
          each = λ i e below listed.
              let inside : i < length cells = omega arith in
              are.each i (omega (arith, as_many_links)) ∙ ap number (end_listed i inside ∙
              placed b _ _ e (sym (get_or-map-range_with_len exit 0 _ i i None inside (omega arith)) ∙ listed));
        }) few

-- The codes (`cells`), links and weights of the tile that a view shows. In the view's map of
-- directions all flow paths end.
pub record AreLists (v : View (Option ℕ)) (b : Bounds) (cells : List (Option ℕ)) (links weights : List ℕ) : Type 0 where
  pub ends : AllFlowEnds (directed_by v)
  pub bounds : b ≡ bounds_of v.cutting v.tile
  pub inside : AreBounds v.cutting b
  pub lawful : IsView v
  pub codes : AreTileCodes (directed_by v) b cells
  pub made : links ≡ links_by b cells
  pub weighed : weights ≡ weights_by cells

pub lists_made : {v : View (Option ℕ)} {b : Bounds} {cells given : List (Option ℕ)} {links : List ℕ} →
    AllFlowEnds (directed_by v) → b ≡ bounds_of v.cutting v.tile → AreBounds v.cutting b → IsView v →
    AreTileCodes (directed_by v) (bounds_of v.cutting v.tile) cells → given ≡ cells → links ≡ links_by b given →
    AreLists v b cells links (weights_by cells)
lists_made {v} {b} {cells} ends is inside lawful codes same made = record {
  ends = ends;
  bounds = is;
  inside = inside;
  lawful = lawful;
  codes = rw is codes;
  made = cc;
  weighed = refl;
}

-- An entry made by `where_data` has its value at a data cell, and is `None` at NODATA.
pub match_data : {X : Type 0} (o : Option ℕ) (x y : X) {entry : Option X} → entry ≡ where_data o x →
    ((code : ℕ) → o ≡ Some code → x ≡ y) → MatchOption o (entry ≡ None) (λ _. entry ≡ Some y)
match_data None x y e same = e
match_data (Some code) x y e same = cc (same code refl)

module _ {v : View (Option ℕ)} {b : Bounds} {cells : List (Option ℕ)} {links weights : List ℕ}
    (s : AreLists v b cells links weights) where
  pub piece : IsPiece (directed_by v) v.cutting v.tile b links
  piece = record {
    cutting = s.lawful.cutting;
    cols = refl;
    rows = refl;
    ends = s.ends;
    inside = s.inside;
    places = places_from_value _ _ b s.lawful.cutting s.lawful.tile s.bounds;
    made = rw s.made (links_from s.codes);
  }

  weighs : AreTileWeights (directed_by v) b weights
  weighs = rw s.weighed (weights_from s.codes)

  pub streams : AreStreams links
  streams = tile_streams piece

  pub few : length links ≤ 2 ^ 24
  few = let small = bounds_end_in_grid s.lawful.cutting s.inside in
      omega (arith, piece.made.size, few_cells b small.few_rows small.few_cols)

  ending : IsEnding (directed_by v)
  ending = ending_of _ s.ends s.lawful.cutting (refl, refl)

  total_drained_inside : (i : ℕ) → i < length links → total links weights i ≡ all_drained_inside (directed_by v)
      v.cutting (place_in b i)
  total_drained_inside = total_is streams (own_totals ending piece weighs)

  pub fits : (i : ℕ) → i < length links → total links weights i < 2 ^ 32
  fits i h = omega (arith, total_drained_inside, drained_inside_few ending v.cutting (place_in b i))

  pub sizes : length links ≡ length cells
  sizes = piece.made.size ∙ sym s.codes.size

  in_cells : (p : Place) → IsInBounds b p → index_in b p < length cells
  in_cells p h = omega (arith, index_in_below b p h)

  code_is : (p : Place) → IsInBounds b p → get_or cells (index_in b p) None ≡ code_at (directed_by v) p
  code_is p h = cc (s.codes.each (index_in b p) (index_in_below b p h), place_in-index_in b p h)

  pub count_entry : (totals : ℕ → ℕ) (p : Place) → IsInBounds b p → get_or (counts_by cells totals) (index_in b p)
      None ≡ where_data (code_at (directed_by v) p) (totals (index_in b p) - 1)
  count_entry totals p h = cc (
    get_or-map-range_with_len (λ i. where_data (get_or cells i None) (totals i - 1)) 0 (length cells) (index_in b p)
        (index_in b p) None (in_cells p h) (omega arith),
    code_is p h,
  )

  module _ {totals : List ℕ} (summed : AreSums links weights totals) where
    count_of : (p : Place) → IsInBounds b p → IsCoded (directed_by v) p →
        get_or totals (index_in b p) 0 - 1 ≡ through_of (directed_by v) v.cutting p
    count_of p h is =
        let at = place_in-index_in b p h in
        let i : index_in b p < length links = omega (arith, in_cells p h, sizes) in
        let there = rw (← at) at is in
        omega (arith, total_drained_inside, drained_inside_through ending v.cutting there) ∙
        ap (through_of (directed_by v) v.cutting) at

    pub counts_are : (f : Flow) → f.bounds ≡ b → f.through ≡ counts_by cells (slice_index totals) →
        IsTileCounts (directed_by v) v.cutting v.tile f
    counts_are f same through = record {
      size = cc (length-map-range_with_len (λ i. where_data (get_or cells i None) (get_or totals i 0 - 1)) 0
          (length cells));
      each = λ p i. (let h = (piece.places p).0 i in
          let entry : through_in f p ≡ entry_in b (counts_by cells (slice_index totals)) p =
          ap (λ z. entry_in z f.through p) same ∙ ap (λ l. entry_in b l p) through in
          match_data _ _ _ (entry ∙ entry_in-inside b _ p h ∙ count_entry _ p h)
          (λ code is. count_of p h (record { code = code; is = is })));
    }

  module _ {ends : List ℕ} (last : AreEnds links ends) where
    exit_entry : (p : Place) → IsInBounds b p → entry_in b (exits_by b cells ends) p ≡ where_data
        (code_at (directed_by v) p) (place_in b (get_or ends (index_in b p) 0))
    exit_entry p h = cc (
      entry_in-inside b (exits_by b cells ends) p h,
      get_or-map-range_with_len (λ i. where_data (get_or cells i None) (place_in b (get_or ends i 0))) 0 (length cells)
          (index_in b p) (index_in b p) None (in_cells p h) (omega arith),
      code_is p h,
    )

    exit_of : (p : Place) → IsInBounds b p → IsCoded (directed_by v) p → IsExitOf (directed_by v) v.cutting p
        (place_in b (get_or ends (index_in b p) 0))
    exit_of p h is =
        let at = place_in-index_in b p h in
        let i : index_in b p < length links = omega (arith, in_cells p h, sizes) in
        let there = rw (← at) at is in
        let e = exit_is piece _ i there in
        subst (λ q. IsExitOf (directed_by v) v.cutting q (place_in b (get_or ends (index_in b p) 0))) at
        (subst (λ n. IsExitOf (directed_by v) v.cutting (place_in b (index_in b p)) (place_in b n))
        (sym (last.each _ i)) e)

    flow_lawful : IsFlow (flow_by b cells ends)
    flow_lawful =
        let small = bounds_end_in_grid s.lawful.cutting s.inside in
        record {
          some_col = small.some_col;
          few_rows = small.few_rows;
          few_cols = small.few_cols;
          codes_size = s.codes.size;
          exits_size = length-map-range_with_len (λ i. where_data (get_or cells i None) (place_in b (get_or ends i 0)))
              0 _ ∙ s.codes.size;
        }

    pub exits_are : IsTileExits (directed_by v) v.cutting v.tile (flow_by b cells ends)
    exits_are = record {
      bounds = s.bounds;
      lawful = flow_lawful;
      same_codes = λ p i. let h = (piece.places p).0 i in entry_in-inside b cells p h ∙ code_is p h;
      each = λ p i. let h = (piece.places p).0 i in
          elim (cases_coded (directed_by v) p) [
            | inl none ↦ rw none (exit_entry p h ∙ ap (λ o. where_data o (place_in b (get_or ends (index_in b p) 0)))
                none)
            | inr is ↦ rw is.is (place_in b (get_or ends (index_in b p) 0), cc (exit_entry p h), exit_of p h is)
          ];
    }

  pub lists_are : {rim_ends : List ℕ} → rim_ends ≡ rim_ends_by b links → AreFlowLists b cells links rim_ends
  lists_are rim = record { linked = s.made; lawful = flow_lawful (ends_are links); streams = streams; rim = rim }

pub codes_from : {d : Directed} {t : Cutting} {tile : ℕ} {f : Flow} → IsCutting t → tile < tile_count t →
    IsTileExits d t tile f → AreTileCodes d (bounds_of t tile) f.codes
codes_from {t = t} {tile = tile} {f = f} cutting below right = record {
  size = cc;
  each = λ i h.
      let inside = place_in_tile t tile i cutting below h in
      let entry : entry_in f.bounds f.codes (place_in (bounds_of t tile) i) ≡ get_or f.codes i None = cc (
        cond-true {A = Option ℕ} _ _ _ (in_bounds_from (bounds_of t tile) (place_in (bounds_of t tile) i)
            (in_bounds t tile (place_in (bounds_of t tile) i) cutting inside)),
        index_in-place_in (bounds_of t tile) i,
      ) in
      sym entry ∙ right.same_codes _ inside;
}

-- The codes of a flow with the exits of a view's tile, their links and weights are the tile's.
pub lists_seen : {v : View (Option ℕ)} {f : Flow} → IsTileExits (directed_by v) v.cutting v.tile f →
    AllFlowEnds (directed_by v) → IsView v → AreLists v f.bounds f.codes (links_by f.bounds f.codes)
    (weights_by f.codes)
lists_seen {v} {f} right ends lawful = lists_made ends right.bounds
    (rw right.bounds (bounds_inside _ _ lawful.cutting lawful.tile)) lawful (codes_from lawful.cutting lawful.tile
    right) refl refl

-- Replacing the counts of a flow keeps its exits.
pub exits_kept : {d : Directed} {t : Cutting} {tile : ℕ} {f : Flow} (through : List (Option ℕ)) →
    IsTileExits d t tile f → IsTileExits d t tile (record f { through = through })
exits_kept through right = record {
  bounds = right.bounds;
  lawful = record {
    some_col = right.lawful.some_col;
    few_rows = right.lawful.few_rows;
    few_cols = right.lawful.few_cols;
    codes_size = right.lawful.codes_size;
    exits_size = right.lawful.exits_size;
  };
  same_codes = right.same_codes;
  each = right.each;
}
