-- The counts that a tile's job makes from flow and inflows are the accumulations of the tile's
-- data cells; entries are `None` at NODATA.
use Rattle.std.proofs.Common.{◌≡◌, ℕ, ◌+◌, ◌-◌, ◌<◌, ◌≤◌, List, length, get_or, cond, Option, None, Some, is_some, slice_get, sym, ap, subst, refl, ◌∙◌, arith}
use Rattle.std.specs.Prelude.{map, slice_index}
use Rattle.std.specs.List.{range_with_len}
use Rattle.std.proofs.Math.ListN.{length-map}
use Rattle.std.proofs.lemmas.Option.{slice_get_within}
use Rattle.std.proofs.lemmas.List.FromFn.{get_or-map-range_with_len, length-map-range_with_len}
use Rattle.terrain.specs.declared.place.Place.{Place}
use Rattle.tiles.specs.Cutting.{Cutting, IsCutting, IsInBounds, IsInTile, AreBounds, tile_count, cell_count, bounds_of, tile_entry, place_in, index_in}
use Rattle.tiles.proofs.Cut.{in_bounds, bounds_inside}
use Rattle.tiles.proofs.TileOrder.{index_in_below, index_in-place_in, place_in-index_in, tile_entry-in}
use Rattle.flow.specs.Counts.{accumulation, IsValueAt}
use Rattle.flow.specs.Streams.{AreStreams, AreSums, total}
use Rattle.flow.specs.TileFlow.{Flow, IsTileExits, AreTileFlows}
use Rattle.flow.specs.TileLinks.{AreTileCodes, links_by, weights_by, where_data}
use Rattle.flow.specs.Whole.{IsGridFlow, directed_on}
use Rattle.flow.specs.Inflows.{Inflows, listed_inflow}
use Rattle.flow.specs.Links.{Links, AreLinks}
use Rattle.flow.specs.Counting.{IsCounting, IsCountable, AreCountable, AreInflowWeights, AreCounts}
use Rattle.tiles.specs.RimNumbers.{rim_number_count}
use Rattle.flow.proofs.Coded.{IsCoded}
use Rattle.flow.proofs.Linked.{flows_from}
use Rattle.flow.proofs.InTile.{IsPiece, tile_streams, in_place}
use Rattle.flow.proofs.Piece.{codes_from, AreLists, piece, few, weights_from, count_entry, match_data}
use Rattle.flow.proofs.Reaching.{IsEnding, ending_of}
use Rattle.flow.proofs.DrainedCells.{all_drained, drained_few, entered_few, inflow_sum, accumulation_is}
use Rattle.flow.proofs.TileTotals.{AreWeights, all_totals}
use Rattle.flow.proofs.Totals.{total_is, totals_add}

pub weights_size : (cells : List (Option ℕ)) → length (weights_by cells) ≡ length cells
weights_size cells = length-map cells (λ code. cond (is_some code) 1 0)

-- A map's flows, with counts, and the inflows of their links meet `IsCounting`.
pub counting_of : {t : Cutting} {codes : List (Option ℕ)} {flows : List Flow} {l : Links} {inflows : Inflows} →
    IsGridFlow t.cols t.rows codes → IsCutting t → AreTileFlows (directed_on t codes) t flows →
    AreLinks (directed_on t codes) t l → inflows.cutting ≡ l.cutting → inflows.listed ≡ l.inflows →
    length inflows.listed ≡ rim_number_count inflows.cutting → IsCounting t codes flows inflows
counting_of grid lawful are links cutting listed size = record {
  grid = grid;
  are_flows = flows_from lawful grid.ends are;
  are_inflows = record {
    cutting = cutting ∙ links.cutting;
    size = size ∙ ap rim_number_count (cutting ∙ links.cutting);
    each = λ p within. rw (cutting, listed) (links.inflows p within);
  };
}

module _ {t : Cutting} {codes : List (Option ℕ)} {flows : List Flow} {inflows : Inflows}
    (s : IsCounting t codes flows inflows) where
  ending : IsEnding (directed_on t codes)
  ending = ending_of _ s.grid.ends s.are_flows.cutting (refl, refl)

  module _ (tile : ℕ) (f : Flow) (there : slice_get flows tile ≡ Some f) where
    right : IsTileExits (directed_on t codes) t tile f
    right = s.are_flows.of_tiles.each tile f there

    below : tile < tile_count t
    below = omega (arith, slice_get_within)

    around : AreBounds t (bounds_of t tile)
    around = bounds_inside t tile s.are_flows.cutting below

    of_cells : AreTileCodes (directed_on t codes) (bounds_of t tile) f.codes
    of_cells = codes_from s.are_flows.cutting below right

    within_tile : (p : Place) → IsInBounds (bounds_of t tile) p → (p.row < t.rows) × (p.col < t.cols)
    within_tile p h = (omega arith)

    pub inflow_few : (p : Place) → IsInBounds (bounds_of t tile) p → listed_inflow inflows p ≤ 16777216
    inflow_few p h = omega (arith, s.are_inflows.each p (within_tile p h), inflow_sum, entered_few ending t p)

    module _ {links : List ℕ} (made : links ≡ links_by (bounds_of t tile) f.codes) where
      lists : AreLists (record { cutting = t; tile = tile; cells = codes }) (bounds_of t tile) f.codes links
          (weights_by f.codes)
      lists = record {
        ends = s.grid.ends;
        bounds = refl;
        inside = around;
        lawful = record { cutting = s.are_flows.cutting; tile = below; size = s.grid.size };
        codes = of_cells;
        made = made;
        weighed = refl;
      }

      piece_of : IsPiece (directed_on t codes) t tile (bounds_of t tile) links
      piece_of = piece lists

      pub streams_of : AreStreams links
      streams_of = tile_streams piece_of

      pub same_sizes : length links ≡ length f.codes
      same_sizes = piece_of.made.size ∙ sym of_cells.size

      module _ {weights : List ℕ} (weighed : AreInflowWeights inflows (bounds_of t tile) weights) where
        abbrev both : List ℕ
        both = map (λ i. get_or (weights_by f.codes) i 0 + get_or weights i 0) (range_with_len 0 (length links))

        both_at : (i : ℕ) → i < length links → get_or both i 0 ≡ get_or (weights_by f.codes) i 0 + get_or weights i 0
        both_at i h = get_or-map-range_with_len (λ i. get_or (weights_by f.codes) i 0 + get_or weights i 0) 0 _ i i 0 h
            (omega arith)

        weights_are : AreWeights ending piece_of both
        weights_are j h =
            let inside = in_place piece_of j h in
            let index = index_in-place_in (bounds_of t tile) j in
            let own = (weights_from of_cells).each j (omega (arith, piece_of.made.size)) in
            omega (arith, both_at, ap (λ n. get_or weights n 0) index, s.are_inflows.each _ (within_tile _ inside))

        total_drained : (i : ℕ) → i < length links → total links (weights_by f.codes) i + total links weights i ≡
            all_drained (directed_on t codes) (place_in (bounds_of t tile) i)
        total_drained i h = omega (
          arith,
          totals_add links _ weights both streams_of both_at i h,
          total_is streams_of (all_totals ending piece_of both weights_are) i h,
        )

        count_is : {totals added : List ℕ} → AreSums links (weights_by f.codes) totals → AreSums links weights added →
            {p : Place} → IsInBounds (bounds_of t tile) p → IsCoded (directed_on t codes) p →
            get_or totals (index_in (bounds_of t tile) p) 0 + get_or added (index_in (bounds_of t tile) p) 0 - 1 ≡
            accumulation (directed_on t codes) p
        count_is counted summed {p = p} h is =
            let at = place_in-index_in _ p h in
            let there : index_in (bounds_of t tile) p < length links =
            omega (arith, index_in_below _ p h, of_cells.size, same_sizes) in
            omega (arith, total_drained, ap (all_drained (directed_on t codes)) at, accumulation_is ending p is)

    countable : IsCountable inflows tile f
    countable =
        let made = ap (λ b. links_by b f.codes) right.bounds in
        record {
          bounds = right.bounds ∙ ap (λ x. bounds_of x tile) (sym s.are_inflows.cutting);
          size = of_cells.size ∙ ap (λ x. cell_count x tile) (sym s.are_inflows.cutting);
          linked = same_sizes made;
          few = omega (arith, few (lists made), same_sizes made);
          streams = streams_of made;
          few_enter = λ p h. omega (arith, inflow_few p (rw s.are_inflows.cutting at h));
          totals_fit = λ weights weighed i h. omega (
            arith,
            total_drained made (subst (λ x. AreInflowWeights inflows (bounds_of x tile) weights) s.are_inflows.cutting
                weighed) i (omega (arith, same_sizes made)),
            drained_few ending (place_in (bounds_of t tile) i),
          );
        }

    -- The count at each place of the tile is its accumulation, `None` at NODATA.
    pub entry_counted : {values : List (Option ℕ)} → AreCounts inflows tile f values → (p : Place) → IsInTile t tile p →
        IsValueAt (directed_on t codes) (accumulation (directed_on t codes)) p (tile_entry t tile values p)
    entry_counted {values} are p i =
        let h = in_bounds t tile p s.are_flows.cutting i in
        let made = ap (λ b. links_by b f.codes) right.bounds in
        let weighed = subst (λ x. AreInflowWeights inflows (bounds_of x tile) are.weights) s.are_inflows.cutting
        are.weighed in
        let links = links_by f.bounds f.codes in
        match_data _ _ _ (cc (
          tile_entry-in t tile values p i,
          count_entry (lists made) (λ i. slice_index are.totals i + slice_index are.added i) p h,
        )) (λ code is. count_is made weighed are.counted are.summed h (record { code = code; is = is }))

  pub countable_all : AreCountable t flows inflows
  countable_all = record { same_cutting = s.are_inflows.cutting; count = s.are_flows.of_tiles.count; each = countable }

pub counts_size : {inflows : Inflows} {tile : ℕ} {f : Flow} {values : List (Option ℕ)} →
    AreCounts inflows tile f values → length values ≡ length f.codes
counts_size {f = f} are =
    ap length are.made ∙ length-map-range_with_len (λ i. where_data (get_or f.codes i None)
    (get_or are.totals i 0 + get_or are.added i 0 - 1)) 0 _
