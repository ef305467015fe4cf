-- The data cells of a tile get the numbers of the ends of their flow paths.
use Rattle.std.proofs.Common.{◌≡◌, ℕ, ◌*◌, ◌<◌, ◌≤◌, inl, inr, List, length, get_or, take, Option, None, Some, is_some, slice_get, sym, ap, subst, ◌∙◌, arith}
use Rattle.std.proofs.lemmas.Bool.{cases_eq, cond-true, cond_both, false≢true}
use Rattle.std.proofs.lemmas.List.{length-take}
use Rattle.std.proofs.lemmas.List.Sums.{count_by-le-length}
use Rattle.std.proofs.lemmas.List.FromFn.{get_or-map-range_with_len}
use Rattle.std.proofs.lemmas.Option.{slice_get_within, MatchOption-at_none, MatchOption-at_some, same_Some}
use Rattle.terrain.specs.Neighbours.{index_of}
use Rattle.terrain.specs.StoredCells.{uncounted}
use Rattle.terrain.specs.declared.place.Place.{Place}
use Rattle.terrain.proofs.Places.{index_below}
use Rattle.tiles.specs.Cutting.{Cutting, IsInBounds, IsInTile, IsWithin, tile_of_place, tile_count, cell_count, tile_entry, place_in, index_in}
use Rattle.tiles.proofs.Cut.{in_bounds, in_bounds_from}
use Rattle.tiles.proofs.TileOrder.{place_in_tile, place_in-index_in, index_in_below, tile_entry-in}
use Rattle.drainage.specs.Following.{Directed, code_at, last_of, next}
use Rattle.flow.specs.Counts.{IsValueAt}
use Rattle.flow.specs.TileFlow.{Flow, exit_in, IsTileExits, IsExitOf, IsExitCell}
use Rattle.flow.specs.TileLinks.{where_data}
use Rattle.flow.specs.RimGraph.{AreFlowsOf, AreOutlets, Outlets}
use Rattle.flow.specs.Numbering.{EndNumbers, end_number, outlet_numbers, IsNumbering, IsReady, AreReady, AreExitNumbers, AreNumberedCells, IsNumberedPlace, number_at, tile_numbers, cell_numbers_by}
use Rattle.flow.proofs.Coded.{IsCoded, cases_coded, coded_along, coded_inside}
use Rattle.flow.proofs.Moved.{few_cells}
use Rattle.flow.proofs.RimFlows.{within_of, last_same, exit_in_tile}

-- With at most 2^24 codes, each outlet number is below `uncounted`, the stored count of NODATA.
pub outlet_number_few : (codes : List (Option ℕ)) → length codes ≤ 4096 * 4096 → (i : ℕ) →
    (outlet_numbers codes).number i < uncounted
outlet_number_few codes few i =
    let before = take i codes in
    omega (arith, count_by-le-length, length-take i codes)

-- The numbers of a tile's cells are below `uncounted`.
pub numbers_few : {o : Outlets} {flows : List Flow} {n : EndNumbers} {f : Flow} → AreNumberedCells o flows n f →
    (i : ℕ) → i < length f.exits → (tile_numbers o flows n f).number i < uncounted
numbers_few {o} {flows} {n} {f} are i below =
    cond_both _ _ 0 (λ k. k < uncounted) (λ _. (are.places i below).few) (λ _. omega arith)

-- A map's flows, the outlets found from them, and numbers below `uncounted` meet `IsNumbering`.
pub numbering_of : {d : Directed} {t : Cutting} {flows : List Flow} (o : Outlets) (n : EndNumbers) →
    AreFlowsOf d t flows → o.cutting ≡ t → ((d : Directed) → AreFlowsOf d t flows → AreOutlets d t flows o) →
    n.cells ≡ t.cols * t.rows → ((i : ℕ) → i < n.cells → n.number i < uncounted) → IsNumbering d t flows o n
numbering_of {d} {t} o n are cutting outlets size few = record {
  are_flows = are;
  are_outlets = outlets d are;
  same_cutting = cutting;
  size = cc;
  few = few;
}

module _ {d : Directed} {t : Cutting} {flows : List Flow} {o : Outlets} {n : EndNumbers} (s : IsNumbering d t flows o n)
  where
    same_cols : o.cutting.cols ≡ d.cols
    same_cols = cc

    number_of_last : (p : Place) → number_at o.cutting.cols n (Some (last_of d p)) ≡ end_number d n p
    number_of_last p = cc same_cols

    last_below : (p : Place) → IsCoded d p → index_of d.cols (last_of d p) < n.cells
    last_below p is =
        let w = coded_inside (coded_along s.are_flows.ends is (d.cols * d.rows)) in
        omega (arith, index_below d.cols d.rows (last_of d p) w.0 w.1)

    number_few : (p : Place) → IsCoded d p → end_number d n p < uncounted
    number_few p is = s.few _ (last_below p is)

    exit_place : (p : Place) → IsCoded d p → IsExitCell d t p → IsNumberedPlace o flows n p
    exit_place p is cell =
        let at = s.are_outlets.outlets p cell in
        record {
          within = rw s.same_cutting (within_of s.are_flows is);
          numbered =
              let below : index_of o.cutting.cols (last_of d p) < n.cells =
              omega (arith, last_below, ap (λ cols. index_of cols (last_of d p)) same_cols) in
              rw at below;
          few = omega (arith, ap (number_at o.cutting.cols n) at, number_of_last, number_few);
        }

    other_place : (p : Place) → IsWithin t p → (IsExitCell d t p → ⊥) → IsNumberedPlace o flows n p
    other_place p within other =
        let at = s.are_outlets.no_outlets p within other in
        record {
          within = rw s.same_cutting within;
          numbered = rw at tt;
          few = omega (arith, ap (number_at o.cutting.cols n) at);
        }

    numbered_place : (p : Place) → IsWithin t p → IsNumberedPlace o flows n p
    numbered_place p within = elim (cases_coded d p) [
      | inl none ↦ other_place p within (λ x. false≢true (cc))
      | inr is ↦ elim (cases_eq is.code 0) [
        | inl out ↦ exit_place p is (cc, inl (cc))
        | inr goes ↦ elim (cases_eq (tile_of_place t (next d p)) (tile_of_place t p)) [
          | inr apart ↦ exit_place p is (cc, inr apart)
          | inl same ↦ other_place p within (λ x. elim x.1 [
            | inl out ↦ goes (same_Some is.code 0 (cc))
            | inr apart ↦ apart same
          ])
        ]
      ]
    ]

    module _ (tile : ℕ) (f : Flow) (there : slice_get flows tile ≡ Some f) where
      right : IsTileExits d t tile f
      right = s.are_flows.of_tiles.each tile f there

      cell_size : length f.exits ≡ cell_count t tile
      cell_size = right.lawful.exits_size ∙ ap (λ b. b.rows * b.cols) right.bounds

      in_flow : (p : Place) → IsInTile t tile p → IsInBounds f.bounds p
      in_flow p i = rw right.bounds (in_bounds t tile p s.are_flows.cutting i)

      index_few : (p : Place) → IsInTile t tile p → index_in f.bounds p < length f.exits
      index_few p i = omega (arith, index_in_below _ p (in_flow p i), right.lawful.exits_size)

      exit_entry : (p : Place) → IsInTile t tile p → get_or f.exits (index_in f.bounds p) None ≡ exit_in f p
      exit_entry p i = sym (cond-true _ _ _ (in_bounds_from _ p (in_flow p i)))

      code_entry : (p : Place) → IsInTile t tile p → get_or f.codes (index_in f.bounds p) None ≡ code_at d p
      code_entry p i = sym (cond-true _ _ _ (in_bounds_from _ p (in_flow p i))) ∙ right.same_codes p i

      -- The exit of a data cell p, as the flow lists it.
      record ListedExit (p : Place) : Type 0 where
        pub exit : Place
        pub listed : get_or f.exits (index_in f.bounds p) None ≡ Some exit
        pub leads : IsExitOf d t p exit
        pub coded : IsCoded d exit
        pub inside : IsInTile t tile exit

      has_exit : {p : Place} → IsInTile t tile p → IsCoded d p → ListedExit p
      has_exit {p} i is =
          let m = MatchOption-at_some _ _ _ is.is (right.each p i) in
          let x = exit_in_tile s.are_flows _ is m.2 in
          record {
            exit = m.0;
            listed = cc (exit_entry p i);
            leads = m.2;
            coded = x.0;
            inside = (within_of s.are_flows x.0, cc);
          }

      no_exit : (p : Place) → IsInTile t tile p → code_at d p ≡ None → get_or f.exits (index_in f.bounds p) None ≡ None
      no_exit p i none = exit_entry p i ∙ MatchOption-at_none _ _ none (right.each p i)

      tile_ready : IsReady t flows o n tile f
      tile_ready = record {
        size = cell_size;
        numbered = record {
          codes_size = right.lawful.codes_size ∙ sym right.lawful.exits_size;
          small = omega (arith, right.lawful.exits_size, few_cells _ right.lawful.few_rows right.lawful.few_cols);
          places = λ i below.
              let tile_below : tile < tile_count t = omega (arith, slice_get_within) in
              let inside = subst (λ b. IsInTile t tile (place_in b i)) (sym right.bounds)
              (place_in_tile t tile i s.are_flows.cutting tile_below (omega (arith, cell_size))) in
              numbered_place _ inside.0;
        };
      }

      -- `tile_numbers` has at p's exit the number of the cell where the flow path of p ends.
      exit_number_is : {p : Place} → IsCoded d p → (h : ListedExit p) →
          (tile_numbers o flows n f).number (index_in f.bounds h.exit) ≡ end_number d n p
      exit_number_is is h = cc (
        cond-true {A = ℕ} _ _ 0 (ap is_some (code_entry h.exit h.inside ∙ h.coded.is)),
        place_in-index_in f.bounds h.exit (in_flow h.exit h.inside),
        s.are_outlets.outlets h.exit (h.leads).4,
        number_of_last h.exit,
        last_same s.are_flows (h.leads).0 is (h.leads).3,
      )

      -- The value at each place of the tile is the number of its path's end, `None` at NODATA.
      pub entry_numbered : {values : List (Option ℕ)} {numbers : List ℕ} →
          AreExitNumbers f (tile_numbers o flows n f).number numbers → values ≡ cell_numbers_by f.codes numbers →
          (p : Place) → IsInTile t tile p → IsValueAt d (end_number d n) p (tile_entry t tile values p)
      entry_numbered {values} {numbers} are made p i =
          let below = index_few p i in
          let entry =
          tile_entry-in t tile values p i ∙ ap (λ b. get_or values (index_in b p) None) (sym right.bounds) ∙
          ap (λ l. get_or l (index_in f.bounds p) None) made ∙
          get_or-map-range_with_len (λ i. where_data (get_or f.codes i None) (get_or numbers i 0)) 0 (length f.codes) _
          _ None (omega (arith, right.lawful.codes_size, right.lawful.exits_size)) (omega arith) ∙
          ap (λ o. where_data o (get_or numbers (index_in f.bounds p) 0)) (code_entry p i) in
          elim (cases_coded d p) [
            | inl none ↦ rw none (entry ∙ ap (λ o. where_data o (get_or numbers (index_in f.bounds p) 0)) none)
            | inr is ↦
                let h = has_exit i is in
                rw is.is (cc (are.each (index_in f.bounds p) h.exit below h.listed, exit_number_is is h))
          ]

    pub ready : AreReady t flows o n
    ready = record { same_cutting = s.same_cutting; count = s.are_flows.of_tiles.count; each = tile_ready }
