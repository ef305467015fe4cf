-- With all outlets as gauges in row order, catchments are basins.
use Rattle.std.proofs.Common.{◌≡◌, ℕ, zero, suc, ◌+◌, ◌-◌, ◌*◌, ◌<◌, ◌≤◌, inl, inr, Bool, true, false, cond, List, [], ◌∷◌, ◌++◌, length, map, take, get_or, count_by, Option, None, Some, unwrap_or, sym, ap, refl, ◌∙◌, arith, add-one, zero-mul}
use Rattle.std.specs.List.{filter, flat_map, list_any, position_from, range_with_len}
use Rattle.std.proofs.lemmas.Bool.{cases_Bool, cases_eq, cond-true, cond-false, eqb-true, false≢true, false_from_ne_true}
use Rattle.std.proofs.lemmas.List.FromFn.{map-range_with_len_more}
use Rattle.std.proofs.lemmas.List.Sums.{sum_by_more}
use Rattle.std.proofs.lemmas.Nat.{div-mul-add, mod-mul-add}
use Rattle.terrain.specs.Neighbours.{index_of, is_place}
use Rattle.terrain.specs.Ways.{places}
use Rattle.terrain.specs.declared.place.Place.{Place}
use Rattle.terrain.proofs.Listed.{place_is, is_place_from}
use Rattle.terrain.proofs.Places.{make_place, same_place, entry-inside}
use Rattle.tiles.specs.Cutting.{place_in, index_in}
use Rattle.tiles.proofs.TileOrder.{place_in_bounds, index_in-place_in}
use Rattle.drainage.specs.Following.{Directed, code_at, follow, moves, last_of, IsOutlet}
use Rattle.flow.specs.Counts.{basin}
use Rattle.flow.specs.Catchments.{catchment, gauge_number, outlets}
use Rattle.tile_jobs.specs.Sums.{sum_below}
use Rattle.flow.specs.Whole.{is_outlet_code}
use Rattle.flow.proofs.CutPaths.{cases_first, position_none, or_zero}
use Rattle.flow.proofs.Coded.{IsCoded, outlet_stays, follow_stays}
use Rattle.flow.proofs.DrainedCells.{cell}
use Rattle.flow.proofs.Reaching.{IsEnding, cell_back, cell_below, reached_early}
use Rattle.tile_jobs.proofs.Sums.{sum_more}
use Rattle.flow.proofs.Ranges.{whole_bounds, grid_of}

map_ranges : {X : Type 0} (f : ℕ → X) (a n m : ℕ) → map f (range_with_len a n) ++ map f (range_with_len (a + n) m) ≡
    map f (range_with_len a (n + m))
map_ranges f a zero m =
    let z : a + 0 ≡ a = omega arith in
    let y : m ≡ 0 + m = omega arith in
    cc
map_ranges f a (suc n) m =
    let z : a + suc n ≡ a + 1 + n = omega arith in
    let y : suc (n + m) ≡ suc n + m = omega arith in
    cc (map_ranges f (a + 1) n m)

module _ (cols rows : ℕ) where
  abbrev at : ℕ → Place
  at i = place_in (whole_bounds cols rows) i

  row_places : (r n : ℕ) → n ≤ cols → map (λ (c : ℕ). make_place r c) (range_with_len 0 n) ≡ map at
      (range_with_len (r * cols) n)
  row_places r zero le = refl
  row_places r (suc n) le =
      let here : make_place r n ≡ at (r * cols + n) =
      same_place (make_place r n) (at (r * cols + n)) (omega (arith, div-mul-add)) (omega (arith, mod-mul-add)) in
      ap (λ k. map (λ (c : ℕ). make_place r c) (range_with_len 0 k)) (sym (add-one n)) ∙
      map-range_with_len_more (λ (c : ℕ). make_place r c) 0 n n (omega arith) ∙
      ap (λ l. l ++ make_place r n ∷ []) (row_places r n (omega arith)) ∙
      ap (λ q. map at (range_with_len (r * cols) n) ++ q ∷ []) here ∙
      sym (map-range_with_len_more at (r * cols) n (r * cols + n) (omega arith)) ∙
      ap (λ k. map at (range_with_len (r * cols) k)) (add-one n)

  rows_places : (a n : ℕ) → flat_map (λ (r : ℕ). map (λ (c : ℕ). make_place r c) (range_with_len 0 cols))
      (range_with_len a n) ≡ map at (range_with_len (a * cols) (n * cols))
  rows_places a zero = ap (λ k. map at (range_with_len (a * cols) k)) (sym (zero-mul cols))
  rows_places a (suc n) =
      let size : suc n * cols ≡ cols + n * cols = grind arith in
      let on : (a + 1) * cols ≡ a * cols + cols = omega arith in
      ap (λ l. l ++ flat_map (λ (r : ℕ). map (λ (c : ℕ). make_place r c) (range_with_len 0 cols))
      (range_with_len (a + 1) n)) (row_places a cols (omega arith)) ∙
      ap (λ l. map at (range_with_len (a * cols) cols) ++ l) (rows_places (a + 1) n) ∙
      ap (λ k. map at (range_with_len (a * cols) cols) ++ map at (range_with_len k (n * cols))) on ∙
      map_ranges at (a * cols) cols (n * cols) ∙ ap (λ k. map at (range_with_len (a * cols) k)) (sym size)

  pub places_at : places cols rows ≡ map at (range_with_len 0 (rows * cols))
  places_at = rows_places 0 rows ∙ ap (λ k. map at (range_with_len k (rows * cols))) (zero-mul cols)

-- f j passes the tests p and t, and no f k with k < j passes p. So of the f k that pass t, f j is
-- the first that passes p, and its position is how many of them have k < j (`count j`).
module _ {X : Type 0} (f : ℕ → X) (p t : X → Bool) (j : ℕ) (here : p (f j) ≡ true) (kept : t (f j) ≡ true)
    (before : (k : ℕ) → k < j → p (f k) ≡ false) where
  abbrev count : ℕ → ℕ
  count n = sum_below (λ k. cond {A = ℕ} (t (f k)) 1 0) n

  filtered : (n a i : ℕ) → a ≤ j → j < a + n →
      (m : ℕ) × (position_from p i (filter t (map f (range_with_len a n))) ≡ Some (i + m)) × (count a + m ≡ count j)
  filtered zero a i le lt = absurd (omega arith)
  filtered (suc n) a i le lt = elim (cases_eq a j) [
    | inl e ↦
        let rest = filter t (map f (range_with_len (a + 1) n)) in
        let passes = ap (λ k. p (f k)) e ∙ here in
        let z : i ≡ i + 0 = omega arith in (
          0,
          ap (position_from p i) (cond-true _ _ rest (ap (λ k. t (f k)) e ∙ kept)) ∙ cond-true _ _ _ passes ∙ ap Some z,
          omega (arith, ap count e),
        )
    | inr ne ↦
        let rest = filter t (map f (range_with_len (a + 1) n)) in
        let fails = before a (omega arith) in
        elim (cases_Bool (t (f a))) [
          | inl is_t ↦
              let r = filtered n _ _ (omega arith) (omega arith) in
              let z : i + 1 + r.0 ≡ i + suc r.0 = omega arith in (
                suc r.0,
                ap (position_from p i) (cond-true (t (f a)) (f a ∷ rest) rest is_t) ∙
                    cond-false (p (f a)) (Some i) (position_from p (i + 1) rest) fails ∙ r.1 ∙ ap Some z,
                omega (arith, sum_more (λ k. cond (t (f k)) 1 0) a, cond-true {A = ℕ}),
              )
          | inr isnt_t ↦
              let r = filtered n _ i (omega arith) (omega arith) in (
                r.0,
                ap (position_from p i) (cond-false (t (f a)) (f a ∷ rest) rest isnt_t) ∙ r.1,
                omega (arith, sum_more (λ k. cond (t (f k)) 1 0) a, cond-false {A = ℕ}),
              )
        ]
  ]

any_filtered : (p t : Place → Bool) (xs : List Place) → list_any p (filter t xs) ≡ true → (x : Place) × (p x ≡ true) ×
    (t x ≡ true)
any_filtered p t [] some = absurd (false≢true some)
any_filtered p t (x ∷ xs) some = elim (cases_Bool (t x)) [
  | inr fails ↦ any_filtered p t xs (cc (cond-false (t x) (x ∷ filter t xs) (filter t xs) fails))
  | inl holds ↦
      let here = sym (ap (list_any p) (cond-true _ _ _ holds)) ∙ some in
      elim (cases_Bool (p x)) [
        | inl is ↦ (x, is, holds)
        | inr isnt ↦ any_filtered p t xs (cc)
      ]
]

module _ {d : Directed} (s : IsEnding d) (size : length d.codes ≡ d.cols * d.rows) where
  abbrev is_outlet : Place → Bool
  is_outlet q = is_outlet_code (code_at d q)

  outlet_from : (q : Place) (o : Option ℕ) → code_at d q ≡ o → is_outlet_code o ≡ true → IsOutlet d q
  outlet_from q None e is = absurd (false≢true is)
  outlet_from q (Some c) e is = cc (eqb-true c 0 is)

  index_of_cell : (k : ℕ) → index_of d.cols (cell d k) ≡ k
  index_of_cell k =
      let p = cell d k in
      let r : p.row - 0 ≡ p.row = omega arith in
      let c : p.col - 0 ≡ p.col = omega arith in
      omega (arith, ap (λ n. n * d.cols) r)

  code_of_cell : (k : ℕ) → k < d.rows * d.cols → code_at d (cell d k) ≡ get_or d.codes k None
  code_of_cell k below =
      let w = place_in_bounds (grid_of d) k s.some_col below in
      cc (entry-inside d.cols d.rows d.codes (cell d k) (omega arith) (omega arith), index_of_cell k)

  counted : (i : ℕ) → i ≤ d.rows * d.cols → count_by is_outlet_code (take i d.codes) ≡ sum_below
      (λ k. cond {A = ℕ} (is_outlet (cell d k)) 1 0) i
  counted zero le = refl
  counted (suc i) le =
      let turned : d.rows * d.cols ≡ d.cols * d.rows = grind arith in
      let here = ap (λ (o : Option ℕ). cond {A = ℕ} (is_outlet_code o) 1 0) (sym (code_of_cell i (omega arith))) in
      omega (
        arith,
        ap (λ k. count_by is_outlet_code (take k d.codes)) (add-one i),
        sum_by_more (λ o. cond (is_outlet_code o) 1 0) d.codes i None (omega (arith, size, turned)),
        counted i (omega arith),
        here,
      )

  coded_outlet : (q : Place) → IsOutlet d q → IsCoded d q
  coded_outlet q is = record { code = 0; is = is }

  other_index : (q : Place) → IsCoded d q → (k : ℕ) → k < index_in (grid_of d) q → is_place q (cell d k) ≡ false
  other_index q is k less = false_from_ne_true _ (λ same.
      let e = ap (index_in (grid_of d)) (place_is q _ same) ∙ index_in-place_in (grid_of d) k in omega arith)

  pub outlet_number : (q : Place) → IsOutlet d q → gauge_number (outlets d) q ≡ 1 + count_by is_outlet_code
      (take (index_of d.cols q) d.codes)
  outlet_number q is =
      let coded = coded_outlet q is in
      let j = index_in (grid_of d) q in
      let back = cell_back s coded in
      let below = cell_below s q coded in
      let index : index_of d.cols q ≡ j = sym (ap (index_of d.cols) back) ∙ index_of_cell j in
      let r = filtered (cell d) (is_place q) is_outlet j (is_place_from q (cell d j) (sym back)) (ap is_outlet back ∙
      ap is_outlet_code is) (other_index q coded) (d.rows * d.cols) 0 1 (omega arith) (omega (arith, below)) in
      let number : gauge_number (outlets d) q ≡ 1 + r.0 =
      ap (λ l. unwrap_or (position_from (is_place q) 1 (filter is_outlet l)) 0) (places_at d.cols d.rows) ∙
      ap or_zero r.1 in
      omega (
        arith,
        number,
        r.2,
        counted j (omega (arith, below)),
        ap (λ i. count_by is_outlet_code (take i d.codes)) index,
      )

  named_outlet : (q : Place) → IsOutlet d q → list_any (is_place q) (outlets d) ≡ true
  named_outlet q is = elim (cases_Bool (list_any (is_place q) (outlets d))) [
    | inl named ↦ named
    | inr isnt ↦ absurd (omega (arith, outlet_number, ap or_zero (position_none (is_place q) 1 _ isnt)))
  ]

  outlet_named : (q : Place) → list_any (is_place q) (outlets d) ≡ true → IsOutlet d q
  outlet_named q named =
      let r = any_filtered _ is_outlet _ named in
      outlet_from q _ refl (cc (place_is q r.0 r.1))

  pub basins_are : (p : Place) → IsCoded d p → catchment d (outlets d) p ≡ basin d p
  basins_are p is = elim (cases_first (λ q. list_any (is_place q) (outlets d)) (follow d p) (moves d)) [
    | inl w ↦
        let here = outlet_named (follow d p w.at) w.passes in
        let last = follow_stays d p w.at (moves d) (omega arith) (outlet_stays d (follow d p w.at) here) in
        cc (outlet_number (follow d p w.at) here)
    | inr w ↦
        let m = reached_early s is (moves d) refl in
        absurd (false≢true (cc (w.fails m.0 m.1, named_outlet (last_of d p) (s.ends p is.code is.is))))
  ]
