-- Three counts of cells, each a sum of 1 or 0 over all cells. The first counts cells whose flow
-- paths contain p. The second counts cells whose paths reach p without leaving their tile, the
-- third those whose paths enter p from another tile.
use Rattle.std.proofs.Common.{◌≡◌, ◌≢◌, ℕ, ◌+◌, ◌-◌, ◌*◌, ◌<◌, ◌≤◌, Bool, true, false, not, ◌&&◌, cond, is_some, sym, ap, refl, ◌∙◌, arith, List, length, inl, inr}
use Rattle.std.proofs.Math.Nat.{mul-le-mul}
use Rattle.std.proofs.lemmas.Bool.{and_from, and_left, and_right, eq-eqb, cond-true, cond-false, false_from_ne_true, not_from_true, not_from_false, cases_Bool}
use Rattle.terrain.specs.Ways.{places}
use Rattle.std.specs.List.{sum_by, list_any, range_with_len}
use Rattle.terrain.specs.declared.place.Place.{Place}
use Rattle.tiles.specs.Cutting.{Cutting, tile_of_place, place_in, index_in}
use Rattle.tiles.proofs.TileOrder.{index_in-place_in}
use Rattle.drainage.specs.Following.{Directed, code_at, follow, moves}
use Rattle.terrain.proofs.Listed.{is_place_from, place_is}
use Rattle.terrain.specs.Neighbours.{is_place}
use Rattle.flow.specs.Counts.{drains_through, accumulation}
use Rattle.tile_jobs.specs.Sums.{sum_below}
use Rattle.flow.specs.TileFlow.{stays, reaches_inside, through_of, inflow_of}
use Rattle.tile_jobs.proofs.Sums.{bit_le, sum_below-except, sum_below-few, sum_below-same, sum_below-add, sum_below-none, exchange, cond-sum, cond_same}
use Rattle.flow.proofs.Ranges.{any_in_range, all_in_range, sum_of_cells, grid_of}
use Rattle.flow.proofs.Coded.{IsCoded, coded_from_some}
use Rattle.flow.proofs.Sending.{and_on}
use Rattle.flow.proofs.Reaching.{IsEnding, cell_below, cell_back, enters}
use Rattle.flow.proofs.Totals.{upstream}
use Rattle.flow.specs.Streams.{leads_to, upstream_sum}

-- The cell at row-order index i of the grid.
abbrev pub cell : Directed → ℕ → Place
cell d i = place_in (grid_of d) i

-- 1 if q is a data cell and the test holds, else 0.
abbrev pub counted : Directed → Bool → Place → ℕ
counted d test q = cond {A = ℕ} (is_some (code_at d q) && test) 1 0

-- 1 if q is a data cell whose flow path contains p, else 0.
abbrev pub drained : Directed → Place → Place → ℕ
drained d p q = counted d (drains_through d p q) q

abbrev pub all_drained : Directed → Place → ℕ
all_drained d p = sum_below (λ j. drained d p (cell d j)) (d.rows * d.cols)

-- 1 if q is a data cell whose flow path reaches p without leaving q's tile, else 0.
abbrev pub drained_inside : Directed → Cutting → Place → Place → ℕ
drained_inside d t p q = counted d (reaches_inside d t p q) q

abbrev pub all_drained_inside : Directed → Cutting → Place → ℕ
all_drained_inside d t p = sum_below (λ j. drained_inside d t p (cell d j)) (d.rows * d.cols)

-- 1 if q is a data cell whose flow path enters p from another tile, else 0.
abbrev pub entered : Directed → Cutting → Place → Place → ℕ
entered d t p q = counted d (list_any (enters d t p q) (range_with_len 0 (moves d - 1))) q

pub inflow_sum : (d : Directed) (t : Cutting) (p : Place) → inflow_of d t p ≡ sum_below (λ c. entered d t p (cell d c))
    (d.rows * d.cols)
inflow_sum d t p = sum_of_cells _ _ _

pub counted_on : {d : Directed} {q : Place} {b : Bool} → IsCoded d q → b ≡ true → counted d b q ≡ 1
counted_on is y = cond-true _ 1 0 (and_from _ _ (cc) y)

pub counted_off : (d : Directed) (q : Place) {b : Bool} → b ≡ false → counted d b q ≡ 0
counted_off d q f = cond-false _ 1 0 (and_right _ _ f)

pub counted_none : (d : Directed) (q : Place) (b : Bool) → is_some (code_at d q) ≡ false → counted d b q ≡ 0
counted_none d q b f = cond-false _ 1 0 (and_left _ _ f)

-- Sums over all cells, if each data cell counts at node i as it does by itself and at the node's donors.
pub counts_upstream : (d : Directed) (links : List ℕ) (i : ℕ) (test : ℕ → Place → Bool) (own : Place → ℕ) →
    ((q : Place) → IsCoded d q → counted d (test i q) q ≡ own q + sum_below
    (λ j. upstream links j i (counted d (test j q) q)) (length links)) → ((q : Place) → is_some (code_at d q) ≡ false →
    own q ≡ 0) → sum_below (λ c. counted d (test i (cell d c)) (cell d c)) (d.rows * d.cols) ≡ sum_below
    (λ c. own (cell d c)) (d.rows * d.cols) + upstream_sum links
    (λ j. sum_below (λ c. counted d (test j (cell d c)) (cell d c)) (d.rows * d.cols)) i
counts_upstream d links i test own each none = omega (
  arith,
  sum_below-same (λ c. counted d _ _) (λ c. own _ + sum_below (over c) (length links)) (d.rows * d.cols)
      (λ c _. of_cell _),
  sum_below-add (λ c. own (cell d c)) (λ c. sum_below (over c) (length links)) (d.rows * d.cols),
  exchange over (d.rows * d.cols) (length links),
  sum_below-same (λ j. sum_below (λ c. over c j) (d.rows * d.cols))
      (λ j. upstream links j i (sum_below (λ c. counted d _ _) (d.rows * d.cols))) (length links)
      (λ j _. sym (cond-sum _ (λ c. counted d _ _) _)),
)
  where
    over : ℕ → ℕ → ℕ
    over c j = upstream links j i (counted d (test j (cell d c)) (cell d c))

    of_cell : (q : Place) → counted d (test i q) q ≡ own q + sum_below
        (λ j. upstream links j i (counted d (test j q) q)) (length links)
    of_cell q = elim (cases_Bool (is_some (code_at d q))) [
      | inl y ↦ each q (coded_from_some d q y)
      | inr n ↦ omega (
        arith,
        counted_none,
        sum_below-none (λ j. upstream links j i (counted d _ q)) (length links) (λ j _. ap (upstream links j i)
            (counted_none d q (test j q) n) ∙ cond_same (leads_to links j i)),
      )
    ]

module _ {d : Directed} (s : IsEnding d) where
  pub some_moves : 0 < moves d
  some_moves = let some = mul-le-mul s.some_col s.some_row in omega arith

  other_cell : {p : Place} → IsCoded d p → (j : ℕ) → j ≢ index_in (grid_of d) p → cell d j ≢ p
  other_cell is j ne e = ne (cc (index_in-place_in (grid_of d) j))

  -- If f is 1 and g is 0 at p, and they agree elsewhere, f's sum over all cells is g's plus 1.
  pub one_more : (f g : Place → ℕ) {p : Place} → IsCoded d p → ((q : Place) → q ≢ p → f q ≡ g q) → f p ≡ 1 → g p ≡ 0 →
      sum_below (λ j. f (cell d j)) (d.rows * d.cols) ≡ sum_by g (places d.cols d.rows) + 1
  one_more f g {p} is same one none =
      let change = sum_below-except (λ j. f _) (λ j. g _) _ _ (cell_below s p is)
      (λ j h ne. same _ (other_cell is j ne)) in
      let here = ap f (cell_back s is) ∙ one in
      let there = ap g (cell_back s is) ∙ none in
      omega (arith, sum_of_cells)

  pub other_test : (p q : Place) → q ≢ p → is_place p q ≡ false
  other_test p q ne = false_from_ne_true _ (λ y. ne (sym (place_is p q y)))

  pub drains_itself : (p : Place) → drains_through d p p ≡ true
  drains_itself p = any_in_range (λ k. is_place p (follow d p k)) _ 0 some_moves (is_place_from p p refl)

  pub reaches_itself : (t : Cutting) (p : Place) → reaches_inside d t p p ≡ true
  reaches_itself t p =
      any_in_range (λ k. is_place p (follow d p k) && stays d t p k) _ 0 some_moves
      (and_from _ _ (is_place_from p p refl)
      (all_in_range _ (0 + 1)
      (λ l h. (let z : 0 ≡ l = omega arith in eq-eqb _ _ (ap (λ n. tile_of_place t (follow d p n)) (sym z))))))

  pub accumulation_is : (p : Place) → IsCoded d p → all_drained d p ≡ accumulation d p + 1
  accumulation_is p is =
      one_more (drained d p) (λ q. cond (is_some (code_at d q) && not (is_place p q) && drains_through d p q) 1 0) is
      (λ q ne. cc (and_on (is_some (code_at d q)) (not_from_false _ (other_test p q ne))))
      (counted_on is (drains_itself p))
      (cond-false _ 1 0 (and_left _ _ (and_right _ _ (not_from_true _ (is_place_from p p refl)))))

  pub through_is : (t : Cutting) {p : Place} → IsCoded d p → all_drained_inside d t p ≡ through_of d t p + 1
  through_is t {p} is =
      one_more (drained_inside d t p) (λ q. cond (is_some (code_at d q) && not (is_place p q) && reaches_inside d t p q)
      1 0) is (λ q ne. cc (and_on (is_some (code_at d q)) (not_from_false _ (other_test p q ne))))
      (counted_on is (reaches_itself t p))
      (cond-false _ 1 0 (and_left _ _ (and_right _ _ (not_from_true _ (is_place_from p p refl)))))

  -- A count of cells is at most 2^24.
  pub counted_few : (test : Place → Bool) → sum_below (λ c. cond {A = ℕ} (test (cell d c)) 1 0) (d.rows * d.cols) ≤
      16777216
  counted_few test =
      let most = mul-le-mul s.few_rows s.few_cols in
      omega (arith, sum_below-few (λ c. cond (test (cell d c)) 1 0) (d.rows * d.cols) (λ c h. bit_le _))

  pub drained_few : (p : Place) → all_drained d p ≤ 16777216
  drained_few p = counted_few (λ q. is_some (code_at d q) && drains_through d p q)

  pub drained_inside_few : (t : Cutting) (p : Place) → all_drained_inside d t p ≤ 16777216
  drained_inside_few t p = counted_few (λ q. is_some (code_at d q) && reaches_inside d t p q)

  pub entered_few : (t : Cutting) (p : Place) → sum_below (λ c. entered d t p (cell d c)) (d.rows * d.cols) ≤ 16777216
  entered_few t p = counted_few (λ q. is_some (code_at d q) && list_any (enters d t p q)
      (range_with_len 0 (moves d - 1)))
