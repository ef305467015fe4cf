-- A sum over a grid's cells is a sum over their row-order indexes. A test holds of some number
-- below n, or of all, exactly if `list_any` or `list_all` says so. The list of f 0 to f n is that
-- of f's values at the numbers below n, with f n appended.
use borrow.Author.Count.{below_more}
use Rattle.std.proofs.Common.{◌≡◌, ℕ, zero, suc, ◌+◌, ◌*◌, ◌≤◌, List, length, map, sym, ap, refl, ◌∙◌, arith, add-one, zero-mul, ◌<◌, Bool, true, [], ◌∷◌, ◌++◌, get_or, set, inl, inr}
use Rattle.std.proofs.lemmas.Bool.{cases_eq}
use Rattle.std.proofs.lemmas.List.{length-append, get_or_append_left, get_or_push, get_or-set_same, get_or-set_other, length-set, same_lists}
use Rattle.std.proofs.lemmas.List.Sums.{sum_by-append, AllPass-from_list_all, list_all-from_AllPass}
use Rattle.std.proofs.lemmas.List.FromFn.{sum_by-map-range_with_len_more, length-range_with_len, get_or-range_with_len, map-range_with_len_more, get_or-map-range_with_len, length-map-range_with_len}
use Rattle.std.proofs.lemmas.Nat.{div-mul-add, mod-mul-add}
use Rattle.std.specs.List.{range_with_len, flat_map, sum_by, list_any, list_all}
use Rattle.terrain.specs.Ways.{places}
use Rattle.terrain.specs.declared.place.Place.{Place}
use Rattle.terrain.proofs.Places.{make_place, same_place}
use Rattle.tiles.specs.declared.bounds.Bounds.{Bounds}
use Rattle.tile_jobs.specs.Sums.{sum_below}
use Rattle.tiles.specs.Cutting.{place_in}
use Rattle.tile_jobs.proofs.Sums.{sum_below-same, sum_below-split}
use Rattle.std.proofs.lemmas.List.Folds.{Any-from_list_any, list_any_at}
use Rattle.drainage.specs.Following.{Directed}

abbrev pub whole_bounds : ℕ → ℕ → Bounds
whole_bounds cols rows = record { top = 0; left = 0; rows = rows; cols = cols }

-- The bounds of the grid of a map of directions.
abbrev pub grid_of : Directed → Bounds
grid_of d = whole_bounds d.cols d.rows

module _ (f : Place → ℕ) (cols rows : ℕ) where
  abbrev at : ℕ → ℕ
  at i = f (place_in (whole_bounds cols rows) i)

  row_sum : (r n : ℕ) → n ≤ cols → sum_by f (map (λ (c : ℕ). make_place r c) (range_with_len 0 n)) ≡ sum_below
      (λ c. at (r * cols + c)) n
  row_sum r zero le = refl
  row_sum r (suc n) le =
      let here =
      same_place (make_place r n) (place_in (whole_bounds cols rows) (r * cols + n)) (omega (arith, div-mul-add))
      (omega (arith, mod-mul-add)) in
      ap (λ k. sum_by f (map (λ c. make_place r c) (range_with_len 0 k))) (sym (add-one n)) ∙
      sum_by-map-range_with_len_more f (λ c. make_place r c) 0 n n (omega arith) ∙
      omega (arith, row_sum r n (omega arith), ap f here)

  rows_sum : (a n : ℕ) → sum_by f (flat_map (λ (r : ℕ). map (λ (c : ℕ). make_place r c) (range_with_len 0 cols))
      (range_with_len a n)) ≡ sum_below (λ i. at (a * cols + i)) (n * cols)
  rows_sum a zero = cc (zero-mul cols)
  rows_sum a (suc n) =
      let size : suc n * cols ≡ cols + n * cols = grind arith in
      let on : (i : ℕ) → a * cols + (cols + i) ≡ (a + 1) * cols + i = λ i. omega arith in
      sum_by-append f (map (λ c. make_place a c) (range_with_len 0 cols)) _ ∙ omega (
        arith,
        row_sum a cols (omega arith),
        rows_sum (a + 1) n,
        ap (sum_below (λ i. at (a * cols + i))) size,
        sum_below-split (λ i. at (a * cols + i)) cols (n * cols),
        sum_below-same (λ i. at (a * cols + (cols + i))) (λ i. at ((a + 1) * cols + i)) (n * cols) (λ i _. cc (on i)),
      )

  pub sum_of_cells : sum_by f (places cols rows) ≡ sum_below (λ i. at i) (rows * cols)
  sum_of_cells =
      let on : (i : ℕ) → 0 * cols + i ≡ i = λ i. omega arith in
      rows_sum 0 rows ∙ sum_below-same (λ i. at (0 * cols + i)) (λ i. at i) _ (λ i _. cc (on i))

number_at : (n k d : ℕ) → k < n → get_or (range_with_len 0 n) k d ≡ k
number_at n k d h = omega (arith, get_or-range_with_len)

pub some_in_range : (f : ℕ → Bool) (n : ℕ) → list_any f (range_with_len 0 n) ≡ true → (k : ℕ) × (k < n) × (f k ≡ true)
some_in_range f n h =
    let r = Any-from_list_any f _ h in
    let below : r.0 < n = omega (arith, length-range_with_len) in
    (r.0, below, cc (number_at n r.0 r.1 below))

pub any_in_range : (f : ℕ → Bool) (n k : ℕ) → k < n → f k ≡ true → list_any f (range_with_len 0 n) ≡ true
any_in_range f n k h t = list_any_at f _ k 0 (omega (arith, length-range_with_len)) (cc (number_at n k 0 h))

pub every_in_range : (f : ℕ → Bool) (n : ℕ) → list_all f (range_with_len 0 n) ≡ true → (k : ℕ) → k < n → f k ≡ true
every_in_range f n h k l = ap f (sym (number_at n k 0 l)) ∙
    AllPass-from_list_all f _ h k 0 (omega (arith, length-range_with_len))

pub all_in_range : (f : ℕ → Bool) (n : ℕ) → ((k : ℕ) → k < n → f k ≡ true) → list_all f (range_with_len 0 n) ≡ true
all_in_range f n h = list_all-from_AllPass f _ (λ k d below. (let l : k < n = omega (arith, length-range_with_len) in
    cc (number_at n k d l, h k l)))

-- The values of f at 0 to n are those at the numbers below n, with f n appended.
pub mapped_next : {X : Type 0} (f : ℕ → X) (n : ℕ) → map f (range_with_len 0 (n + 1)) ≡ map f (range_with_len 0 n) ++
    f n ∷ []
mapped_next f n = map-range_with_len_more f 0 n n (omega arith)

pub mapped_pushed : {X : Type 0} (f : ℕ → X) (n : ℕ) {xs ys : List X} {x : X} → xs ≡ map f (range_with_len 0 n) →
    x ≡ f n → ys ≡ xs ++ x ∷ [] → ys ≡ map f (range_with_len 0 (n + 1))
mapped_pushed f n {x = x} made here pushed = cc (pushed, mapped_next f n)

-- Each of the first k entries of xs is the value of f at its index.
pub record AreSet {X : Type 0} (f : ℕ → X) (n k : ℕ) (xs : List X) : Type 0 where
  pub size : length xs ≡ n
  pub each : (i : ℕ) (d : X) → i < k → get_or xs i d ≡ f i

pub set_next : {X : Type 0} (f : ℕ → X) {n k : ℕ} {xs : List X} {x : X} → k < n → AreSet f n k xs → x ≡ f k →
    AreSet f n (k + 1) (set xs k x)
set_next f {k = k} {xs = xs} {x = x} below so_far here = record {
  size = cc (length-set xs k x);
  each = λ i d early. elim (cases_eq i k) [
    | inl same ↦ rw same (get_or-set_same xs k x d (omega arith) ∙ here)
    | inr other ↦ get_or-set_other xs k i x d other ∙ so_far.each i d (omega arith)
  ];
}

pub set_all : {X : Type 0} (f : ℕ → X) {n k : ℕ} {xs : List X} → n ≤ k → AreSet f n k xs →
    xs ≡ map f (range_with_len 0 n)
set_all f {n} {xs = xs} all s = same_lists _ _ (cc (length-map-range_with_len f 0 n))
    (λ i d h. s.each i d (omega arith) ∙ sym (get_or-map-range_with_len f 0 n i i d (omega arith) (omega arith)))

pub mapped_all : {X : Type 0} (f : ℕ → X) {n m : ℕ} {xs : List X} → xs ≡ map f (range_with_len 0 n) → n ≡ m →
    xs ≡ map f (range_with_len 0 m)
mapped_all f made all = cc

-- If P holds of the n entries of xs, and of x at n, it holds of those of xs with x appended.
pub each_pushed : (P : ℕ → ℕ → Type 0) {n : ℕ} (xs : List ℕ) {ys : List ℕ} (x : ℕ) → length xs ≡ n →
    ((k : ℕ) → k < length xs → P k (get_or xs k 0)) → P n x → ys ≡ xs ++ x ∷ [] → (k : ℕ) → k < length ys →
    P k (get_or ys k 0)
each_pushed P {n} xs x size each here pushed k h =
    rw pushed (below_more (λ i. P i (get_or (xs ++ x ∷ []) i 0)) n
    (λ i below. rw (get_or_append_left xs _ 0 i (omega arith)) (each i (omega arith))) (rw get_or_push here) k
    (omega (arith, ap length pushed, length-append xs (x ∷ []))))
