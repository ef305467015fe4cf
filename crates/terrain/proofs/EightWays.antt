-- The eight directions (ways) from place p lead exactly to the other places whose row and column
-- differ from p's by at most 1. If p is past the row and the column that indices count from,
-- `around_index` has the indices of the eight places.
use Rattle.std.proofs.Common.{◌≡◌, ◌≢◌, ℕ, zero, suc, ◌+◌, ◌-◌, ◌*◌, ◌%◌, ◌<◌, ◌≤◌, ◌||◌, ◌⊎◌, inl, inr, eqb, false, get_or, Contains, Option, None, Some, slice_index_or, sym, ap, refl, ◌∙◌, arith, lit<}
use Rattle.std.proofs.Math.Nat.{suc-mul}
use Rattle.std.proofs.lemmas.Bool.{cases_order, eq-eqb, ne_eqb, or_left, or_right, or_from}
use Rattle.std.proofs.lemmas.List.{get_or_default}
use Rattle.std.proofs.lemmas.Option.{none-some, same_Some, some_pair_parts}
use Rattle.std.specs.Option.{option_zip, option_and_then}
use Rattle.terrain.specs.Neighbours.{Touches}
use Rattle.terrain.specs.Ways.{before, place_if_both, ways_from, place_on, place_toward, code_of, around_index}
use Rattle.terrain.specs.declared.place.Place.{Place}
use Rattle.terrain.proofs.Places.{make_place, same_place}

before_is : (n m : ℕ) → m + 1 ≡ n → before n ≡ Some m
before_is zero m e = absurd (omega (arith, e))
before_is (suc n) m e = ap (λ k. Some k) (omega (arith, e))

place_is : (row col : Option ℕ) (q : Place) → row ≡ Some q.row → col ≡ Some q.col →
    place_if_both row col ≡ Some q
place_is row col q e f = ap (λ r. place_if_both r col) e ∙ ap (λ c. place_if_both (Some q.row) c) f

before_parts : (n m : ℕ) → before n ≡ Some m → m + 1 ≡ n
before_parts zero m e = absurd (none-some m e)
before_parts (suc n) m e = let s = same_Some n m e in omega (arith, s)

place_parts : (row col : Option ℕ) (q : Place) → place_if_both row col ≡ Some q → (row ≡ Some q.row)
    × (col ≡ Some q.col)
place_parts None col q e = absurd (none-some q e)
place_parts (Some r) None q e = absurd (none-some q e)
place_parts (Some r) (Some c) q e =
    let s = same_Some (make_place r c) q e in
    (ap (λ (z : Place). Some z.row) s, ap (λ (z : Place). Some z.col) s)

abbrev Near : ℕ → ℕ → Type 0
Near n m = (m ≤ n + 1) × (n ≤ m + 1)

stays : (n m : ℕ) → Some n ≡ Some m → Near n m
stays n m e = let s = same_Some n m e in (omega arith, omega arith)

moves_forward : (n m : ℕ) → Some (n + 1) ≡ Some m → Near n m × (n ≢ m)
moves_forward n m e = let s = same_Some (n + 1) m e in
    ((omega arith, omega arith), λ same. omega arith)

moves_back : (n m : ℕ) → before n ≡ Some m → Near n m × (n ≢ m)
moves_back n m e = let s = before_parts n m e in ((omega arith, omega arith), λ same. omega arith)

beside : (p q : Place) → Near p.row q.row → Near p.col q.col → Touches p q
beside p q r c = record { row_down = r.0; row_up = r.1; col_right = c.0; col_left = c.1 }

row_moved : (p q : Place) → Near p.row q.row × (p.row ≢ q.row) → Near p.col q.col →
    Touches p q × (p ≢ q)
row_moved p q r c = (beside p q r.0 c, λ s. r.1 (ap (λ (z : Place). z.row) s))

col_moved : (p q : Place) → Near p.row q.row → Near p.col q.col × (p.col ≢ q.col) →
    Touches p q × (p ≢ q)
col_moved p q r c = (beside p q r c.0, λ s. c.1 (ap (λ (z : Place). z.col) s))

way_touches : (p q : Place) (k : ℕ) → k < 8 → slice_index_or (ways_from p) k (Some q) ≡ Some q →
    Touches p q × (p ≢ q)
way_touches p q zero h e = let a = place_parts _ _ q e in
    col_moved p q (stays _ _ a.0) (moves_forward _ _ a.1)
way_touches p q (suc zero) h e = let a = place_parts _ _ q e in
    row_moved p q (moves_forward _ _ a.0) (moves_forward _ _ a.1).0
way_touches p q (suc (suc zero)) h e = let a = place_parts _ _ q e in
    row_moved p q (moves_forward _ _ a.0) (stays _ _ a.1)
way_touches p q (suc (suc (suc zero))) h e = let a = place_parts _ _ q e in
    row_moved p q (moves_forward _ _ a.0) (moves_back _ _ a.1).0
way_touches p q (suc (suc (suc (suc zero)))) h e = let a = place_parts _ _ q e in
    col_moved p q (stays _ _ a.0) (moves_back _ _ a.1)
way_touches p q (suc (suc (suc (suc (suc zero))))) h e = let a = place_parts _ _ q e in
    row_moved p q (moves_back _ _ a.0) (moves_back _ _ a.1).0
way_touches p q (suc (suc (suc (suc (suc (suc zero)))))) h e = let a = place_parts _ _ q e in
    row_moved p q (moves_back _ _ a.0) (stays _ _ a.1)
way_touches p q (suc (suc (suc (suc (suc (suc (suc zero))))))) h e = let a = place_parts _ _ q e in
    row_moved p q (moves_back _ _ a.0) (moves_forward _ _ a.1).0
way_touches p q (suc (suc (suc (suc (suc (suc (suc (suc k)))))))) h e = absurd (omega (arith, h))

pub Touches-from_ways : (p q : Place) → Contains (ways_from p) (Some q) → Touches p q × (p ≢ q)
Touches-from_ways p q h = way_touches p q h.0 h.1 h.2

here : (n m : ℕ) → n ≡ m → Some n ≡ Some m
here n m e = ap (λ k. Some k) e

Contains-ways_from : (p q : Place) → Touches p q → p ≢ q → Contains (ways_from p) (Some q)
Contains-ways_from p q h d =
    let a = h.row_down in
    let b = h.row_up in
    let c = h.col_right in
    let e = h.col_left in
    elim (cases_order p.row q.row) [
      | inl r ↦ elim (cases_order p.col q.col) [
        | inl s ↦ absurd (d (same_place p q r s))
        | inr o ↦ elim o [
          | inl s ↦ (0, lit< tt, place_is _ _ q (here _ _ r) (here _ _ (omega arith)))
          | inr s ↦ (4, lit< tt, place_is _ _ q (here _ _ r) (before_is _ _ (omega arith)))
        ]
      ]
      | inr i ↦ elim i [
        | inl r ↦ elim (cases_order p.col q.col) [
          | inl s ↦ (2, lit< tt, place_is _ _ q (here _ _ (omega arith)) (here _ _ s))
          | inr o ↦ elim o [
            | inl s ↦ (1, lit< tt, place_is _ _ q (here _ _ (omega arith)) (here _ _ (omega arith)))
            | inr s ↦
                (3, lit< tt, place_is _ _ q (here _ _ (omega arith)) (before_is _ _ (omega arith)))
          ]
        ]
        | inr r ↦ elim (cases_order p.col q.col) [
          | inl s ↦ (6, lit< tt, place_is _ _ q (before_is _ _ (omega arith)) (here _ _ s))
          | inr o ↦ elim o [
            | inl s ↦
                (7, lit< tt, place_is _ _ q (before_is _ _ (omega arith)) (here _ _ (omega arith)))
            | inr s ↦ (
              5,
              lit< tt,
              place_is _ _ q (before_is _ _ (omega arith)) (before_is _ _ (omega arith)),
            )
          ]
        ]
      ]
    ]

pub eight : (P : ℕ → Type 0) → P 0 → P 1 → P 2 → P 3 → P 4 → P 5 → P 6 → P 7 → (n : ℕ) → n < 8 → P n
eight P a b c d e f g h zero l = a
eight P a b c d e f g h (suc zero) l = b
eight P a b c d e f g h (suc (suc zero)) l = c
eight P a b c d e f g h (suc (suc (suc zero))) l = d
eight P a b c d e f g h (suc (suc (suc (suc zero)))) l = e
eight P a b c d e f g h (suc (suc (suc (suc (suc zero))))) l = f
eight P a b c d e f g h (suc (suc (suc (suc (suc (suc zero)))))) l = g
eight P a b c d e f g h (suc (suc (suc (suc (suc (suc (suc zero))))))) l = h
eight P a b c d e f g h (suc (suc (suc (suc (suc (suc (suc (suc n)))))))) l = absurd (omega arith)

pub toward-code : (p : Place) (way : ℕ) → way < 8 →
    place_toward (code_of (Some way)) p ≡ place_on way p
toward-code p = eight (λ way. place_toward (code_of (Some way)) p
    ≡ place_on way p) refl refl refl refl refl refl refl refl

pub way_to : (p q : Place) → Touches p q → p ≢ q → (way : ℕ) × (way < 8) × (place_on way p ≡ Some q)
way_to p q t differ = let at = Contains-ways_from p q t differ in
    (at.0, at.1, get_or_default (ways_from p) at.0 None (Some q) at.1 ∙ at.2)

-- even directions keep the row or the column; odd directions change both
pub along : (p q : Place) (way : ℕ) → way < 8 → place_on way p ≡ Some q →
    (eqb p.row q.row || eqb p.col q.col) ≡ eqb (way % 2) 0
along p q =
    eight (λ way. place_on way p ≡ Some q → (eqb p.row q.row || eqb p.col q.col) ≡ eqb (way % 2) 0)
    (λ e. let at = place_parts (Some p.row) (Some (p.col + 1)) q e in
    or_left _ _ (eq-eqb _ _ (same_Some _ _ at.0)))
    (λ e. let at = place_parts (Some (p.row + 1)) (Some (p.col + 1)) q e in
    let row = same_Some _ _ at.0 in let col = same_Some _ _ at.1 in
    across (λ same. omega (arith, row, same)) (λ same. omega (arith, col, same)))
    (λ e. let at = place_parts (Some (p.row + 1)) (Some p.col) q e in
    or_right _ _ (eq-eqb _ _ (same_Some _ _ at.1)))
    (λ e. let at = place_parts (Some (p.row + 1)) (before p.col) q e in
    let row = same_Some _ _ at.0 in let col = before_parts _ _ at.1 in
    across (λ same. omega (arith, row, same)) (λ same. omega (arith, col, same)))
    (λ e. let at = place_parts (Some p.row) (before p.col) q e in
    or_left _ _ (eq-eqb _ _ (same_Some _ _ at.0)))
    (λ e. let at = place_parts (before p.row) (before p.col) q e in
    let row = before_parts _ _ at.0 in let col = before_parts _ _ at.1 in
    across (λ same. omega (arith, row, same)) (λ same. omega (arith, col, same)))
    (λ e. let at = place_parts (before p.row) (Some p.col) q e in
    or_right _ _ (eq-eqb _ _ (same_Some _ _ at.1)))
    (λ e. let at = place_parts (before p.row) (Some (p.col + 1)) q e in
    let row = before_parts _ _ at.0 in let col = same_Some _ _ at.1 in
    across (λ same. omega (arith, row, same)) (λ same. omega (arith, col, same)))
  where
    across : (p.row ≢ q.row) → (p.col ≢ q.col) → (eqb p.row q.row || eqb p.col q.col) ≡ false
    across row col = or_from _ _ (ne_eqb _ _ row) (ne_eqb _ _ col)

-- if f and g find x and y at an optional place o, then o is some q, and f and g find x and y at q
pub zip_some : {X Y : Type 0} (f : Place → Option X) (g : Place → Option Y) (o : Option Place)
    (x : X) (y : Y) → option_zip (option_and_then f o) (option_and_then g o) ≡ Some (x, y) →
    (q : Place) × (o ≡ Some q) × (f q ≡ Some x) × (g q ≡ Some y)
zip_some {X = X} {Y = Y} f g None x y e = absurd (none-some (x, y) e)
zip_some {X = X} {Y = Y} f g (Some q) x y e = at (f q) (g q) refl refl e
  where
    at : (a : Option X) (b : Option Y) → f q ≡ a → g q ≡ b → option_zip (f q) (g q) ≡ Some (x, y) →
        (r : Place) × (Some q ≡ Some r) × (f r ≡ Some x) × (g r ≡ Some y)
    at None b u v e =
        absurd (none-some (x, y) (sym (ap (λ (z : Option X). option_zip z (g q)) u) ∙ e))
    at (Some a) None u v e = absurd (none-some (x, y) (sym (ap (λ (z : Option X).
        option_zip z (g q)) u ∙ ap (λ (z : Option Y). option_zip (Some a) z) v) ∙ e))
    at (Some a) (Some b) u v e =
        let both = some_pair_parts a x b y (sym (ap (λ (z : Option X). option_zip z (g q)) u
        ∙ ap (λ (z : Option Y). option_zip (Some a) z) v) ∙ e) in
        (q, refl, u ∙ ap Some both.0, v ∙ ap Some both.1)

-- Indices count from row `top` and column `left`, in rows of `cols` cells. `q` is the place in
-- direction `way` from `p`, touches `p` and differs from it. Its index is entry `way` of
-- `around_index cols at`, where `at` stands for the index of `p`.
pub record IsOnWay (top left cols at : ℕ) (p : Place) (way : ℕ) (q : Place) : Type 0 where
  pub on : place_on way p ≡ Some q
  pub index : (q.row - top) * cols + (q.col - left) ≡ get_or (around_index cols at) way 0
  pub touches : Touches p q
  pub different : p ≢ q

apart : (p : Place) (row col : ℕ) → (p.row ≢ row) ⊎ (p.col ≢ col) → p ≢ make_place row col
apart p row col (inl ne) e = ne (ap (λ (q : Place). q.row) e)
apart p row col (inr ne) e = ne (ap (λ (q : Place). q.col) e)

module _ (top left cols at : ℕ) (p : Place) (r c : ℕ) (row : p.row ≡ r + 1) (col : p.col ≡ c + 1)
    (below : top ≤ r) (right : left ≤ c)
    (at_is : at ≡ (p.row - top) * cols + (p.col - left)) where
  found : (way y x : ℕ) → place_on way p ≡ Some (make_place y x) → (r ≤ y) × (y ≤ r + 2) →
      (c ≤ x) × (x ≤ c + 2) → (p.row ≢ y) ⊎ (p.col ≢ x)
      → (y - top) * cols + (x - left) ≡ get_or (around_index cols at) way 0 →
      (q : Place) × IsOnWay top left cols at p way q
  found way y x on y_in x_in ne index = (
    make_place y x,
    record {
      on = on;
      index = index;
      touches = record {
        row_down = omega (arith, row, y_in.1);
        row_up = omega (arith, row, y_in.0);
        col_right = omega (arith, col, x_in.1);
        col_left = omega (arith, col, x_in.0);
      };
      different = apart p y x ne;
    },
  )

  north : before p.row ≡ Some r
  north = before_is p.row r (sym row)

  west : before p.col ≡ Some c
  west = before_is p.col c (sym col)

  own_row_is : (p.row - top) * cols ≡ (r - top) * cols + cols
  own_row_is = ap (λ (n : ℕ). n * cols) (omega (arith, row, below)) ∙ suc-mul (r - top) cols

  below_is : (p.row + 1 - top) * cols ≡ (r - top) * cols + cols + cols
  below_is = ap (λ (n : ℕ). n * cols) (omega (arith, row, below)) ∙ suc-mul (suc (r - top)) cols
      ∙ ap (λ (n : ℕ). n + cols) (suc-mul (r - top) cols)

  pub on_ways : (way : ℕ) → way < 8 → (q : Place) × IsOnWay top left cols at p way q
  on_ways = eight (λ way. (q : Place) × IsOnWay top left cols at p way q)
      (found 0 p.row (p.col + 1) refl (omega (arith, row), omega (arith, row))
      (omega (arith, col), omega (arith, col)) (inr (λ e. omega arith))
      (omega (arith, at_is, own_row_is, col, right)))
      (found 1 (p.row + 1) (p.col + 1) refl (omega (arith, row), omega (arith, row))
      (omega (arith, col), omega (arith, col)) (inl (λ e. omega arith))
      (omega (arith, at_is, own_row_is, below_is, col, right)))
      (found 2 (p.row + 1) p.col refl (omega (arith, row), omega (arith, row))
      (omega (arith, col), omega (arith, col)) (inl (λ e. omega arith))
      (omega (arith, at_is, own_row_is, below_is, col, right)))
      (found 3 (p.row + 1) c (ap (λ (o : Option ℕ). place_if_both (Some (p.row + 1)) o) west)
      (omega (arith, row), omega (arith, row)) (omega arith, omega arith) (inl (λ e. omega arith))
      (omega (arith, at_is, own_row_is, below_is, col, right)))
      (found 4 p.row c (ap (λ (o : Option ℕ). place_if_both (Some p.row) o) west)
      (omega (arith, row), omega (arith, row)) (omega arith, omega arith)
      (inr (λ e. omega (arith, col))) (omega (arith, at_is, own_row_is, col, right)))
      (found 5 r c (ap (λ (o : Option ℕ). place_if_both o (before p.col)) north
      ∙ ap (λ (o : Option ℕ). place_if_both (Some r) o) west)
      (omega arith, omega arith) (omega arith, omega arith) (inl (λ e. omega (arith, row)))
      (omega (arith, at_is, own_row_is, col, right)))
      (found 6 r p.col (ap (λ (o : Option ℕ). place_if_both o (Some p.col)) north)
      (omega arith, omega arith) (omega (arith, col), omega (arith, col))
      (inl (λ e. omega (arith, row))) (omega (arith, at_is, own_row_is, col, right)))
      (found 7 r (p.col + 1) (ap (λ (o : Option ℕ). place_if_both o (Some (p.col + 1))) north)
      (omega arith, omega arith) (omega (arith, col), omega (arith, col))
      (inl (λ e. omega (arith, row))) (omega (arith, at_is, own_row_is, col, right)))
