-- A rim's places from its first place on (`rim_from`) are the whole rim. From the second row on, a
-- row's first place follows the last place of the row before. In bounds of two or more columns, the
-- last place of an inner row follows its first place.
use Rattle.std.proofs.Common.{◌≡◌, ◌≢◌, ℕ, zero, suc, ◌+◌, ◌-◌, ◌<◌, ◌≤◌, Bool, true, false, List, ◌∷◌, ◌++◌, map, filter, sym, ap, subst, refl, ◌∙◌, arith}
use Rattle.std.specs.List.{range_with_len, flat_map}
use Rattle.std.proofs.lemmas.Bool.{cond-true, cond-false}
use Rattle.std.proofs.lemmas.Bool.Decides.{nat_tests}
use Rattle.terrain.specs.declared.place.Place.{Place}
use Rattle.terrain.proofs.Places.{make_place}
use Rattle.tiles.specs.declared.bounds.Bounds.{Bounds}
use Rattle.tiles.specs.Cutting.{is_first_or_last, places_in}
use Rattle.tiles.specs.RimLeft.{rim_from}

abbrev pub row_from : ℕ → ℕ → ℕ → List Place
row_from r c n = map (make_place r) (range_with_len c n)

abbrev pub rows_from : Bounds → ℕ → ℕ → List Place
rows_from b r n = flat_map (λ s. row_from s b.left b.cols) (range_with_len r n)

pub filter_first : (test : Place → Bool) (r c n : ℕ) (rest : List Place) →
    test (make_place r c) ≡ true → filter test (row_from r c (suc n) ++ rest) ≡ make_place r c
    ∷ filter test (row_from r (c + 1) n ++ rest)
filter_first test r c n rest e = cond-true _ _ _ e

-- a filter drops a row's first k places if none of them passes
pub filter_skip : (test : Place → Bool) (r c k m n d : ℕ) (rest : List Place) →
    n ≡ k + m → d ≡ c + k → ((j : ℕ) → j < k → test (make_place r (c + j)) ≡ false) →
    filter test (row_from r c n ++ rest) ≡ filter test (row_from r d m ++ rest)
filter_skip test r c zero m n d rest e f none =
    let e' : n ≡ m = omega arith in
    let f' : c ≡ d = omega arith in
    ap (λ i. filter test (row_from r c i ++ rest)) e'
    ∙ ap (λ i. filter test (row_from r i m ++ rest)) f'
filter_skip test r c (suc k) m n d rest e f none =
    let e' : n ≡ suc (k + m) = omega arith in
    let c' : c + 0 ≡ c = omega arith in
    let first : test (make_place r c) ≡ false =
    subst (λ i. test (make_place r i) ≡ false) c' (none 0 (omega arith)) in
    let others : (j : ℕ) → j < k → test (make_place r (c + 1 + j)) ≡ false =
    λ j h.
    let at : c + (j + 1) ≡ c + 1 + j = omega arith in
    subst (λ i. test (make_place r i) ≡ false) at (none (j + 1) (omega arith)) in
    ap (λ i. filter test (row_from r c i ++ rest)) e'
    ∙ cond-false _ _ _ first
    ∙ filter_skip test r (c + 1) k m (k + m) d rest refl (omega arith) others

pub rim_start : (b : Bounds) → 1 ≤ b.rows →
    rim_from b (make_place b.top b.left) ≡ filter (is_first_or_last b) (places_in b)
rim_start b h =
    let test = is_first_or_last b in
    let n : b.left + b.cols - b.left ≡ b.cols = omega arith in
    let m : b.top + b.rows - (b.top + 1) ≡ b.rows - 1 = omega arith in
    let e : suc (b.rows - 1) ≡ b.rows = omega arith in
    ap (λ i. filter test
    (row_from b.top b.left i ++ rows_from b (b.top + 1) (b.top + b.rows - (b.top + 1)))) n
    ∙ ap (λ i. filter test (row_from b.top b.left b.cols ++ rows_from b (b.top + 1) i)) m
    ∙ ap (λ i. filter test (rows_from b b.top i)) e

pub rim_row_end : (b : Bounds) (p : Place) →
    p.col + 1 ≡ b.left + b.cols → p.row + 1 < b.top + b.rows → is_first_or_last b p ≡ true →
    rim_from b p ≡ p ∷ rim_from b (make_place (p.row + 1) b.left)
rim_row_end b p h l e =
    let test = is_first_or_last b in
    let n : b.left + b.cols - p.col ≡ suc 0 = omega arith in
    let m : b.top + b.rows - (p.row + 1) ≡ suc (b.top + b.rows - (p.row + 1 + 1)) = omega arith in
    let w : b.cols ≡ b.left + b.cols - b.left = omega arith in
    ap (λ i. filter test
    (row_from p.row p.col i ++ rows_from b (p.row + 1) (b.top + b.rows - (p.row + 1)))) n
    ∙ filter_first test p.row p.col 0 (rows_from b (p.row + 1) (b.top + b.rows - (p.row + 1))) e
    ∙ ap (λ i. p ∷ filter test (rows_from b (p.row + 1) i)) m
    ∙ ap (λ i. p ∷ filter test (row_from (p.row + 1) b.left i
    ++ rows_from b (p.row + 1 + 1) (b.top + b.rows - (p.row + 1 + 1)))) w

pub inside_fails : (b : Bounds) (r c : ℕ) → r ≢ b.top → r + 1 ≢ b.top + b.rows → c ≢ b.left →
    c + 1 ≢ b.left + b.cols → is_first_or_last b (make_place r c) ≡ false
inside_fails b r c h i j k = grind (arith, nat_tests, h, i, j, k)

-- in bounds of two or more columns, the rim's next place after the first place of an inner row is
-- the last place of that row
pub rim_across : (b : Bounds) (p : Place) (last : ℕ) → p.col ≡ b.left → last + 1 ≡ b.left + b.cols →
    p.col < last → p.row ≢ b.top → p.row + 1 ≢ b.top + b.rows → is_first_or_last b p ≡ true →
    rim_from b p ≡ p ∷ rim_from b (make_place p.row last)
rim_across b p last left l h top bottom e =
    let test = is_first_or_last b in
    let rest = rows_from b (p.row + 1) (b.top + b.rows - (p.row + 1)) in
    let n : b.left + b.cols - p.col ≡ suc (last - p.col) = omega arith in
    let m : b.left + b.cols - last ≡ 1 = omega arith in
    let skipped : last - p.col ≡ last - (p.col + 1) + 1 = omega arith in
    let end : last ≡ p.col + 1 + (last - (p.col + 1)) = omega arith in
    let none : (j : ℕ) → j < last - (p.col + 1) → test (make_place p.row (p.col + 1 + j)) ≡ false =
    λ j s.
    let a : p.col + 1 + j ≢ b.left = omega arith in
    let z : p.col + 1 + j + 1 ≢ b.left + b.cols = omega arith in
    inside_fails b p.row (p.col + 1 + j) top bottom a z in
    ap (λ i. filter test (row_from p.row p.col i ++ rest)) n
    ∙ filter_first test p.row p.col (last - p.col) rest e
    ∙ ap (λ xs. p ∷ xs) (filter_skip test p.row (p.col + 1) (last - (p.col + 1)) 1
    (last - p.col) last rest skipped end none)
    ∙ ap (λ i. p ∷ filter test (row_from p.row last i ++ rest)) (sym m)

pub in_first_col : (b : Bounds) (p : Place) → is_first_or_last b p ≡ true → p.row ≢ b.top →
    p.row + 1 ≢ b.top + b.rows → p.col + 1 ≢ b.left + b.cols → p.col ≡ b.left
in_first_col b p e h i j = grind (arith, nat_tests, e, h, i, j)
