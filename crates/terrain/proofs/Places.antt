-- In row order each place of a grid has an index of its own, below the number of cells. A place in
-- the first or last row or column has a place outside the grid beside it, which counts as a gap.
use Rattle.std.proofs.Common.{◌≡◌, ◌≢◌, ℕ, ◌+◌, ◌*◌, ◌/◌, ◌%◌, ◌<◌, ◌≤◌, List, get_or, Option, None, Some, IsNone, is_some, sym, ap, ◌∙◌, ◌⊎◌, inl, inr, arith}
use Rattle.std.proofs.lemmas.Bool.{cases_eq, cond-true, cond-false, lt-ltb, and_from, le-ltb, and_left, and_right, cases_lt}
use Rattle.std.proofs.lemmas.Nat.{mul-add-lt, div-mul-add, mod-mul-add}
use Rattle.terrain.specs.Raster.{Terrain}
use Rattle.terrain.specs.Neighbours.{entry_or, entry_at, index_of, height_at, Touches, HasGapWhere}
use Rattle.terrain.specs.declared.place.Place.{Place}

abbrev pub make_place : ℕ → ℕ → Place
make_place r c = record { row = r; col = c }

pub same_place : (p q : Place) → p.row ≡ q.row → p.col ≡ q.col → p ≡ q
same_place p q a b = ap (λ r. make_place r p.col) a ∙ ap (λ c. make_place q.row c) b

pub cases_place : (p q : Place) → (p ≡ q) ⊎ (p ≢ q)
cases_place p q =
    elim (cases_eq p.row q.row) [
      | inl a ↦ elim (cases_eq p.col q.col) [
        | inl b ↦ inl (same_place p q a b)
        | inr n ↦
            inr (λ e. n (ap (λ (r : Place). r.col) e))
      ]
      | inr n ↦ inr (λ e. n (ap (λ (r : Place). r.row) e))
    ]

pub entry_or-inside : {X : Type 0} (cols rows : ℕ) (xs : List X) (none : X) (p : Place) →
    p.row < rows → p.col < cols → entry_or cols rows xs none p ≡ get_or xs (index_of cols p) none
entry_or-inside cols rows xs none p a b =
    cond-true _ _ _ (and_from _ _ (lt-ltb _ _ a) (lt-ltb _ _ b))

pub entry-inside : {X : Type 0} (cols rows : ℕ) (xs : List (Option X)) (p : Place) → p.row < rows →
    p.col < cols → entry_at cols rows xs p ≡ get_or xs (index_of cols p) None
entry-inside cols rows xs p a b = entry_or-inside cols rows xs None p a b

pub entry-below : {X : Type 0} (cols rows : ℕ) (xs : List (Option X)) (p : Place) → rows ≤ p.row →
    entry_at cols rows xs p ≡ None
entry-below cols rows xs p a = cond-false _ _ _ (and_left _ _ (le-ltb _ _ a))

pub entry-beside : {X : Type 0} (cols rows : ℕ) (xs : List (Option X)) (p : Place) → cols ≤ p.col →
    entry_at cols rows xs p ≡ None
entry-beside cols rows xs p a = cond-false _ _ _ (and_right _ _ (le-ltb _ _ a))

pub inside_from_entry : {X : Type 0} (cols rows : ℕ) (xs : List (Option X)) (p : Place) (x : X) →
    entry_at cols rows xs p ≡ Some x → (p.row < rows) × (p.col < cols)
inside_from_entry cols rows xs p x e =
    elim (cases_lt p.row rows) [
      | inl a ↦ elim (cases_lt p.col cols) [
        | inl b ↦ (a, b)
        | inr n ↦ let h =
            entry-beside cols rows xs p n in absurd (cc)
      ]
      | inr n ↦ let h = entry-below cols rows xs p n in absurd (cc)
    ]

pub index_injective : (cols : ℕ) (p q : Place) → p.col < cols → q.col < cols →
    index_of cols p ≡ index_of cols q → p ≡ q
index_injective cols p q a b e =
    same_place p q
    (sym (div-mul-add p.row cols p.col a) ∙ ap (λ n. n / cols) e ∙ div-mul-add q.row cols q.col b)
    (sym (mod-mul-add p.row cols p.col a) ∙ ap (λ n. n % cols) e ∙ mod-mul-add q.row cols q.col b)

pub index_below : (cols rows : ℕ) (p : Place) → p.row < rows → p.col < cols →
    index_of cols p < cols * rows
index_below cols rows p a b = mul-add-lt p.row cols p.col rows a b

abbrev pub IsBefore : Place → ℕ → ℕ → Type 0
IsBefore q row col = (q.row < row) ⊎ ((q.row ≡ row) × (q.col < col))

abbrev pub HasNoGapBefore : (Place → Type 0) → Place → ℕ → ℕ → Type 0
HasNoGapBefore is_gap p row col = (q : Place) → Touches p q → IsBefore q row col → is_gap q → ⊥

-- If all places south or east of the grid are gaps, a place in its last row or column has a gap
-- around it. In row 0 and column 0 `HasGapWhere` always holds.
pub gap_at_end : {G : Place → Type 0} (cols rows : ℕ) (p : Place) →
    ((q : Place) → (rows ≤ q.row) ⊎ (cols ≤ q.col) → G q) →
    (p.row ≡ 0) ⊎ (p.row + 1 ≡ rows) ⊎ (p.col ≡ 0) ⊎ (p.col + 1 ≡ cols) → HasGapWhere G p
gap_at_end cols rows p outside (inl e) = inl e
gap_at_end cols rows p outside (inr (inl e)) = inr (inr (
  make_place (p.row + 1) p.col,
  record {
    row_down = omega arith;
    row_up = omega arith;
    col_right = omega arith;
    col_left = omega arith;
  },
  outside _ (inl (omega (arith, e))),
))
gap_at_end cols rows p outside (inr (inr (inl e))) = inr (inl e)
gap_at_end cols rows p outside (inr (inr (inr e))) = inr (inr (
  make_place p.row (p.col + 1),
  record {
    row_down = omega arith;
    row_up = omega arith;
    col_right = omega arith;
    col_left = omega arith;
  },
  outside _ (inr (omega (arith, e))),
))

pub gap_where : {P Q : Place → Type 0} (p : Place) → ((q : Place) → Touches p q → P q → Q q) →
    HasGapWhere P p → HasGapWhere Q p
gap_where p f (inl e) = inl e
gap_where p f (inr (inl e)) = inr (inl e)
gap_where p f (inr (inr (q, touches, gap))) = inr (inr (q, touches, f q touches gap))

pub none_outside : (t : Terrain) (q : Place) → (t.rows ≤ q.row) ⊎ (t.cols ≤ q.col) →
    IsNone (height_at t q)
none_outside t q (inl below) = ap is_some (entry-below t.cols t.rows t.cells q below)
none_outside t q (inr beside) = ap is_some (entry-beside t.cols t.rows t.cells q beside)
