-- `places_in` lists just the places in bounds, and `rim_places` just the places on a tile's rim.
use Rattle.std.proofs.Common.{◌≡◌, ◌⊎◌, ℕ, zero, suc, ◌+◌, ◌<◌, ◌≤◌, Bool, true, List, [], ◌∷◌, length, map, filter, Contains, slice_index_or, sym, ap, subst, refl, ◌∙◌, arith, inl, inr}
use Rattle.std.specs.List.{range_with_len, flat_map}
use Rattle.std.proofs.lemmas.Bool.{cases_Bool, cases_eq, cond-true, cond-false}
use Rattle.std.proofs.lemmas.List.Elements.{Contains-append_left, Contains-append_right, Contains-append_cases}
use Rattle.terrain.specs.declared.place.Place.{Place}
use Rattle.terrain.proofs.Places.{make_place}
use Rattle.tiles.specs.declared.bounds.Bounds.{Bounds}
use Rattle.tiles.specs.Cutting.{Cutting, IsCutting, IsInTile, IsInBounds, tile_count, bounds_of, is_first_or_last, is_on_rim, places_in, rim_places}
use Rattle.tiles.proofs.Cut.{in_bounds, in_tile}

Contains-here : {X : Type 0} (y : X) (xs : List X) (x : X) → y ≡ x → Contains (y ∷ xs) x
Contains-here y xs x e = (0, omega arith, e)

Contains-there : {X : Type 0} (y : X) (xs : List X) (x : X) → Contains xs x → Contains (y ∷ xs) x
Contains-there y xs x h = (suc h.0, omega (arith, h.1), h.2)

at_cons : {X : Type 0} (y : X) (xs : List X) (x : X) (k : ℕ) → k < length (y ∷ xs) →
    slice_index_or (y ∷ xs) k x ≡ x → (y ≡ x) ⊎ Contains xs x
at_cons y xs x zero h e = inl e
at_cons y xs x (suc k) h e = inr (k, omega (arith, h), e)

Contains-cons_cases : {X : Type 0} (y : X) (xs : List X) (x : X) → Contains (y ∷ xs) x →
    (y ≡ x) ⊎ Contains xs x
Contains-cons_cases y xs x h = at_cons y xs x h.0 h.1 h.2

Contains-nil : {X : Type 0} (x : X) → Contains [] x → ⊥
Contains-nil x h = absurd (omega (arith, h.1))

Contains-filter : {X : Type 0} (test : X → Bool) (xs : List X) (x : X) → Contains xs x →
    test x ≡ true → Contains (filter test xs) x
Contains-filter test [] x h e = absurd (Contains-nil x h)
Contains-filter test (y ∷ ys) x h e =
    elim (Contains-cons_cases y ys x h) [
      | inl s ↦ subst (λ zs. Contains zs x) (sym (cond-true (test y) (y ∷ filter test ys)
          (filter test ys) (ap test s ∙ e))) (Contains-here y (filter test ys) x s)
      | inr k ↦
          let r = Contains-filter test ys x k e in
          elim (cases_Bool (test y)) [
            | inl a ↦ subst (λ zs. Contains zs x) (sym (cond-true (test y) (y ∷ filter test ys)
                (filter test ys) a)) (Contains-there y (filter test ys) x r)
            | inr b ↦ subst (λ zs.
                Contains zs x) (sym (cond-false (test y) (y ∷ filter test ys) (filter test ys) b)) r
          ]
    ]

Contains-from_filter : {X : Type 0} (test : X → Bool) (xs : List X) (x : X) →
    Contains (filter test xs) x → Contains xs x × (test x ≡ true)
Contains-from_filter test [] x h = absurd (Contains-nil x h)
Contains-from_filter test (y ∷ ys) x h =
    elim (cases_Bool (test y)) [
      | inl a ↦
          let k = subst (λ zs.
          Contains zs x) (cond-true (test y) (y ∷ filter test ys) (filter test ys) a) h in
          elim (Contains-cons_cases y (filter test ys) x k) [
            | inl s ↦ (Contains-here y ys x s, ap test (sym s) ∙ a)
            | inr i ↦ let r = Contains-from_filter test ys x i in (Contains-there y ys x r.0, r.1)
          ]
      | inr b ↦
          let k = subst (λ zs.
          Contains zs x) (cond-false (test y) (y ∷ filter test ys) (filter test ys) b) h in
          let r = Contains-from_filter test ys x k in (Contains-there y ys x r.0, r.1)
    ]

Contains-range : (a n k : ℕ) → a ≤ k → k < a + n → Contains (range_with_len a n) k
Contains-range a zero k h l = absurd (omega (arith, h, l))
Contains-range a (suc n) k h l =
    elim (cases_eq a k) [
      | inl e ↦ Contains-here a (range_with_len (a + 1) n) k e
      | inr d ↦ Contains-there a (range_with_len (a + 1) n) k
          (Contains-range (a + 1) n k (omega (arith, h, d)) (omega (arith, l)))
    ]

Contains-from_range : (a n k : ℕ) → Contains (range_with_len a n) k → (a ≤ k) × (k < a + n)
Contains-from_range a zero k h = absurd (Contains-nil k h)
Contains-from_range a (suc n) k h =
    elim (Contains-cons_cases a (range_with_len (a + 1) n) k h) [
      | inl e ↦ (omega (arith, e), omega (arith, e))
      | inr i ↦ let r = Contains-from_range (a + 1) n k i in
          (omega (arith, r.0), omega (arith, r.1))
    ]

Contains-map : {X Y : Type 0} (f : X → Y) (xs : List X) (x : X) → Contains xs x →
    Contains (map f xs) (f x)
Contains-map f [] x h = absurd (Contains-nil x h)
Contains-map f (y ∷ ys) x h =
    elim (Contains-cons_cases y ys x h) [
      | inl e ↦ Contains-here (f y) (map f ys) (f x) (ap f e)
      | inr k ↦ Contains-there (f y) (map f ys) (f x) (Contains-map f ys x k)
    ]

Contains-from_map : {X Y : Type 0} (f : X → Y) (xs : List X) (y : Y) → Contains (map f xs) y →
    (x : X) × Contains xs x × (f x ≡ y)
Contains-from_map f [] y h = absurd (Contains-nil y h)
Contains-from_map f (x ∷ xs) y h =
    elim (Contains-cons_cases (f x) (map f xs) y h) [
      | inl e ↦ (x, Contains-here x xs x refl, e)
      | inr k ↦ let r = Contains-from_map f xs y k in (r.0, Contains-there x xs r.0 r.1, r.2)
    ]

Contains-flat_map : {X Y : Type 0} (f : X → List Y) (xs : List X) (x : X) (y : Y) → Contains xs x →
    Contains (f x) y → Contains (flat_map f xs) y
Contains-flat_map f [] x y h i = absurd (Contains-nil x h)
Contains-flat_map f (z ∷ zs) x y h i =
    elim (Contains-cons_cases z zs x h) [
      | inl e ↦
          Contains-append_left (f z) (flat_map f zs) y (subst (λ w. Contains (f w) y) (sym e) i)
      | inr k ↦ Contains-append_right (f z) (flat_map f zs) y (Contains-flat_map f zs x y k i)
    ]

Contains-from_flat_map : {X Y : Type 0} (f : X → List Y) (xs : List X) (y : Y) →
    Contains (flat_map f xs) y → (x : X) × Contains xs x × Contains (f x) y
Contains-from_flat_map f [] y h = absurd (Contains-nil y h)
Contains-from_flat_map f (z ∷ zs) y h =
    elim (Contains-append_cases (f z) (flat_map f zs) y h) [
      | inl a ↦ (z, Contains-here z zs z refl, a)
      | inr b ↦ let r = Contains-from_flat_map f zs y b in (r.0, Contains-there z zs r.0 r.1, r.2)
    ]

abbrev row_places : Bounds → ℕ → List Place
row_places b r = map (make_place r) (range_with_len b.left b.cols)

pub Contains-places_in : (b : Bounds) (p : Place) → IsInBounds b p → Contains (places_in b) p
Contains-places_in b p h =
    Contains-flat_map (row_places b) (range_with_len b.top b.rows) p.row p
    (Contains-range b.top b.rows p.row h.0 h.1)
    (Contains-map (make_place p.row) (range_with_len b.left b.cols) p.col
    (Contains-range b.left b.cols p.col h.2 h.3))

pub Contains-from_places_in : (b : Bounds) (p : Place) → Contains (places_in b) p → IsInBounds b p
Contains-from_places_in b p h =
    let r = Contains-from_flat_map (row_places b) (range_with_len b.top b.rows) p h in
    let c = Contains-from_map (make_place r.0) (range_with_len b.left b.cols) p r.2 in
    let rows = Contains-from_range b.top b.rows r.0 r.1 in
    let cols = Contains-from_range b.left b.cols c.0 c.1 in
    let row : r.0 ≡ p.row = ap (λ (q : Place). q.row) c.2 in
    let col : c.0 ≡ p.col = ap (λ (q : Place). q.col) c.2 in (
      omega (arith, row, rows.0),
      omega (arith, row, rows.1),
      omega (arith, col, cols.0),
      omega (arith, col, cols.1),
    )

pub Contains-rim_places : (t : Cutting) (tile : ℕ) (p : Place) → IsCutting t → IsInTile t tile p →
    is_on_rim t p ≡ true → Contains (rim_places t tile) p
Contains-rim_places t tile p h i e =
    Contains-filter (is_first_or_last (bounds_of t tile)) (places_in (bounds_of t tile)) p
    (Contains-places_in (bounds_of t tile) p (in_bounds t tile p h i))
    (subst (λ n. is_first_or_last (bounds_of t n) p ≡ true) i.1 e)

pub Contains-from_rim_places : (t : Cutting) (tile : ℕ) (p : Place) → IsCutting t → tile
    < tile_count t → Contains (rim_places t tile) p → IsInTile t tile p × (is_on_rim t p ≡ true)
Contains-from_rim_places t tile p h l c =
    let r =
    Contains-from_filter (is_first_or_last (bounds_of t tile)) (places_in (bounds_of t tile)) p c in
    let i = in_tile t tile p h l (Contains-from_places_in (bounds_of t tile) p r.0) in
    (i, subst (λ n. is_first_or_last (bounds_of t n) p ≡ true) (sym i.1) r.1)
