-- A test (`reaches`) whether some path from a cell to an end cell has a crest of at most c. It
-- looks at most k moves far, which is enough if k + 1 moves bring no more cells there (`IsStable`).
use Rattle.std.proofs.Common.{◌≡◌, ℕ, zero, suc, ◌+◌, ◌*◌, ◌/◌, ◌%◌, ◌<◌, Bool, true, not, ◌&&◌, ◌||◌, leb, List, [], ◌∷◌, map, is_some, ℤ, ◌≤ℤ◌, ap, ◌∙◌, arith, inl, inr}
use Rattle.std.specs.Prelude.{◌==◌, int_le}
use Rattle.std.specs.List.{list_any, range_with_len}
use Rattle.std.proofs.lemmas.Bool.{and_parts, and_from, or_left, or_right, or_cases, not-true, not_from_false, both_ways, eq-eqb, eqb-true, false_from_ne_true}
use Rattle.std.proofs.lemmas.Bool.Decides.{nat_tests}
use Rattle.std.proofs.lemmas.List.Folds.{list_any_at, Any-from_list_any, list_any-from_Any}
use Rattle.std.proofs.lemmas.List.FromFn.{length-map-range_with_len, get_or-map-range_with_len}
use Rattle.std.proofs.lemmas.Nat.{div-mul-add, mod-mul-add}
use Rattle.terrain.proofs.Orders.{max_left, max_right, max_least, trans}
use Rattle.terrain.specs.Raster.{Terrain}
use Rattle.terrain.specs.Neighbours.{height_at, index_of, IsDataCell, Touches, IsNeighbour, HasGapAround, IsEnd, height_of, is_place}
use Rattle.drainage.specs.Filled.{IsPath, crest}
use Rattle.terrain.specs.declared.place.Place.{Place}
use Rattle.terrain.proofs.Places.{make_place, same_place, index_below, inside_from_entry}
use Rattle.terrain.proofs.Listed.{place_is, is_place_from, listed_from_any, any_from_listed}
use Rattle.drainage.proofs.Heights.{known, first_is_data}

-- the place of index n in rows of `cols` places
abbrev pub place_at : ℕ → ℕ → Place
place_at cols n = make_place (n / cols) (n % cols)

abbrev pub all_places : ℕ → ℕ → List Place
all_places cols rows = map (place_at cols) (range_with_len 0 (cols * rows))

-- the places of the grid and of one more row and column, which include all that touch a data cell
abbrev pub field : Terrain → List Place
field t = all_places (t.cols + 1) (t.rows + 1)

-- a search of all places succeeds if one of them passes the test
pub any_place : (P : Place → Bool) (cols rows : ℕ) (q : Place) → q.row < rows → q.col < cols →
    P q ≡ true → list_any P (all_places cols rows) ≡ true
any_place P cols rows q a b k =
    let below = index_below cols rows q a b in
    let is : place_at cols (index_of cols q) ≡ q =
    same_place _ q (div-mul-add q.row cols q.col b) (mod-mul-add q.row cols q.col b) in
    list_any_at P (all_places cols rows) (index_of cols q) q
    (omega (arith, length-map-range_with_len (place_at cols) 0 (cols * rows), below))
    (ap P (get_or-map-range_with_len (place_at cols) 0 (cols * rows) (index_of cols q)
    (index_of cols q) q below (omega arith) ∙ is) ∙ k)

pub any_found : (P : Place → Bool) (xs : List Place) → list_any P xs ≡ true →
    (q : Place) × (P q ≡ true)
any_found P xs h = let any = Any-from_list_any P xs h in (any.1, any.4)

pub any_weaker : (P Q : Place → Bool) → ((q : Place) → P q ≡ true → Q q ≡ true) →
    (xs : List Place) → list_any P xs ≡ true → list_any Q xs ≡ true
any_weaker P Q w xs h = let any = Any-from_list_any P xs h in
    list_any-from_Any Q xs (any.0, any.1, any.2, any.3, w any.1 any.4)

pub data_inside : (t : Terrain) (p : Place) → IsDataCell t p → (p.row < t.rows) × (p.col < t.cols)
data_inside t p h =
    inside_from_entry t.cols t.rows t.cells p (height_of t p) (known (height_at t p) h)

-- a search of `field` succeeds if a place that touches a data cell passes the test
pub any_touching : (t : Terrain) (P : Place → Bool) (p q : Place) → IsDataCell t p → Touches p q →
    P q ≡ true → list_any P (field t) ≡ true
any_touching t P p q h touch k =
    let inside = data_inside t p h in
    any_place P (t.cols + 1) (t.rows + 1) q (omega (arith, touch.row_down, inside.0))
    (omega (arith, touch.col_right, inside.1)) k

-- tests for data cells, neighbours and end cells
abbrev pub is_data : Terrain → Place → Bool
is_data t p = is_some (height_at t p)

abbrev pub touches : Place → Place → Bool
touches p q = (leb q.row (p.row + 1) && leb p.row (q.row + 1))
    && (leb q.col (p.col + 1) && leb p.col (q.col + 1))

abbrev pub is_next : Terrain → Place → Place → Bool
is_next t p q = (not (is_place p q) && touches p q) && (is_data t p && is_data t q)

abbrev pub has_gap : Terrain → Place → Bool
has_gap t p =
    (p.row == 0 || p.col == 0) || list_any (λ q. touches p q && not (is_data t q)) (field t)

abbrev pub is_end_cell : Terrain → Place → Bool
is_end_cell t p = is_data t p && (has_gap t p || list_any (is_place p) t.sinks)

touches_true : (p q : Place) → touches p q ≡ true → Touches p q
touches_true p q h = record {
  row_down = grind (arith, nat_tests, h);
  row_up = grind (arith, nat_tests, h);
  col_right = grind (arith, nat_tests, h);
  col_left = grind (arith, nat_tests, h);
}

true_touches : (p q : Place) → Touches p q → touches p q ≡ true
true_touches p q h = grind (arith, nat_tests, h.row_down, h.row_up, h.col_right, h.col_left)

pub next_true : (t : Terrain) (p q : Place) → is_next t p q ≡ true → IsNeighbour t p q
next_true t p q h =
    let ab = and_parts (not (is_place p q) && touches p q) (is_data t p && is_data t q) h in
    let a = and_parts (not (is_place p q)) (touches p q) ab.0 in
    let b = and_parts (is_data t p) (is_data t q) ab.1 in
    record {
      different = λ e. both_ways (is_place p q) (not-true (is_place p q) a.0) (is_place_from p q e);
      touches = touches_true p q a.1;
      from_data = b.0;
      to_data = b.1;
    }

pub true_next : (t : Terrain) (p q : Place) → IsNeighbour t p q → is_next t p q ≡ true
true_next t p q h =
    and_from (not (is_place p q) && touches p q) (is_data t p && is_data t q)
    (and_from (not (is_place p q)) (touches p q) (not_from_false (is_place p q) (false_from_ne_true
    (is_place p q) (λ e. h.different (place_is p q e)))) (true_touches p q h.touches))
    (and_from (is_data t p) (is_data t q) h.from_data h.to_data)

gap_true : (t : Terrain) (p : Place) → has_gap t p ≡ true → HasGapAround t p
gap_true t p h = elim (or_cases (p.row == 0 || p.col == 0)
    (list_any (λ q. touches p q && not (is_data t q)) (field t)) h) [
      | inl side ↦ elim (or_cases (p.row == 0) (p.col == 0) side) [
        | inl a ↦ inl (eqb-true p.row 0 a)
        | inr b ↦ inr (inl (eqb-true p.col 0 b))
      ]
      | inr any ↦
          let found = any_found (λ q. touches p q && not (is_data t q)) (field t) any in
          let parts = and_parts (touches p found.0) (not (is_data t found.0)) found.1 in
          inr (inr (found.0, touches_true p found.0 parts.0, not-true (is_data t found.0) parts.1))
    ]

true_gap : (t : Terrain) (p : Place) → IsDataCell t p → HasGapAround t p → has_gap t p ≡ true
true_gap t p seen (inl a) =
    or_left (p.row == 0 || p.col == 0) _ (or_left (p.row == 0) (p.col == 0) (eq-eqb p.row 0 a))
true_gap t p seen (inr (inl b)) =
    or_left (p.row == 0 || p.col == 0) _ (or_right (p.row == 0) (p.col == 0) (eq-eqb p.col 0 b))
true_gap t p seen (inr (inr g)) = or_right (p.row == 0 || p.col == 0) _
    (any_touching t (λ q. touches p q && not (is_data t q)) p g.0 seen g.1
    (and_from (touches p g.0) (not (is_data t g.0)) (true_touches p g.0 g.1)
    (not_from_false (is_data t g.0) g.2)))

pub end_true : (t : Terrain) (p : Place) → is_end_cell t p ≡ true → IsEnd t p
end_true t p h =
    let a = and_parts (is_data t p) (has_gap t p || list_any (is_place p) t.sinks) h in
    elim (or_cases (has_gap t p) (list_any (is_place p) t.sinks) a.1) [
      | inl gap ↦ inl (a.0, gap_true t p gap)
      | inr named ↦ inr (a.0, listed_from_any p t.sinks named)
    ]

pub true_end : (t : Terrain) (p : Place) → IsEnd t p → is_end_cell t p ≡ true
true_end t p (inl edge) =
    and_from (is_data t p) _ edge.0 (or_left (has_gap t p) _ (true_gap t p edge.0 edge.1))
true_end t p (inr sink) =
    and_from (is_data t p) _ sink.0 (or_right (has_gap t p) _ (any_from_listed p t.sinks sink.1))

abbrev pub is_low : Terrain → ℤ → Place → Bool
is_low t c p = is_data t p && int_le (height_of t p) c

-- the cell reaches an end cell in at most k moves over cells at or below height c
abbrev pub reaches : Terrain → ℤ → ℕ → Place → Bool
reaches t c zero p = is_low t c p && is_end_cell t p
reaches t c (suc k) p =
    is_low t c p && (is_end_cell t p || list_any (λ q. is_next t p q && reaches t c k q) (field t))

le_true : (x y : ℤ) → int_le x y ≡ true → x ≤ℤ y
le_true x y h = grind (arith, h)

true_le : (x y : ℤ) → x ≤ℤ y → int_le x y ≡ true
true_le x y h = grind (arith, h)

abbrev pub HasLowPath : Terrain → ℤ → Place → Type 0
HasLowPath t c p = (rest : List Place) × IsPath t p rest × (crest t p rest ≤ℤ c)

low_end : (t : Terrain) (c : ℤ) (p : Place) → is_low t c p ≡ true → is_end_cell t p ≡ true →
    HasLowPath t c p
low_end t c p low e = (
  [],
  end_true t p e,
  le_true (height_of t p) c (and_parts (is_data t p) (int_le (height_of t p) c) low).1,
)

pub reaches_true : (t : Terrain) (c : ℤ) (k : ℕ) (p : Place) → reaches t c k p ≡ true →
    HasLowPath t c p
reaches_true t c zero p h = let a = and_parts (is_low t c p) (is_end_cell t p) h in
    low_end t c p a.0 a.1
reaches_true t c (suc k) p h =
    let a = and_parts (is_low t c p) (is_end_cell t p
    || list_any (λ q. is_next t p q && reaches t c k q) (field t)) h in
    elim (or_cases (is_end_cell t p) (list_any (λ q. is_next t p q && reaches t c k q) (field t))
    a.1) [
      | inl e ↦ low_end t c p a.0 e
      | inr any ↦
          let found = any_found (λ q. is_next t p q && reaches t c k q) (field t) any in
          let parts = and_parts (is_next t p found.0) (reaches t c k found.0) found.1 in
          let more = reaches_true t c k found.0 parts.1 in (
            found.0 ∷ more.0,
            (next_true t p found.0 parts.0, more.1),
            max_least (height_of t p) (crest t found.0 more.0) c (le_true (height_of t p) c
                (and_parts (is_data t p) (int_le (height_of t p) c) a.0).1) more.2,
          )
    ]

-- a cell that reaches an end cell in at most k moves reaches one in at most k + 1
pub reaches_more : (t : Terrain) (c : ℤ) (k : ℕ) (p : Place) → reaches t c k p ≡ true →
    reaches t c (suc k) p ≡ true
reaches_more t c zero p h =
    let a = and_parts (is_low t c p) (is_end_cell t p) h in
    and_from (is_low t c p) (is_end_cell t p
    || list_any (λ q. is_next t p q && reaches t c zero q) (field t)) a.0
    (or_left (is_end_cell t p) (list_any (λ q. is_next t p q && reaches t c zero q) (field t)) a.1)
reaches_more t c (suc k) p h =
    let a = and_parts (is_low t c p) (is_end_cell t p
    || list_any (λ q. is_next t p q && reaches t c k q) (field t)) h in
    and_from (is_low t c p) (is_end_cell t p
    || list_any (λ q. is_next t p q && reaches t c (suc k) q) (field t)) a.0
    (elim (or_cases (is_end_cell t p) (list_any (λ q. is_next t p q && reaches t c k q) (field t))
    a.1) [
      | inl e ↦ or_left (is_end_cell t p) (list_any (λ q. is_next t p q && reaches t c (suc k) q)
          (field t)) e
      | inr any ↦ or_right (is_end_cell t p) (list_any (λ q. is_next t p q && reaches t c (suc k) q)
          (field t))
          (any_weaker (λ q. is_next t p q && reaches t c k q)
          (λ q. is_next t p q && reaches t c (suc k) q)
          (λ q w. let b = and_parts (is_next t p q) (reaches t c k q) w in
          and_from (is_next t p q) (reaches t c (suc k) q) b.0 (reaches_more t c k q b.1))
          (field t) any)
    ])

reaches_end : (t : Terrain) (c : ℤ) (k : ℕ) (p : Place) → is_low t c p ≡ true →
    is_end_cell t p ≡ true → reaches t c k p ≡ true
reaches_end t c zero p low e = and_from (is_low t c p) (is_end_cell t p) low e
reaches_end t c (suc k) p low e = and_from (is_low t c p) (is_end_cell t p
    || list_any (λ q. is_next t p q && reaches t c k q) (field t)) low
    (or_left (is_end_cell t p) (list_any (λ q. is_next t p q && reaches t c k q) (field t)) e)

-- each cell that `reaches` an end cell in at most k + 1 moves does so in at most k
abbrev pub IsStable : Terrain → ℤ → ℕ → Type 0
IsStable t c k = (p : Place) → reaches t c (suc k) p ≡ true → reaches t c k p ≡ true

pub true_reaches : (t : Terrain) (c : ℤ) (k : ℕ) → IsStable t c k →
    (p : Place) (rest : List Place) → IsPath t p rest → crest t p rest ≤ℤ c → reaches t c k p ≡ true
true_reaches t c k stable p [] path low =
    reaches_end t c k p (and_from (is_data t p) (int_le (height_of t p) c)
    (first_is_data t p [] path) (true_le (height_of t p) c low)) (true_end t p path)
true_reaches t c k stable p (q ∷ rest) path low =
    let next = path.0 in
    let here : height_of t p ≤ℤ c = trans (height_of t p) (crest t p (q ∷ rest)) c
    (max_left (height_of t p) (crest t q rest)) low in
    let there : crest t q rest ≤ℤ c = trans (crest t q rest) (crest t p (q ∷ rest)) c
    (max_right (height_of t p) (crest t q rest)) low in
    let more = true_reaches t c k stable q rest path.1 there in
    stable p
    (and_from (is_low t c p)
    (is_end_cell t p || list_any (λ r. is_next t p r && reaches t c k r) (field t))
    (and_from (is_data t p) (int_le (height_of t p) c) next.from_data
    (true_le (height_of t p) c here))
    (or_right (is_end_cell t p) (list_any (λ r. is_next t p r && reaches t c k r) (field t))
    (any_touching t (λ r. is_next t p r && reaches t c k r) p q next.from_data next.touches
    (and_from (is_next t p q) (reaches t c k q) (true_next t p q next) more))))
