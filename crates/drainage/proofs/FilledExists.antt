-- Each data cell has a filled height: one path gives a crest, and lower crests are tried until no
-- path has one.
use Rattle.std.proofs.Common.{◌≡◌, ℕ, zero, suc, ◌+◌, ◌≤◌, Bool, true, false, not, ◌&&◌, cond, List, [], ◌∷◌, length, count_by, ◌<◌, ℤ, pos, negsuc, ◌≤ℤ◌, ◌+ℤ◌, ◌-ℤ◌, ap, refl, arith, ◌⊎◌, inl, inr}
use Rattle.std.specs.Prelude.{unsigned_abs}
use Rattle.std.specs.List.{list_any}
use Rattle.std.proofs.lemmas.Bool.{cases_Bool, cases_lt, and_from, or_cases, not_from_false, both_ways}
use Rattle.std.proofs.lemmas.List.Sums.{count_by-le-length, sum_by-cons}
use Rattle.std.proofs.lemmas.Int.{ints}
use Rattle.terrain.proofs.Orders.{trans}
use Rattle.terrain.specs.Raster.{Terrain}
use Rattle.terrain.specs.Neighbours.{IsDataCell, Touches, IsNeighbour, height_of}
use Rattle.drainage.specs.Filled.{IsPath, crest, IsFilledHeight}
use Rattle.terrain.specs.declared.place.Place.{Place}
use Rattle.terrain.proofs.Places.{make_place}
use Rattle.drainage.proofs.Heights.{first_is_data, height_below_crest}
use Rattle.drainage.proofs.Reach.{field, any_place, data_inside, is_data, reaches, IsStable, HasLowPath, reaches_true, reaches_more, true_reaches}

one_more : (a b : Bool) → (a ≡ true → b ≡ true) → cond b 1 0 ≡ cond a 1 0 + cond (b && not a) 1 0
one_more true true h = refl
one_more true false h = let e = h refl in absurd (cc)
one_more false true h = refl
one_more false false h = refl

count_by_cons : (P : Place → Bool) (x : Place) (xs : List Place) →
    count_by P (x ∷ xs) ≡ cond (P x) 1 0 + count_by P xs
count_by_cons P x xs = sum_by-cons (λ y. cond (P y) 1 0) x xs

count_split : (P Q : Place → Bool) → ((q : Place) → P q ≡ true → Q q ≡ true) → (xs : List Place) →
    count_by Q xs ≡ count_by P xs + count_by (λ q. Q q && not (P q)) xs
count_split P Q w [] = refl
count_split P Q w (x ∷ xs) = omega (
  arith,
  count_by_cons P x xs,
  count_by_cons Q x xs,
  count_by_cons (λ q. Q q && not (P q)) x xs,
  one_more (P x) (Q x) (w x),
  count_split P Q w xs,
)

some_counted : (P : Place → Bool) (xs : List Place) → list_any P xs ≡ true → 0 < count_by P xs
some_counted P [] any = absurd (cc)
some_counted P (x ∷ xs) any = elim (or_cases (P x) (list_any P xs) any) [
  | inl here ↦ let one = ap (λ (b : Bool). cond {A = ℕ} b 1 0) here in
      omega (arith, count_by_cons P x xs, one)
  | inr later ↦ omega (arith, count_by_cons P x xs, some_counted P xs later)
]

-- if at most k + 1 moves bring no more cells to an end cell than k do, no cell needs k + 1 moves
stable_at : (t : Terrain) (c : ℤ) (k : ℕ) →
    count_by (reaches t c (suc k)) (field t) ≤ count_by (reaches t c k) (field t) → IsStable t c k
stable_at t c k h p more = elim (cases_Bool (reaches t c k p)) [
  | inl reached ↦ reached
  | inr not_reached ↦
      let path = reaches_true t c (suc k) p more in
      let inside = data_inside t p (first_is_data t p path.0 path.1) in
      let split =
      count_split (reaches t c k) (reaches t c (suc k)) (λ q. reaches_more t c k q) (field t) in
      let some = any_place (λ q. reaches t c (suc k) q && not (reaches t c k q)) (t.cols
      + 1) (t.rows + 1) p (omega (arith, inside.0)) (omega (arith, inside.1))
      (and_from (reaches t c (suc k) p) (not (reaches t c k p)) more
      (not_from_false (reaches t c k p) not_reached)) in
      absurd (omega (arith, h, split, some_counted _ (field t) some))
]

find_stable : (t : Terrain) (c : ℤ) (n k : ℕ) →
    length (field t) ≤ count_by (reaches t c k) (field t) + n → (m : ℕ) × IsStable t c m
find_stable t c zero k h = (
  k,
  stable_at t c k (let few = count_by-le-length (reaches t c (suc k)) (field t) in
      omega (arith, h, few)),
)
find_stable t c (suc n) k h = elim (cases_lt (count_by (reaches t c k) (field t))
    (count_by (reaches t c (suc k)) (field t))) [
      | inl more ↦ find_stable t c n (suc k) (omega (arith, h, more))
      | inr same ↦ (k, stable_at t c k same)
    ]

decide_low : (t : Terrain) (c : ℤ) (p : Place) → HasLowPath t c p ⊎ (HasLowPath t c p → ⊥)
decide_low t c p =
    let s = find_stable t c (length (field t)) 0 (omega arith) in
    elim (cases_Bool (reaches t c s.0 p)) [
      | inl reached ↦ inl (reaches_true t c s.0 p reached)
      | inr not_reached ↦ inr (λ path. both_ways (reaches t c s.0 p) not_reached
          (true_reaches t c s.0 s.1 p path.0 path.1 path.2))
    ]

-- each data cell has a path, straight west to an edge cell
path_west : (t : Terrain) (r c : ℕ) → IsDataCell t (make_place r c) → (rest : List Place)
    × IsPath t (make_place r c) rest
path_west t r zero h = ([], inl (h, inr (inl refl)))
path_west t r (suc c) h =
    let touch : Touches (make_place r (suc c)) (make_place r c) = record {
      row_down = omega arith;
      row_up = omega arith;
      col_right = omega arith;
      col_left = omega arith;
    } in
    elim (cases_Bool (is_data t (make_place r c))) [
      | inl seen ↦
          let more = path_west t r c seen in
          let next : IsNeighbour t (make_place r (suc c)) (make_place r c) = record {
            different = λ e. apart c (ap (λ (q : Place). q.col) e);
            touches = touch;
            from_data = h;
            to_data = seen;
          } in
          (make_place r c ∷ more.0, (next, more.1))
      | inr none ↦ ([], inl (h, inr (inr (make_place r c, touch, none))))
    ] where
      apart : (c : ℕ) → suc c ≡ c → ⊥
      apart c e = omega arith

less : (x y : ℤ) → (x ≤ℤ (y -ℤ pos 1)) ⊎ (y ≤ℤ x)
less x y = grind (arith, ints)

not_less : (t : Terrain) (p : Place) (c : ℤ) → (HasLowPath t (c -ℤ pos 1) p → ⊥) →
    (rest : List Place) → IsPath t p rest → c ≤ℤ crest t p rest
not_less t p c none rest path = elim (less (crest t p rest) c) [
  | inl low ↦ absurd (none (rest, path, low))
  | inr e ↦ e
]

-- a cell has a filled height if the crest of some path from it is at most n above its height
least_crest : (t : Terrain) (p : Place) (n : ℕ) (rest : List Place) → IsPath t p rest →
    crest t p rest ≤ℤ (height_of t p +ℤ pos n) → (level : ℤ) × IsFilledHeight t p level
least_crest t p zero rest path low = (
  crest t p rest,
  record {
    reached = (rest, path, refl);
    least = λ w _. trans (crest t p rest) (height_of t p) (crest t p w) (omega (arith, ints, low))
        (height_below_crest t p w);
  },
)
least_crest t p (suc n) rest path low = elim (decide_low t (crest t p rest -ℤ pos 1) p) [
  | inl found ↦ least_crest t p n found.0 found.1 (omega (arith, ints, found.2, low))
  | inr none ↦ (
    crest t p rest,
    record { reached = (rest, path, refl); least = not_less t p (crest t p rest) none },
  )
]

within : (c h : ℤ) → c ≤ℤ (h +ℤ pos (unsigned_abs c + unsigned_abs h))
within (pos a) (pos b) = omega (arith, ints)
within (pos a) (negsuc b) = omega (arith, ints)
within (negsuc a) (pos b) = omega (arith, ints)
within (negsuc a) (negsuc b) = omega (arith, ints)

pub filled_height : (t : Terrain) (p : Place) → IsDataCell t p →
    (level : ℤ) × IsFilledHeight t p level
filled_height t p h =
    let w = path_west t p.row p.col h in
    least_crest t p (unsigned_abs (crest t p w.0) + unsigned_abs (height_of t p)) w.0 w.1
    (within (crest t p w.0) (height_of t p))
