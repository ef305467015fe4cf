-- With gauges as outlets, the gauge numbers of the ends of flow paths are the catchments.
use Rattle.std.proofs.Common.{◌≡◌, ℕ, zero, suc, ◌+◌, ◌<◌, ◌≤◌, ◌⊎◌, inl, inr, Bool, true, false, cond, List, [], ◌∷◌, ◌++◌, length, map, get_or, Option, None, Some, IsSome, unwrap_or, sym, ap, refl, ◌∙◌, arith, add-one}
use Rattle.std.specs.Prelude.{◌==◌}
use Rattle.std.specs.Option.{option_or}
use Rattle.std.specs.List.{find, list_any, position_from, range_with_len, All}
use Rattle.std.proofs.lemmas.Bool.{cases_Bool, cases_lt, cond-true, cond-false, eq-eqb, ne_eqb, or_parts, false≢true}
use Rattle.std.proofs.lemmas.List.Folds.{find-append, list_any_at}
use Rattle.std.proofs.lemmas.Option.{none-some, MatchOption-at_none, MatchOption-at_some}
use Rattle.terrain.specs.Neighbours.{index_of, is_place}
use Rattle.terrain.specs.declared.place.Place.{Place}
use Rattle.terrain.proofs.Places.{index_injective}
use Rattle.terrain.proofs.Listed.{place_is, is_place_from}
use Rattle.drainage.specs.Following.{Directed, code_at, next, follow, moves, last_of}
use Rattle.drainage.specs.Drained.{AllFlowEnds}
use Rattle.flow.specs.Counts.{IsMapOf}
use Rattle.flow.specs.Catchments.{gauge_number, catchment}
use Rattle.flow.specs.CutCodes.{HaveCodes, AreCutCodes, number_of_index}
use Rattle.flow.specs.Numbering.{EndNumbers, end_number}
use Rattle.flow.specs.Whole.{make_directed}
use Rattle.flow.proofs.Coded.{IsCoded, cases_coded, coded_along, coded_inside, outlet_stays, follow_stays}
use Rattle.flow.proofs.Reaching.{IsEnding, reached_early}
use Rattle.flow.proofs.Ranges.{mapped_next}

-- The number, 0 for none.
abbrev pub or_zero : Option ℕ → ℕ
or_zero o = unwrap_or o 0

-- Of f's values at the numbers below n, `f at` is the first that passes the test.
pub record IsFirst {X : Type 0} (test : X → Bool) (f : ℕ → X) (n : ℕ) : Type 0 where
  pub at : ℕ
  pub below : at < n
  pub passes : test (f at) ≡ true
  pub before : (j : ℕ) → j < at → test (f j) ≡ false
  pub found : find test (map f (range_with_len 0 n)) ≡ Some (f at)

pub record IsAbsent {X : Type 0} (test : X → Bool) (f : ℕ → X) (n : ℕ) : Type 0 where
  pub fails : (j : ℕ) → j < n → test (f j) ≡ false
  pub found : find test (map f (range_with_len 0 n)) ≡ None

module _ {X : Type 0} (test : X → Bool) (f : ℕ → X) where
  pub found_next : (n : ℕ) → find test (map f (range_with_len 0 (suc n))) ≡ option_or
      (find test (map f (range_with_len 0 n))) (cond (test (f n)) (Some (f n)) None)
  found_next n = cc (add-one n, mapped_next f n, find-append test _ (f n ∷ []))

  pub cases_first : (n : ℕ) → IsFirst test f n ⊎ IsAbsent test f n
  cases_first zero = inr (record { fails = λ j below. absurd (omega arith); found = refl })
  cases_first (suc n) = elim (cases_first n) [
    | inl first ↦ inl (record {
      at = first.at;
      below = omega arith;
      passes = first.passes;
      before = first.before;
      found = cc (found_next n);
    })
    | inr absent ↦ elim (cases_Bool (test (f n))) [
      | inl here ↦ inl (record {
        at = n;
        below = omega arith;
        passes = here;
        before = absent.fails;
        found = cc (found_next n, cond-true (test (f n)) (Some (f n)) None here);
      })
      | inr not_here ↦ inr (record {
        fails = λ j below. elim (cases_lt j n) [
          | inl early ↦ absent.fails j early
          | inr late ↦ (let same : n ≡ j = omega arith in
              rw same at not_here)
        ];
        found = cc (found_next n, cond-false (test (f n)) (Some (f n)) None not_here);
      })
    ]
  ]

-- With y appended to xs, the first entry that passes p is the first in xs, or else y if y passes p.
pub position_push : {X : Type 0} (p : X → Bool) (i : ℕ) (xs : List X) (y : X) →
    position_from p i (xs ++ y ∷ []) ≡ option_or (position_from p i xs) (cond (p y) (Some (i + length xs)) None)
position_push p i [] y = let z : i ≡ i + 0 = omega arith in
    ap (λ k. cond (p y) (Some k) None) z
position_push p i (x ∷ xs) y = elim (cases_Bool (p x)) [
  | inl is ↦ cond-true (p x) (Some i) _ is ∙ sym (ap (λ o. option_or o (cond (p y) (Some (i + suc (length xs))) None))
      (cond-true (p x) (Some i) (position_from p (i + 1) xs) is))
  | inr isnt ↦
      let z : i + 1 + length xs ≡ i + suc (length xs) = omega arith in
      cond-false (p x) (Some i) (position_from p (i + 1) (xs ++ y ∷ [])) isnt ∙ position_push p (i + 1) xs y ∙
      ap (λ (k : ℕ). option_or (position_from p (i + 1) xs) (cond (p y) (Some k) None)) z ∙
      sym (ap (λ o. option_or o (cond (p y) (Some (i + suc (length xs))) None))
      (cond-false (p x) (Some i) (position_from p (i + 1) xs) isnt))
]

pub position_none : {X : Type 0} (p : X → Bool) (i : ℕ) (xs : List X) → list_any p xs ≡ false →
    position_from p i xs ≡ None
position_none p i [] none = refl
position_none p i (x ∷ xs) none = elim (cases_Bool (p x)) [
  | inl is ↦ absurd (false≢true (sym (or_parts (p x) (list_any p xs) none).0 ∙ is))
  | inr isnt ↦ cond-false (p x) (Some i) (position_from p (i + 1) xs) isnt ∙
      position_none p (i + 1) xs (or_parts (p x) (list_any p xs) none).1
]

pub position_same : {X : Type 0} (p q : X → Bool) (i : ℕ) (xs : List X) → All (λ x. p x ≡ q x) xs →
    position_from p i xs ≡ position_from q i xs
position_same p q i [] same = refl
position_same p q i (x ∷ xs) same =
    cc (same 0 x (omega arith), position_same p q (i + 1) xs (λ k d below. same (suc k) d (omega arith)))

pub position_below : {X : Type 0} (p : X → Bool) (i : ℕ) (xs : List X) → unwrap_or (position_from p (suc i) xs) 0 ≤ i +
    length xs
position_below p i [] = omega arith
position_below p i (x ∷ xs) = elim (cases_Bool (p x)) [
  | inl is ↦ (let e : unwrap_or (position_from p (suc i) (x ∷ xs)) 0 ≡ suc i = ap or_zero
      (cond-true (p x) (Some (suc i)) _ is) in omega (arith, e))
  | inr isnt ↦
      let e = ap or_zero (cond-false (p x) (Some (suc i)) (position_from p (suc i + 1) xs) isnt) in
      let z : suc i + 1 ≡ suc (suc i) = omega arith in
      omega (arith, e, ap (λ k. unwrap_or (position_from p k xs) 0) z, position_below p (suc i) xs)
]

-- A map of directions, and the cut map: the one with gauges made outlets.
module _ {d : Directed} (s : IsEnding d) {gauges : List Place} {codes : List (Option ℕ)}
    (coded : HaveCodes d.cols d.rows d.codes gauges) (cut : AreCutCodes d.cols d.rows d.codes gauges codes) where
  abbrev pub cut_d : Directed
  cut_d = make_directed d.cols d.rows codes

  abbrev pub is_gauge : Place → Bool
  is_gauge q = list_any (is_place q) gauges

  goes_on : (q : Place) → is_gauge q ≡ false → next cut_d q ≡ next d q
  goes_on q none = cc (cut.elsewhere q none)

  stays : (q : Place) → is_gauge q ≡ true → next cut_d q ≡ q
  stays q is = outlet_stays cut_d q (cut.at_gauges q is)

  follows : (p : Place) (k : ℕ) → ((j : ℕ) → j < k → is_gauge (follow d p j) ≡ false) → follow cut_d p k ≡ follow d p k
  follows p zero clear = refl
  follows p (suc k) clear = ap (next cut_d) (follows p k (λ j below. clear j (omega arith))) ∙
      goes_on _ (clear k (omega arith))

  -- If the path of p meets a gauge, p's path in the cut map ends at the first gauge on the path.
  last_first : (p : Place) → (w : IsFirst is_gauge (follow d p) (moves d)) → last_of cut_d p ≡ follow d p w.at
  last_first p w =
      let here = follows p _ w.before in
      follow_stays cut_d p _ _ (omega arith) (cc (stays _ w.passes)) ∙ here

  last_absent : (p : Place) → IsAbsent is_gauge (follow d p) (moves d) → last_of cut_d p ≡ last_of d p
  last_absent p w = follows p _ w.fails

  no_gauge_last : {p : Place} → IsCoded d p → IsAbsent is_gauge (follow d p) (moves d) → is_gauge (last_of d p) ≡ false
  no_gauge_last is w = let m = reached_early s is (moves d) refl in
      cc (w.fails m.0 m.1)

  -- The catchment of a data cell p is the gauge number of the end of p's path in the cut map.
  pub caught : (p : Place) → IsCoded d p → gauge_number gauges (last_of cut_d p) ≡ catchment d gauges p
  caught p is = elim (cases_first is_gauge (follow d p) (moves d)) [
    | inl w ↦ cc (last_first p w)
    | inr w ↦ cc (last_absent p w, position_none (is_place (last_of d p)) 1 gauges (no_gauge_last is w))
  ]

  coded_of : (p : Place) (o : Option ℕ) → code_at d p ≡ o → IsSome o → IsCoded d p
  coded_of p None e some = absurd (false≢true some)
  coded_of p (Some c) e some = record { code = c; is = e }

  coded_gauge : (p : Place) → is_gauge p ≡ true → IsCoded d p
  coded_gauge p is = coded_of p _ refl (coded p is)

  coded_from_cut : {p : Place} → IsCoded cut_d p → IsCoded d p
  coded_from_cut {p} is = elim (cases_Bool (is_gauge p)) [
    | inl there ↦ coded_gauge p there
    | inr isnt ↦ record { code = is.code; is = cc (cut.elsewhere p isnt) }
  ]

  coded_to_cut : (p : Place) → IsCoded d p → IsCoded cut_d p
  coded_to_cut p is = elim (cases_Bool (is_gauge p)) [
    | inl there ↦ record { code = 0; is = cut.at_gauges p there }
    | inr isnt ↦ record { code = is.code; is = cc (cut.elsewhere p isnt) }
  ]

  pub cut_ends : AllFlowEnds cut_d
  cut_ends p code e =
      let is = coded_from_cut (record { code = code; is = e }) in
      elim (cases_first is_gauge (follow d p) (moves d)) [
        | inl w ↦ cc (last_first p w, cut.at_gauges _ w.passes)
        | inr w ↦ cc (last_absent p w, cut.elsewhere _ (no_gauge_last is w), s.ends p _ is.is)
      ]

  -- Two data cells have the same row-order index exactly if they are the same cell.
  agree : (q g : Place) → IsCoded d q → IsCoded d g → (index_of d.cols g == index_of d.cols q) ≡ is_place q g
  agree q g a b = elim (cases_Bool (is_place q g)) [
    | inl same ↦ eq-eqb _ _ (cc (place_is q g same)) ∙ sym same
    | inr apart ↦ ne_eqb _ _ (λ e. false≢true (sym apart ∙
        is_place_from q g (sym (index_injective _ g q (coded_inside b).1 (coded_inside a).1 e)))) ∙ sym apart
  ]

  numbered_at : {q : Place} → IsCoded d q → unwrap_or (number_of_index d.cols gauges (index_of d.cols q)) 0 ≡
      gauge_number gauges q
  numbered_at {q} is = ap or_zero (position_same (λ g. index_of d.cols g == index_of d.cols q) _ 1 gauges (λ k g below.
      let there = get_or gauges k g in
      agree q there is (coded_gauge there (list_any_at _ gauges k g below (is_place_from there there refl)))))

  -- If `values` has for each data cell the gauge number of the place where the cell's path ends in
  -- the cut map, and `None` at NODATA, the values are the catchments.
  pub catchments_are : (n : EndNumbers) → ((i : ℕ) → n.number i ≡ unwrap_or (number_of_index d.cols gauges i) 0) →
      {values : List (Option ℕ)} → IsMapOf cut_d (end_number cut_d n) values → IsMapOf d (catchment d gauges) values
  catchments_are n numbers made = record {
    size = made.size;
    each = λ p inside. elim (cases_coded d p) [
      | inl none ↦ rw none (elim (cases_coded cut_d p) [
        | inl none_cut ↦ MatchOption-at_none _ _ none_cut (made.each p inside)
        | inr is ↦ (let here = coded_from_cut is in absurd (none-some here.code (cc)))
      ])
      | inr is ↦
          let there = coded_to_cut p is in
          let last = coded_from_cut (coded_along cut_ends there (moves cut_d)) in
          rw is.is (
          MatchOption-at_some _ _ there.code there.is (made.each p inside) ∙ ap Some (numbers _ ∙ numbered_at last ∙
          caught p is)
          )
    ];
  }
