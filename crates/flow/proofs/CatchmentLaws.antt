-- If no other gauge drains through gauge g, accumulation + 1 cells have g's number. An appended
-- gauge changes only the catchments of cells that drain through it.
use Rattle.std.proofs.Common.{◌≡◌, ◌≢◌, ℕ, zero, suc, ◌+◌, ◌-◌, ◌<◌, ◌≤◌, inl, inr, Bool, true, false, cond, not, ◌&&◌, ◌||◌, List, [], ◌∷◌, ◌++◌, map, get_or, count_by, Option, Some, is_some, sym, ap, refl, ◌∙◌, arith}
use Rattle.std.specs.Prelude.{◌==◌}
use Rattle.std.specs.Option.{option_map_or}
use Rattle.std.specs.List.{find, list_any, position_from, range_with_len}
use Rattle.std.proofs.lemmas.Bool.{cases_Bool, cases_lt, cond-true, cond-false, eq-eqb, ne_eqb, and_left, and_right, false≢true, not_from_true, not_from_false}
use Rattle.std.proofs.lemmas.List.Folds.{list_any-append}
use Rattle.terrain.specs.Neighbours.{is_place}
use Rattle.terrain.specs.Ways.{places}
use Rattle.terrain.specs.declared.place.Place.{Place}
use Rattle.terrain.proofs.Places.{cases_place}
use Rattle.terrain.proofs.Listed.{place_is, is_place_from}
use Rattle.drainage.specs.Following.{Directed, code_at, follow, moves}
use Rattle.flow.specs.Counts.{accumulation, drains_through}
use Rattle.flow.specs.Catchments.{gauge_number, catchment}
use Rattle.flow.proofs.CutPaths.{cases_first, found_next, position_push, or_zero}
use Rattle.flow.proofs.Coded.{IsCoded, cases_coded, coded_along, follow_more}
use Rattle.flow.proofs.DrainedCells.{one_more, counted_on, drains_itself, other_test, counted}
use Rattle.flow.proofs.Reaching.{IsEnding, reached_early, drains_at, drains_from}
use Rattle.flow.proofs.Sending.{and_on}
use Rattle.flow.proofs.Ranges.{any_in_range, sum_of_cells}

-- `at` is the index of the first entry of xs that passes p. `position_from`, which counts from i,
-- gives i + at.
pub record IsPosition {X : Type 0} (p : X → Bool) (i : ℕ) (xs : List X) : Type 0 where
  pub at : ℕ
  pub found : position_from p i xs ≡ Some (i + at)
  pub passes : (d : X) → p (get_or xs at d) ≡ true

pub position_of : {X : Type 0} (p : X → Bool) (i : ℕ) (xs : List X) → list_any p xs ≡ true → IsPosition p i xs
position_of p i [] some = absurd (false≢true some)
position_of p i (x ∷ xs) some = elim (cases_Bool (p x)) [
  | inl is ↦
      let z : i ≡ i + 0 = omega arith in
      record { at = 0; found = cond-true (p x) (Some i) (position_from p (i + 1) xs) is ∙ ap Some z; passes = λ d. is }
  | inr isnt ↦
      let rest = position_of p (i + 1) xs (ap (λ b. b || list_any p xs) (sym isnt) ∙ some) in
      let z : i + 1 + rest.at ≡ i + suc rest.at = omega arith in
      record {
        at = suc rest.at;
        found = cond-false (p x) (Some i) (position_from p (i + 1) xs) isnt ∙ rest.found ∙ ap Some z;
        passes = rest.passes;
      }
]

or_none : (b : Bool) → (b || false) ≡ b
or_none true = refl
or_none false = refl

pub same_gauge : (gauges : List Place) (p q : Place) → list_any (is_place p) gauges ≡ true →
    list_any (is_place q) gauges ≡ true → gauge_number gauges p ≡ gauge_number gauges q → p ≡ q
same_gauge gauges p q a b same =
    let u = position_of (is_place p) 1 gauges a in
    let v = position_of (is_place q) 1 gauges b in
    let at : u.at ≡ v.at = omega (arith, ap or_zero u.found, ap or_zero v.found) in
    place_is p _ (u.passes p) ∙ ap (λ k. get_or gauges k p) at ∙ sym (place_is q _ (v.passes p))

pub some_number : (gauges : List Place) (p : Place) → list_any (is_place p) gauges ≡ true → 0 < gauge_number gauges p
some_number gauges p a = let u = position_of _ 1 gauges a in
    omega (arith, ap or_zero u.found)

-- A gauge g on a data cell, through which no other gauge drains.
module _ {d : Directed} (s : IsEnding d) (gauges : List Place) {g : Place} (is : IsCoded d g)
    (named : list_any (is_place g) gauges ≡ true) (alone : (h : Place) → list_any (is_place h) gauges ≡ true → h ≢ g →
    drains_through d g h ≡ false) where
  abbrev is_gauge : Place → Bool
  is_gauge q = list_any (is_place q) gauges

  first_is : (q : Place) → IsCoded d q → drains_through d g q ≡ true → catchment d gauges q ≡ gauge_number gauges g
  first_is q coded through =
      let r = drains_from s q g through in
      let m = reached_early s coded _ r.1 in
      let there = ap is_gauge m.3 ∙ named in
      elim (cases_first is_gauge (follow d q) (moves d)) [
        | inr w ↦ absurd (false≢true (sym (w.fails m.0 m.1) ∙ there))
        | inl w ↦ elim (cases_place (follow d q w.at) g) [
          | inl same ↦ cc
          | inr apart ↦ elim (cases_lt m.0 w.at) [
            | inl early ↦ absurd (false≢true (sym (w.before m.0 early) ∙ there))
            | inr late ↦
                let on : w.at + (m.0 - w.at) ≡ m.0 = omega arith in
                let reaches = follow_more d q _ _ ∙ ap (follow d q) on ∙ m.3 in
                absurd (false≢true (sym (alone _ w.passes apart) ∙ drains_at s (coded_along s.ends coded _) _ reaches))
          ]
        ]
      ]

  drains_if : (q : Place) → IsCoded d q → catchment d gauges q ≡ gauge_number gauges g → drains_through d g q ≡ true
  drains_if q coded same = elim (cases_first is_gauge (follow d q) (moves d)) [
    | inr w ↦ absurd (omega (
      arith,
      some_number,
      ap (λ (o : Option Place). option_map_or (gauge_number gauges) o 0) w.found,
    ))
    | inl w ↦ drains_at s coded _ (same_gauge gauges _ g w.passes named (cc))
  ]

  caught_same : (q : Place) → IsCoded d q → (catchment d gauges q == gauge_number gauges g) ≡ drains_through d g q
  caught_same q coded = elim (cases_Bool (drains_through d g q)) [
    | inl through ↦ eq-eqb _ _ (first_is q coded through) ∙ sym through
    | inr past ↦ ne_eqb _ _ (λ e. false≢true (sym past ∙ drains_if q coded e)) ∙ sym past
  ]

  pub caught_count : count_by (λ q. is_some (code_at d q) && catchment d gauges q == gauge_number gauges g)
      (places d.cols d.rows) ≡ accumulation d g + 1
  caught_count =
      sum_of_cells (λ q. counted d _ q) _ _ ∙ one_more s (λ q. counted d (catchment d gauges q == gauge_number gauges g)
      q) (λ q. cond (is_some (code_at d q) && not (is_place g q) && drains_through d g q) 1 0) is
      (λ q ne. elim (cases_coded d q) [
        | inl none ↦
            let off = ap is_some none in
            cond-false {A = ℕ} _ 1 0 (and_left _ _ off) ∙ sym (cond-false _ 1 0 (and_left _ _ (and_left _ _ off)))
        | inr coded ↦ cc (caught_same q coded, and_on _ (not_from_false _ (other_test s g q ne)))
      ]) (counted_on is (caught_same g is ∙ drains_itself s g))
      (cond-false _ 1 0 (and_left _ _ (and_right _ _ (not_from_true _ (is_place_from g g refl)))))

-- Gauge g is appended to the gauges. It is not on the flow path of p.
module _ (d : Directed) (gauges : List Place) (g p : Place) (past : drains_through d g p ≡ false) where
  abbrev is_old : Place → Bool
  is_old q = list_any (is_place q) gauges

  abbrev is_new : Place → Bool
  is_new q = list_any (is_place q) (gauges ++ g ∷ [])

  apart : (k : ℕ) → k < moves d → is_place (follow d p k) g ≡ false
  apart k below = elim (cases_Bool (is_place (follow d p k) g)) [
    | inr f ↦ f
    | inl t ↦ absurd (false≢true (sym past ∙ any_in_range (λ k. is_place g (follow d p k)) _ k below
        (is_place_from g _ (sym (place_is _ g t)))))
  ]

  same_test : (k : ℕ) → k < moves d → is_new (follow d p k) ≡ is_old (follow d p k)
  same_test k below =
      cc (list_any-append (is_place (follow d p k)) gauges (g ∷ []), apart k below, or_none (is_old (follow d p k)))

  found_same : (n : ℕ) → n ≤ moves d → find is_new (map (follow d p) (range_with_len 0 n)) ≡ find is_old
      (map (follow d p) (range_with_len 0 n))
  found_same zero le = refl
  found_same (suc n) le = cc (
    found_next is_new (follow d p) n,
    found_same n (omega arith),
    same_test n (omega arith),
    found_next is_old (follow d p) n,
  )

  kept_number : (q : Place) → is_old q ≡ true → gauge_number (gauges ++ g ∷ []) q ≡ gauge_number gauges q
  kept_number q old =
      let u = position_of _ 1 gauges old in
      cc (position_push (is_place q) 1 gauges g)

  pub catchment_kept : catchment d (gauges ++ g ∷ []) p ≡ catchment d gauges p
  catchment_kept =
      ap (λ o. option_map_or (gauge_number (gauges ++ g ∷ [])) o 0) (found_same (moves d) (omega arith)) ∙
      elim (cases_first is_old (follow d p) (moves d)) [
        | inl w ↦ cc (kept_number (follow d p w.at) w.passes)
        | inr w ↦ cc
      ]
