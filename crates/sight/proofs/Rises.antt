-- Terrain, observers and radius have at most one rise. It is 0 exactly where the viewshed of the
-- ground counts an observer. Further observers raise no value. NODATA cells have none.
use Rattle.std.proofs.Common.{arith, refl, sym, ap, subst, inl, inr, ◌∙◌, ◌≡◌, ◌↔◌, ◌+◌, ◌*◌, ◌<◌, ◌≤◌, ℕ, ℤ, zero, suc, Bool, true, false, ◌||◌, ◌&&◌, List, [], ◌∷◌, ◌++◌, get_or, Option, None, Some, MatchOption, is_some, cond}
use Rattle.std.specs.List.{list_any, count_by}
use Rattle.std.proofs.lemmas.List.Sums.{sum_by-cons}
use Rattle.std.proofs.lemmas.Bool.{cases_lt, true_from_ne_false, or_from}
use Rattle.std.proofs.lemmas.List.Folds.{list_any-append}
use Rattle.std.proofs.lemmas.List.FromFn.{fill_by_all}
use Rattle.terrain.specs.Raster.{Terrain}
use Rattle.terrain.specs.Neighbours.{IsInside, height_at, entry_at}
use Rattle.terrain.specs.declared.place.Place.{Place}
use Rattle.terrain.specs.declared.observer.Observer.{Observer}
use Rattle.sightlines.specs.Sight.{is_seen, is_near, place_of}
use Rattle.sight.specs.Viewshed.{viewshed_value, IsViewshed}
use Rattle.sight.specs.Rise.{is_seen_by_any, IsRiseAt, IsRise}
use Rattle.sight.proofs.Uniqueness.{place_of_index, entry_of_index}

same_rise : (t : Terrain) (os : List Observer) (radius : ℕ) (p : Place) (v w : Option ℕ) → IsRiseAt t os radius p v →
    IsRiseAt t os radius p w → v ≡ w
same_rise t os radius p None None a b = refl
same_rise t os radius p None (Some m) a b =
    absurd (let no = a m b.0 in
    let yes = b.1 in
    cc)
same_rise t os radius p (Some n) None a b =
    absurd (let no = b n a.0 in
    let yes = a.1 in
    cc)
same_rise t os radius p (Some n) (Some m) a b = elim (cases_lt n m) [
  | inl less ↦
      absurd (let no = b.2 n less in
      let yes = a.1 in
      cc)
  | inr high ↦ elim (cases_lt m n) [
    | inl less ↦
        absurd (let no = a.2 m less in
        let yes = b.1 in
        cc)
    | inr low ↦
        (let e : n ≡ m = omega arith in
        ap Some e)
  ]
]

rise_at_index : (t : Terrain) (os : List Observer) (radius : ℕ) (values : List (Option ℕ)) (k : ℕ) →
    IsRise t os radius values → k < t.cols * t.rows →
    IsRiseAt t os radius (place_of_index t.cols k) (get_or values k None)
rise_at_index t os radius values k is below =
    let at = entry_of_index t values k below in
    subst (IsRiseAt t os radius (place_of_index t.cols k)) at.1 (is.each (place_of_index t.cols k) at.0)

pub rises_are_one : (t : Terrain) (os : List Observer) (radius : ℕ) (values others : List (Option ℕ)) →
    IsRise t os radius values → IsRise t os radius others → values ≡ others
rises_are_one t os radius values others a b =
    let n = t.cols * t.rows in
    let f : ℕ → Option ℕ = λ k. get_or others k None in
    fill_by_all f values n None a.size (λ k below.
    same_rise t os radius _ _ _ (rise_at_index t os radius values k a below)
    (rise_at_index t os radius others k b below)) ∙
    sym (fill_by_all f others n None b.size (λ k below. refl))

not_of_data : (a c d : Bool) → (a && false && c && d) ≡ false
not_of_data true c d = refl
not_of_data false c d = refl

unseen_nodata : (t : Terrain) (os : List Observer) (p : Place) (h radius : ℕ) → height_at t p ≡ None →
    is_seen_by_any t os p h radius ≡ false
unseen_nodata t [] p h radius none = refl
unseen_nodata t (o ∷ os) p h radius none =
    or_from (is_seen t o p h radius) _
    (rw none (not_of_data (is_some (height_at t (place_of o))) (is_near (place_of o) p radius) _))
    (unseen_nodata t os p h radius none)

counted_cons : (p : Observer → Bool) (o : Observer) (os : List Observer) →
    count_by p (o ∷ os) ≡ cond (p o) 1 0 + count_by p os
counted_cons p o os = sum_by-cons (λ x. cond (p x) 1 0) o os

any_counted : (p : Observer → Bool) (os : List Observer) → list_any p os ≡ true → 0 < count_by p os
any_counted p [] any = absurd cc
any_counted p (o ∷ os) any = step (p o) (list_any p os) (counted_cons p o os) (any_counted p os) any
  where
    step : (b rest : Bool) {n m : ℕ} → n ≡ cond b 1 0 + m → (rest ≡ true → 0 < m) → (b || rest) ≡ true → 0 < n
    step true rest e more any = omega arith
    step false rest e more any = omega arith

none_counted : (p : Observer → Bool) (os : List Observer) → list_any p os ≡ false → count_by p os ≡ 0
none_counted p [] none = refl
none_counted p (o ∷ os) none = step (p o) (list_any p os) (counted_cons p o os) (none_counted p os) none
  where
    step : (b rest : Bool) {n m : ℕ} → n ≡ cond b 1 0 + m → (rest ≡ false → m ≡ 0) → (b || rest) ≡ false → n ≡ 0
    step true rest e more none = absurd cc
    step false rest e more none = omega arith

counted_value : (h : Option ℤ) (n m : ℕ) (entry : Option ℕ) → MatchOption h (entry ≡ None) (λ _. entry ≡ Some m) →
    entry ≡ Some n → n ≡ m
counted_value None n m entry is e = absurd cc
counted_value (Some x) n m entry is e = cc

value_counted : (h : Option ℤ) (m : ℕ) (entry : Option ℕ) → (h ≡ None → ⊥) →
    MatchOption h (entry ≡ None) (λ _. entry ≡ Some m) → entry ≡ Some m
value_counted None m entry some is = absurd (some refl)
value_counted (Some x) m entry some is = is

zero_at : (t : Terrain) (os : List Observer) (radius : ℕ) (p : Place) (v : Option ℕ) → IsRiseAt t os radius p v →
    is_seen_by_any t os p 0 radius ≡ true → v ≡ Some 0
zero_at t os radius p None is seen =
    absurd (let no = is 0 (omega arith) in
    cc)
zero_at t os radius p (Some zero) is seen = refl
zero_at t os radius p (Some (suc n)) is seen =
    absurd (let no = is.2 0 (omega arith) in
    cc)

pub zero_where_seen : (t : Terrain) (os : List Observer) (radius : ℕ) (values seen : List (Option ℕ)) →
    IsRise t os radius values → IsViewshed t os 0 radius seen → (p : Place) → IsInside t p →
    (entry_at t.cols t.rows values p ≡ Some 0) ↔ ((n : ℕ) × (entry_at t.cols t.rows seen p ≡ Some n) × (0 < n))
zero_where_seen t os radius values seen is view p inside =
    let test : Observer → Bool = λ o. is_seen t o p 0 radius in
    let m = viewshed_value t os 0 radius p in
    let count = view.each p inside in
    let value = is.each p inside in (
      λ e.
          let at : IsRiseAt t os radius p (Some 0) = subst (IsRiseAt t os radius p) e value in
          let some : height_at t p ≡ None → ⊥ =
          λ none.
          let no = unseen_nodata t os p 0 radius none in
          let yes = at.1 in
          cc in
          (m, value_counted _ m _ some count, any_counted test os at.1),
      λ counted.
          let yes =
          true_from_ne_false _ (λ none.
          absurd (omega (
            arith,
            none_counted test os none,
            counted_value _ _ m _ count counted.1,
            counted.2,
          ))) in
          zero_at t os radius p _ value yes,
    )

seen_by_more : (a b c : Bool) → c ≡ (a || b) → a ≡ true → c ≡ true
seen_by_more true b c e is = e
seen_by_more false b c e is = absurd cc

at_most : (t : Terrain) (os : List Observer) (radius : ℕ) (p : Place) (n : ℕ) (v : Option ℕ) → n ≤ 1000000 →
    IsRiseAt t os radius p v → is_seen_by_any t os p n radius ≡ true → (m : ℕ) × (v ≡ Some m) × (m ≤ n)
at_most t os radius p n None few is seen =
    absurd (let no = is n few in
    cc)
at_most t os radius p n (Some m) few is seen = elim (cases_lt n m) [
  | inl less ↦
      absurd (let no = is.2 n less in
      cc)
  | inr low ↦ (m, refl, low)
]

pub raise_nothing : (t : Terrain) (os more : List Observer) (radius : ℕ) (values lower : List (Option ℕ)) →
    IsRise t os radius values → IsRise t (os ++ more) radius lower → (p : Place) (n : ℕ) → IsInside t p →
    entry_at t.cols t.rows values p ≡ Some n → ((m : ℕ) × (entry_at t.cols t.rows lower p ≡ Some m) × (m ≤ n))
raise_nothing t os more radius values lower is fewer p n inside e =
    let at = subst (IsRiseAt t os radius p) e (is.each p inside) in
    let test : Observer → Bool = λ o. is_seen t o p n radius in
    at_most t _ radius p n _ at.0 (fewer.each p inside)
    (seen_by_more _ (list_any test more) _ (list_any-append test os more) at.1)

pub of_data : (t : Terrain) (os : List Observer) (radius : ℕ) (values : List (Option ℕ)) → IsRise t os radius values →
    (p : Place) (n : ℕ) → IsInside t p → entry_at t.cols t.rows values p ≡ Some n →
    ((height_at t p ≡ None → ⊥) × (n ≤ 1000000))
of_data t os radius values is p n inside e =
    let at : IsRiseAt t os radius p (Some n) = subst (IsRiseAt t os radius p) e (is.each p inside) in (
      λ none.
          let no = unseen_nodata t os p n radius none in
          cc,
      at.0,
    )
