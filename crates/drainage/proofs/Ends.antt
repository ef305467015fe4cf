-- In a map for which `IsDraining` holds, every flow path ends at an outlet. There each code but 0
-- leads to a lower cell, or to one as high with fewer steps.
use Rattle.std.proofs.Common.{◌≡◌, ◌≢◌, ℕ, zero, suc, ◌+◌, ◌<◌, ◌≤◌, ◌<ℤ◌, true, ◌⊎◌, inl, inr, Option, None, Some, is_some, unwrap_or, pos, sym, ap, subst, refl, ◌∙◌, arith}
use Rattle.std.proofs.lemmas.Int.{ints}
use Rattle.std.proofs.lemmas.Bool.{cases_eq}
use Rattle.std.specs.Option.{option_and_then}
use Rattle.terrain.proofs.Places.{inside_from_entry, index_below, index_injective}
use Rattle.terrain.specs.Neighbours.{entry_at, index_of, IsDataCell, height_of}
use Rattle.terrain.specs.Ways.{place_toward}
use Rattle.terrain.specs.declared.place.Place.{Place}
use Rattle.drainage.specs.Following.{code_at, follow, next, moves, IsOutlet, FlowEnds}
use Rattle.drainage.specs.Drained.{Drained, directed_of, Falls, IsDraining}
use Rattle.drainage.proofs.Pigeonhole.{pigeonhole}

abbrev steps_in : Drained → Place → Option ℕ
steps_in d p = entry_at d.terrain.cols d.terrain.rows d.steps p

-- `q` is lower than `p`, or as high with fewer steps; missing heights and unknown steps count as 0
IsBelow : Drained → Place → Place → Type 0
IsBelow d p q = (height_of d.terrain q <ℤ height_of d.terrain p)
    ⊎ ((height_of d.terrain q ≡ height_of d.terrain p)
    × (unwrap_or (steps_in d q) 0 < unwrap_or (steps_in d p) 0))

below_trans : (d : Drained) (p q r : Place) → IsBelow d p q → IsBelow d q r → IsBelow d p r
unfolding IsBelow
below_trans d p q r (inl a) (inl b) = inl (omega (arith, ints))
below_trans d p q r (inl a) (inr b) = inl (subst (λ h. h <ℤ height_of d.terrain p) (sym b.0) a)
below_trans d p q r (inr a) (inl b) = inl (subst (λ h. height_of d.terrain r <ℤ h) a.0 b)
below_trans d p q r (inr a) (inr b) = inr (b.0 ∙ a.0, omega (arith, a.1, b.1))

below_differs : (d : Drained) (p q : Place) → IsBelow d p q → p ≢ q
unfolding IsBelow
below_differs d p q (inl a) e = let same : height_of d.terrain p ≡ height_of d.terrain q =
    ap (λ (r : Place). height_of d.terrain r) e in omega (arith, ints)
below_differs d p q (inr a) e = let same : unwrap_or (steps_in d p) 0 ≡ unwrap_or (steps_in d q) 0 =
    ap (λ (r : Place). unwrap_or (steps_in d r) 0) e in omega (arith, a.1)

some_of : {X : Type 0} (o : Option X) (d : X) → is_some o ≡ true → o ≡ Some (unwrap_or o d)
some_of (Some x) d h = refl
some_of None d h = cc

is_below : (d : Drained) (p q : Place) → is_some (steps_in d p) ≡ true →
    is_some (steps_in d q) ≡ true → Falls d p q → IsBelow d p q
unfolding IsBelow
is_below d p q a b (inl f) = inl f
is_below d p q a b (inr f) = inr (
  ap (λ h. unwrap_or h (pos 0)) f.0,
  f.1 (unwrap_or (steps_in d p) 0) (unwrap_or (steps_in d q) 0) (some_of _ 0 a) (some_of _ 0 b),
)

IsCoded : Drained → Place → Type 0
IsCoded d p = (code : ℕ) × (code_at (directed_of d) p ≡ Some code)

outlet_stays : (d : Drained) (p : Place) → IsOutlet (directed_of d) p → next (directed_of d) p ≡ p
outlet_stays d p e =
    ap (λ (o : Option ℕ). unwrap_or (option_and_then (λ code. place_toward code p) o) p) e

next_is : (d : Drained) (p q : Place) (code : ℕ) → code_at (directed_of d) p ≡ Some code →
    place_toward code p ≡ Some q → next (directed_of d) p ≡ q
next_is d p q code e toward = ap (λ (o : Option ℕ). unwrap_or (option_and_then
    (λ code. place_toward code p) o) p) e ∙ ap (λ (o : Option Place). unwrap_or o p) toward

coded_from : (d : Drained) → IsDraining d → (p : Place) → IsDataCell d.terrain p → IsCoded d p
unfolding IsCoded
coded_from d lawful p is =
    (unwrap_or (code_at (directed_of d) p) 0, some_of _ 0 (lawful.same_data p ∙ is))

stepped_from : (d : Drained) → IsDraining d → (p : Place) → IsDataCell d.terrain p →
    is_some (steps_in d p) ≡ true
stepped_from d lawful p is = lawful.same_steps p ∙ is

data_from : (d : Drained) → IsDraining d → (p : Place) → IsCoded d p → IsDataCell d.terrain p
unfolding IsCoded
data_from d lawful p c = sym (lawful.same_data p) ∙ ap is_some c.1

-- a code other than 0 leads to a data cell that is lower, or as high with fewer steps (`IsBelow`)
next_is_below : (d : Drained) → IsDraining d → (p : Place) → IsCoded d p → (IsOutlet (directed_of d)
    p → ⊥) → IsDataCell d.terrain (next (directed_of d) p) × IsBelow d p (next (directed_of d) p)
unfolding IsCoded
next_is_below d lawful p c none_here =
    let onward = lawful.leads p c.0 c.1 (λ zero_code. none_here (c.1 ∙ ap Some zero_code)) in
    let to = sym (next_is d p onward.0 c.0 c.1 onward.1) in (
      subst (λ (q : Place). IsDataCell d.terrain q) to onward.2,
      subst (λ (q : Place). IsBelow d p q) to
          (is_below d p onward.0 (stepped_from d lawful p (data_from d lawful p c))
          (stepped_from d lawful onward.0 onward.2) onward.3),
    )

cases_outlet : (d : Drained) (p : Place) → IsCoded d p → IsOutlet (directed_of d) p
    ⊎ (IsOutlet (directed_of d) p → ⊥)
unfolding IsCoded
cases_outlet d p c = elim (cases_eq c.0 0) [
  | inl e ↦ inl (c.1 ∙ ap Some e)
  | inr ne ↦ inr (λ is. ne (ap (λ (o : Option ℕ). unwrap_or o 0) (sym c.1 ∙ is)))
]

coded_along : (d : Drained) → IsDraining d → (p : Place) → IsCoded d p → (k : ℕ) →
    IsCoded d (follow (directed_of d) p k)
coded_along d lawful p c zero = c
coded_along d lawful p c (suc k) =
    let here = coded_along d lawful p c k in
    elim (cases_outlet d (follow (directed_of d) p k) here) [
      | inl out ↦ subst (λ (q : Place).
          IsCoded d q) (sym (outlet_stays d (follow (directed_of d) p k) out)) here
      | inr none_here ↦ coded_from d lawful (next (directed_of d) (follow (directed_of d) p k))
          (next_is_below d lawful (follow (directed_of d) p k) here none_here).0
    ]

-- a flow path that has reached an outlet stays there
ends_by : (d : Drained) (p : Place) (k m : ℕ) → k ≤ m → IsOutlet (directed_of d)
    (follow (directed_of d) p k) → IsOutlet (directed_of d) (follow (directed_of d) p m)
ends_by d p k zero le out = let none : k ≡ 0 = omega arith in
    subst (λ (j : ℕ). IsOutlet (directed_of d) (follow (directed_of d) p j)) none out
ends_by d p k (suc m) le out = elim (cases_eq k (suc m)) [
  | inl e ↦ subst (λ (j : ℕ). IsOutlet (directed_of d) (follow (directed_of d) p j)) e out
  | inr ne ↦ (let before = ends_by d p k m (omega arith) out in
      ap (code_at (directed_of d)) (outlet_stays d (follow (directed_of d) p m) before) ∙ before)
]

-- up to its first outlet, each cell of a flow path is lower than each earlier one, or as high with
-- fewer steps (`IsBelow`)
below_along : (d : Drained) → IsDraining d → (p : Place) → IsCoded d p → (i j : ℕ) →
    i < j → ((k : ℕ) → k < j → IsOutlet (directed_of d) (follow (directed_of d) p k) → ⊥) →
    IsBelow d (follow (directed_of d) p i) (follow (directed_of d) p j)
below_along d lawful p c i zero lt none_here = absurd (omega arith)
below_along d lawful p c i (suc j) lt none_here =
    let last = (next_is_below d lawful (follow (directed_of d) p j) (coded_along d lawful p c j)
    (none_here j (omega arith))).1 in
    elim (cases_eq i j) [
      | inl e ↦ subst (λ (m : ℕ).
          IsBelow d (follow (directed_of d) p m) (follow (directed_of d) p (suc j))) (sym e) last
      | inr ne ↦ below_trans d _ _ _
          (below_along d lawful p c i j (omega arith) (λ k h. none_here k (omega arith))) last
    ]

cases_reached : (d : Drained) → IsDraining d → (p : Place) → IsCoded d p → (n : ℕ) →
    ((k : ℕ) × (k < n) × IsOutlet (directed_of d) (follow (directed_of d) p k))
    ⊎ ((k : ℕ) → k < n → IsOutlet (directed_of d) (follow (directed_of d) p k) → ⊥)
cases_reached d lawful p c zero = inr (λ k h _. omega arith)
cases_reached d lawful p c (suc n) = elim (cases_reached d lawful p c n) [
  | inl r ↦ inl (r.0, omega (arith, r.1), r.2)
  | inr none ↦ elim (cases_outlet d (follow (directed_of d) p n) (coded_along d lawful p c n)) [
    | inl out ↦ inl (n, omega arith, out)
    | inr none_here ↦ inr (λ k h. elim (cases_eq k n) [
      | inl e ↦ subst (λ (j : ℕ). IsOutlet (directed_of d) (follow (directed_of d) p j) →
          ⊥) (sym e) none_here
      | inr ne ↦ none k (omega arith)
    ])
  ]
]

place_along : Drained → Place → ℕ → ℕ
place_along d p i = index_of d.terrain.cols (follow (directed_of d) p i)

inside_along : (d : Drained) → IsDraining d → (p : Place) → IsCoded d p → (i : ℕ) → ((follow
    (directed_of d) p i).row < d.terrain.rows) × ((follow (directed_of d) p i).col < d.terrain.cols)
unfolding IsCoded
inside_along d lawful p c i =
    let here = coded_along d lawful p c i in
    inside_from_entry d.terrain.cols d.terrain.rows d.codes
    (follow (directed_of d) p i) here.0 here.1

too_many : (d : Drained) → IsDraining d → (p : Place) → IsCoded d p → ((k : ℕ) →
    k < moves (directed_of d) → IsOutlet (directed_of d) (follow (directed_of d) p k) → ⊥) → ⊥
unfolding place_along
too_many d lawful p c none =
    let count : moves (directed_of d) + 1 ≤ moves (directed_of d) =
    pigeonhole (moves (directed_of d)) (moves (directed_of d) + 1) (place_along d p)
    (λ i h. (let here = inside_along d lawful p c i in
    index_below d.terrain.cols d.terrain.rows (follow (directed_of d) p i) here.0 here.1))
    (λ i j h l same.
    below_differs d (follow (directed_of d) p i) (follow (directed_of d) p j)
    (below_along d lawful p c i j h (λ k b. none k (omega arith)))
    (index_injective d.terrain.cols (follow (directed_of d) p i) (follow (directed_of d) p j)
    (inside_along d lawful p c i).1 (inside_along d lawful p c j).1 same)) in
    omega arith

pub falling_ends : (d : Drained) → IsDraining d → (p : Place) (code : ℕ) →
    code_at (directed_of d) p ≡ Some code → FlowEnds (directed_of d) p
unfolding IsCoded
falling_ends d lawful p code e =
    elim (cases_reached d lawful p (code, e) (moves (directed_of d))) [
      | inl r ↦ ends_by d p r.0 (moves (directed_of d)) (omega (arith, r.1)) r.2
      | inr none ↦ absurd (too_many d lawful p (code, e) none)
    ]
