-- If every flow path ends, the paths from data cells contain only data cells.
use Rattle.std.proofs.Common.{◌≡◌, ℕ, zero, suc, ◌+◌, ◌<◌, ◌≤◌, ◌⊎◌, inl, inr, true, None, Some, is_some, sym, ap, ◌∙◌, arith}
use Rattle.std.proofs.lemmas.Bool.{cases_lt}
use Rattle.std.proofs.lemmas.Option.{none-some}
use Rattle.terrain.proofs.Options.{cases_option}
use Rattle.terrain.specs.declared.place.Place.{Place}
use Rattle.terrain.proofs.Places.{inside_from_entry}
use Rattle.drainage.specs.Following.{Directed, code_at, next, follow, moves, IsOutlet}
use Rattle.drainage.specs.Drained.{AllFlowEnds}
use Rattle.flow.proofs.Ending.{stays_from}

pub record IsCoded (d : Directed) (p : Place) : Type 0 where
  pub code : ℕ
  pub is : code_at d p ≡ Some code

pub cases_coded : (d : Directed) (p : Place) → (code_at d p ≡ None) ⊎ IsCoded d p
cases_coded d p = elim (cases_option (code_at d p)) [
  | inl e ↦ inl e
  | inr c ↦ inr (record { code = c.0; is = c.1 })
]

pub none_stays : (d : Directed) (p : Place) → code_at d p ≡ None → next d p ≡ p
none_stays d p e = cc

pub outlet_stays : (d : Directed) (p : Place) → IsOutlet d p → next d p ≡ p
outlet_stays d p e = cc

pub follow_stays : (d : Directed) (p : Place) (k m : ℕ) → k ≤ m → next d (follow d p k) ≡ follow d p k →
    follow d p m ≡ follow d p k
follow_stays d p = stays_from _ (λ a b e. cc)

pub follow_more : (d : Directed) (p : Place) (a b : ℕ) → follow d (follow d p a) b ≡ follow d p (a + b)
follow_more d p a zero = let z : a ≡ a + 0 = omega arith in cc
follow_more d p a (suc b) = let z : suc (a + b) ≡ a + suc b = omega arith in
    cc (follow_more d p a b)

pub follow_first : (d : Directed) (p : Place) (k : ℕ) → follow d (next d p) k ≡ follow d p (suc k)
follow_first d p k = let z : 1 + k ≡ suc k = omega arith in cc (follow_more d p 1 k)

-- After k moves the path of p moves no further.
abbrev pub StopsAt : Directed → Place → ℕ → Type 0
StopsAt d p k = next d (follow d p k) ≡ follow d p k

pub stops_sooner : (d : Directed) (p : Place) {e : Place} (k n : ℕ) → follow d p (suc k) ≡ e → StopsAt d p (suc n) →
    StopsAt d e n
stops_sooner d p {e} k n way stop =
    let later =
    ap (λ q. follow d q n) (sym way) ∙ follow_more d p (suc k) n ∙ follow_stays d p (suc n) (suc k + n) (omega arith)
    stop in
    cc

-- If the path of p returns to p, and moves no further after some move, it never leaves p.
pub cycle_stops : (d : Directed) (n : ℕ) {p : Place} (k : ℕ) → follow d p (suc k) ≡ p → StopsAt d p n → next d p ≡ p
cycle_stops d zero k way stop = stop
cycle_stops d (suc n) {p} k way stop = cycle_stops d n k way (stops_sooner d p k n way stop)

pub coded_along : {d : Directed} → AllFlowEnds d → {p : Place} → IsCoded d p → (k : ℕ) → IsCoded d (follow d p k)
coded_along {d} ends {p} c k = elim (cases_coded d (follow d p k)) [
  | inr is ↦ is
  | inl none ↦ elim (cases_lt (moves d) k) [
    | inr le ↦ (let last = follow_stays d p k (moves d) le (none_stays d _ none) in
        absurd (none-some 0 (sym none ∙ sym (ap (code_at d) last) ∙ ends p c.code c.is)))
    | inl lt ↦ (let last = follow_stays d p (moves d) k (omega arith) (outlet_stays d _ (ends p c.code c.is)) in
        record { code = 0; is = cc (ends p c.code c.is) })
  ]
]

pub outlet_from_stays : {d : Directed} → AllFlowEnds d → {p : Place} → IsCoded d p → next d p ≡ p → IsOutlet d p
outlet_from_stays {d} ends {p} c e = cc (follow_stays d p 0 (moves d) (omega arith) e, ends p c.code c.is)

pub coded_inside : {d : Directed} {p : Place} → IsCoded d p → (p.row < d.rows) × (p.col < d.cols)
coded_inside {d} {p} c = inside_from_entry _ _ _ p _ c.is

pub coded_from_some : (d : Directed) (p : Place) → is_some (code_at d p) ≡ true → IsCoded d p
coded_from_some d p h = elim (cases_coded d p) [
  | inl none ↦ let no = ap is_some none in absurd cc
  | inr c ↦ c
]
