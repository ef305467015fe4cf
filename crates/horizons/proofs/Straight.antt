-- If a ramp is above another at two slopes, it is above the other at all slopes between them. If it
-- is above the other at neither, it is above the other at no slope between them. The reason: the
-- difference of two ramps is straight.
use Rattle.std.proofs.Common.{◌≡◌, ℕ, ◌+◌, ◌-◌, ◌*◌, ◌<◌, ◌≤◌, Bool, true, false, List, Some, pos, ◌*ℤ◌, sym, ap, subst, ◌∙◌, arith, inl, inr}
use Rattle.std.specs.Prelude.{slice_get}
use borrow.Author.Differences.{up, down, true_is_lt, false_is_lt}
use Rattle.std.proofs.lemmas.Bool.{cases_lt}
use Rattle.std.proofs.lemmas.Int.{ints}
use Rattle.std.proofs.lemmas.Nat.{mul-le}
use Rattle.std.proofs.lemmas.Option.{same_Some}
use Rattle.horizons.specs.Horizons.{ramp_value, is_ramp_above, IsTarget, IsSlopeUpTo, AreTargets}
use Rattle.horizons.specs.declared.target.Target.{Target}
use Rattle.horizons.specs.declared.ramp.Ramp.{Ramp}

-- `lead q p c t` less `lead p q e t` is `ramp_value` of t by a ramp of gain q - p and
-- intercept c - e.
abbrev lead : ℕ → ℕ → ℕ → Target → ℕ
lead q p c t = q * up t.offset + p * down t.offset + c * t.line

abbrev gain : Ramp → Ramp → ℕ
gain r s = up r.gain * s.lines + down s.gain * r.lines

abbrev intercept : Ramp → Ramp → ℕ
intercept r s = up r.intercept * s.lines + down s.intercept * r.lines

-- `over r s t` less `over s r t` is `ramp_value r t * s.lines` less `ramp_value s t * r.lines`.
abbrev over : Ramp → Ramp → Target → ℕ
over r s t = lead (gain r s) (gain s r) (intercept r s) t

value_is : (r : Ramp) (t : Target) →
    up (ramp_value r t) + (up r.gain * down t.offset + down r.gain * up t.offset + down r.intercept * t.line) ≡
    down (ramp_value r t) + (up r.gain * up t.offset + down r.gain * down t.offset + up r.intercept * t.line)
value_is r t = omega (arith, ints)

difference : (r s : Ramp) (t : Target) →
    up (ramp_value r t) * s.lines + down (ramp_value s t) * r.lines + over s r t ≡
    down (ramp_value r t) * s.lines + up (ramp_value s t) * r.lines + over r s t
difference r s t = omega (arith, ap (λ n. n * s.lines) (value_is r t), ap (λ n. n * r.lines) (value_is s t))

over_if_above : (r s : Ramp) (t : Target) → is_ramp_above r s t ≡ true → over s r t < over r s t
over_if_above r s t e = omega (arith, ints, e, difference r s t)

not_over_if_not : (r s : Ramp) (t : Target) → is_ramp_above r s t ≡ false → over r s t ≤ over s r t
not_over_if_not r s t e = omega (arith, ints, e, difference r s t)

above_if_over : (r s : Ramp) (t : Target) → over s r t < over r s t → is_ramp_above r s t ≡ true
above_if_over r s t h =
    sym (true_is_lt (ramp_value s t *ℤ pos r.lines) (ramp_value r t *ℤ pos s.lines)
    (omega (arith, ints, h, difference r s t)))

not_if_not_over : (r s : Ramp) (t : Target) → over r s t ≤ over s r t → is_ramp_above r s t ≡ false
not_if_not_over r s t h =
    sym (false_is_lt (ramp_value s t *ℤ pos r.lines) (ramp_value r t *ℤ pos s.lines)
    (omega (arith, ints, h, difference r s t)))

-- The ramp of gain q - p and intercept c - e is no higher at target t than at target u.
abbrev Grows : ℕ → ℕ → ℕ → ℕ → Target → Target → Type 0
Grows p q c e t u = lead q p c t * u.line + lead p q e u * t.line ≤ lead q p c u * t.line + lead p q e t * u.line

gaining : (p d c e : ℕ) (t u : Target) → IsSlopeUpTo t u → Grows p (p + d) c e t u
gaining p d c e t u slope =
    let parts : up t.offset * u.line + down u.offset * t.line ≤ up u.offset * t.line + down t.offset * u.line = omega (
      arith,
      ints,
      slope,
    ) in
    omega (
      arith,
      mul-le d (up t.offset * u.line + down u.offset * t.line) d (up u.offset * t.line + down t.offset * u.line)
          (omega arith) parts,
    )

grows : (p q c e : ℕ) (t u : Target) → p ≤ q → IsSlopeUpTo t u → Grows p q c e t u
grows p q c e t u h slope =
    let sum : p + (q - p) ≡ q = omega arith in
    let P : ℕ → Type 0 = λ n. Grows p n c e t u in
    subst P sum (gaining p _ c e t u slope)

positive : (a b c d n m : ℕ) → 0 < m → a < b → b * m + c * n ≤ d * n + a * m → c < d
positive a b c d n m some less h = elim (cases_lt c d) [
  | inl is ↦ is
  | inr not ↦ absurd (omega (arith, mul-le (a + 1) m b m (omega arith) (omega arith), mul-le d n c n not (omega arith)))
]

at_least : (a b c d n m : ℕ) → 0 < n → a ≤ b → b * m + c * n ≤ d * n + a * m → c ≤ d
at_least a b c d n m some less h = elim (cases_lt d c) [
  | inl past ↦
      absurd (omega (arith, mul-le a m b m less (omega arith), mul-le (d + 1) n c n (omega arith) (omega arith)))
  | inr is ↦ is
]

leads_between : (p q c e : ℕ) (t u v : Target) → 0 < u.line → IsSlopeUpTo t u → IsSlopeUpTo u v →
    lead p q e t < lead q p c t → lead p q e v < lead q p c v → lead p q e u < lead q p c u
leads_between p q c e t u v some low high first last = elim (cases_lt p q) [
  | inl up ↦ positive (lead p q e t) (lead q p c t) (lead p q e u) (lead q p c u) t.line u.line some first
      (grows p q c e t u (omega arith) low)
  | inr down ↦ positive (lead p q e v) (lead q p c v) (lead p q e u) (lead q p c u) v.line u.line some last
      (omega (arith, grows q p e c u v down high))
]

holds_between : (p q c e : ℕ) (t u v : Target) → 0 < t.line → 0 < v.line → IsSlopeUpTo t u → IsSlopeUpTo u v →
    lead p q e t ≤ lead q p c t → lead p q e v ≤ lead q p c v → lead p q e u ≤ lead q p c u
holds_between p q c e t u v some more low high first last = elim (cases_lt p q) [
  | inl up ↦ at_least (lead p q e t) (lead q p c t) (lead p q e u) (lead q p c u) t.line u.line some first
      (grows p q c e t u (omega arith) low)
  | inr down ↦ at_least (lead p q e v) (lead q p c v) (lead p q e u) (lead q p c u) v.line u.line more last
      (omega (arith, grows q p e c u v down high))
]

above_between : (r s : Ramp) (t u v : Target) (b : Bool) → IsTarget t → IsTarget u → IsTarget v → IsSlopeUpTo t u →
    IsSlopeUpTo u v → is_ramp_above r s t ≡ b → is_ramp_above r s v ≡ b → is_ramp_above r s u ≡ b
above_between r s t u v true is_t is_u is_v low high first last =
    above_if_over r s u
    (leads_between _ _ _ _ t u v is_u.line.0 low high (over_if_above r s t first) (over_if_above r s v last))
above_between r s t u v false is_t is_u is_v low high first last =
    not_if_not_over r s u (holds_between _ _ _ _ t u v is_t.line.0 is_v.line.0 low high (not_over_if_not r s t first)
    (not_over_if_not r s v last))

-- Slopes do not fall along sorted targets.
pub slope_up : (targets : List Target) (i j : ℕ) (t u : Target) → AreTargets targets → i ≤ j →
    slice_get targets i ≡ Some t → slice_get targets j ≡ Some u → IsSlopeUpTo t u
slope_up targets i j t u are h at_i at_j = elim (cases_lt i j) [
  | inl less ↦ are.sorted i j t u less at_i at_j
  | inr not ↦
      let i_is : i ≡ j = omega arith in
      let P : Target → Type 0 = λ v. IsSlopeUpTo t v in
      subst P (same_Some t u (sym at_i ∙ ap (slice_get targets) i_is ∙ at_j)) (omega (arith, ints))
]

pub same_between : (targets : List Target) (r s : Ramp) (b : Bool) (i k j : ℕ) (t u v : Target) → AreTargets targets →
    i ≤ k → k ≤ j → slice_get targets i ≡ Some t → slice_get targets k ≡ Some u → slice_get targets j ≡ Some v →
    is_ramp_above r s t ≡ b → is_ramp_above r s v ≡ b → is_ramp_above r s u ≡ b
same_between targets r s b i k j t u v are low high at_i at_k at_j first last =
    above_between r s t u v b (are.each i t at_i) (are.each k u at_k) (are.each j v at_j)
    (slope_up targets i k t u are low at_i at_k) (slope_up targets k j u v are high at_k at_j) first last
