-- The greater of two ramps hides a target exactly if at least one of the two ramps hides it.
use Rattle.std.proofs.Common.{◌≡◌, ℕ, ◌+◌, ◌*◌, ◌<◌, ◌≤◌, Bool, true, false, ◌||◌, ℤ, pos, ◌*ℤ◌, ◌≤ℤ◌, refl, sym, arith, inl, inr}
use borrow.Author.Differences.{up, down, true_is_lt}
use Rattle.std.proofs.lemmas.Bool.{cases_lt, cases_Bool}
use Rattle.std.proofs.lemmas.Int.{ints}
use Rattle.std.proofs.lemmas.Nat.{mul-le}
use Rattle.horizons.specs.Horizons.{ramp_value, ramp_hides, is_ramp_above, IsRampAt}
use Rattle.horizons.specs.Merging.{greater_at}
use Rattle.horizons.specs.declared.target.Target.{Target}
use Rattle.horizons.specs.declared.ramp.Ramp.{Ramp}

-- For k, l > 0: if X k < A and A l <= C k, then X l < C. Here X = x - y, A = a - b, C = c - d.
passed_on : (x y a b c d k l : ℕ) → 0 < k → 0 < l → x * k + b < y * k + a → a * l + d * k ≤ c * k + b * l →
    x * l + d < y * l + c
passed_on x y a b c d k l some more less h = elim (cases_lt (x * l + d) (y * l + c)) [
  | inl is ↦ is
  | inr not ↦ absurd (omega (
    arith,
    mul-le (x * k + b + 1) l (y * k + a) l (omega arith) (omega arith),
    mul-le (y * l + c) k (x * l + d) k not (omega arith),
  ))
]

hides_more : (r s : Ramp) (t : Target) (x : ℤ) → 0 < r.lines → 0 < s.lines →
    (ramp_value r t *ℤ pos s.lines) ≤ℤ (ramp_value s t *ℤ pos r.lines) → ramp_hides r t x ≡ true →
    ramp_hides s t x ≡ true
hides_more r s t x some more h e =
    let is =
    passed_on (up x) (down x) (up (ramp_value r t)) (down (ramp_value r t)) (up (ramp_value s t))
    (down (ramp_value s t)) r.lines s.lines some more (omega (arith, ints, e)) (omega (arith, ints, h)) in
    sym (true_is_lt (x *ℤ pos s.lines) (ramp_value s t) (omega (arith, ints, is)))

pub hides_if_not_above : (r s : Ramp) (t : Target) (x : ℤ) → IsRampAt r t → IsRampAt s t → is_ramp_above r s t ≡ false →
    ramp_hides r t x ≡ true → ramp_hides s t x ≡ true
hides_if_not_above r s t x is_r is_s not = hides_more r s t x is_r.lines.0 is_s.lines.0 (omega (arith, ints, not))

pub either_hides : (a b : Bool) → (b ≡ true → a ≡ true) → a ≡ (a || b)
either_hides true b h = refl
either_hides false true h = h refl
either_hides false false h = refl

either_hides' : (a b : Bool) → (a ≡ true → b ≡ true) → b ≡ (a || b)
either_hides' true b h = h refl
either_hides' false b h = refl

pub greater_hides : (r s : Ramp) (t : Target) (x : ℤ) → IsRampAt r t → IsRampAt s t →
    ramp_hides (greater_at s r t) t x ≡ (ramp_hides r t x || ramp_hides s t x)
greater_hides r s t x is_r is_s = elim (cases_Bool (is_ramp_above s r t)) [
  | inl above ↦ rw above (either_hides' (ramp_hides r t x) (ramp_hides s t x)
      (hides_more r s t x is_r.lines.0 is_s.lines.0 (omega (arith, ints, above))))
  | inr not ↦ rw not (either_hides (ramp_hides r t x) (ramp_hides s t x)
      (hides_more s r t x is_s.lines.0 is_r.lines.0 (omega (arith, ints, not))))
]

pub greater_is_ramp : (r s : Ramp) (t : Target) → IsRampAt r t → IsRampAt s t → IsRampAt (greater_at s r t) t
greater_is_ramp r s t is_r is_s = elim (cases_Bool (is_ramp_above s r t)) [
  | inl above ↦ rw above is_s
  | inr not ↦ rw not is_r
]
