-- At step k of n from a toward b, a line is at a whole cell and some n-ths past it. In m more steps
-- the cell changes by `ahead` - `behind`, and the n-ths grow by `part`. If the n-ths reach n, they
-- count as one more cell.
use Rattle.std.proofs.Common.{arith, sym, ap, ◌∙◌, ◌≡◌, ◌+◌, ◌-◌, ◌*◌, ◌/◌, ◌%◌, ◌<◌, ◌≤◌, ℕ, max, inl, inr}
use Rattle.std.specs.Int.{abs_diff}
use Rattle.std.proofs.Math.Nat.{zero-mod}
use Rattle.std.proofs.lemmas.Bool.{cases_lt, lt-ltb, le-ltb}
use Rattle.std.proofs.lemmas.Nat.{div-mul-add, mod-mul-add, mul-le, mod_below}
use Rattle.sightlines.specs.Sight.{toward, onward}

pub quotient_is : (t x n m back : ℕ) → t + back * n ≡ x * n + m → m < n → (t / n + back ≡ x) × (t % n ≡ m)
quotient_is t x n m back e below =
    let low : back ≤ x = elim (cases_lt x back) [
      | inl h ↦ absurd (omega (arith, mul-le (x + 1) n back n (omega arith) (omega arith)))
      | inr h ↦ h
    ] in
    let split : x ≡ (x - back) + back = omega arith in
    let t_is : t ≡ (x - back) * n + m = omega (arith, ap (λ z. z * n) split) in
    (rw t_is (rw (div-mul-add (x - back) n m below) (omega arith)), rw t_is (mod-mul-add (x - back) n m below))

more : (a b k m r : ℕ) → a * r + b * (k + m) + m * a ≡ a * (r + m) + b * k + m * b
more a b k m r = omega arith

pub toward_more : (a b n k m : ℕ) → k + m ≤ n → toward a b n (k + m) + m * a ≡ toward a b n k + m * b
toward_more a b n k m h =
    let e : n - k ≡ (n - (k + m)) + m = omega arith in
    rw e (more a b k m (n - (k + m)))

within : (a b m k r : ℕ) → a ≤ m → b ≤ m → a * r + b * k ≤ m * (r + k)
within a b m k r p q = omega (arith, mul-le a r m r p (omega arith), mul-le b k m k q (omega arith))

pub toward_le : (a b n k : ℕ) → k ≤ n → toward a b n k ≤ max a b * n
toward_le a b n k h =
    let e : n ≡ (n - k) + k = omega arith in
    let fact : toward a b n k ≤ max a b * ((n - k) + k) = within a b (max a b) k (n - k) (omega arith) (omega arith) in
    omega (arith, ap (λ z. max a b * z) e)

-- let the n-ths at step k and `part` add up to less than n. Then m steps from step k on gain
-- `ahead` - `behind` whole cells and `part` n-ths.
pub step_stays : (a b n k m ahead behind part : ℕ) → k + m ≤ n → m * b + behind * n ≡ m * a + ahead * n + part →
    toward a b n k % n + part < n →
    (toward a b n (k + m) / n + behind ≡ toward a b n k / n + ahead) ×
    (toward a b n (k + m) % n ≡ toward a b n k % n + part)
step_stays a b n k m ahead behind part h gains below =
    let t = toward a b n k in
    let e : toward a b n (k + m) + behind * n ≡ (t / n + ahead) * n + (t % n + part) = omega (
      arith,
      toward_more a b n k m h,
    ) in
    quotient_is (toward a b n (k + m)) _ n _ behind e below

pub step_passes : (a b n k m ahead behind part : ℕ) → k + m ≤ n → 0 < n →
    m * b + behind * n ≡ m * a + ahead * n + part → part < n → n ≤ toward a b n k % n + part →
    (toward a b n (k + m) / n + behind ≡ toward a b n k / n + ahead + 1) ×
    (toward a b n (k + m) % n + n ≡ toward a b n k % n + part)
step_passes a b n k m ahead behind part h some gains small passed =
    let t = toward a b n k in
    let low : t % n < n = mod_below t n some in
    let e : toward a b n (k + m) + behind * n ≡ (t / n + ahead + 1) * n + (t % n + part - n) = omega (
      arith,
      toward_more a b n k m h,
    ) in
    let both = quotient_is (toward a b n (k + m)) (t / n + ahead + 1) n (t % n + part - n) behind e (omega arith) in
    (both.0, omega arith)

up_by : (a k r : ℕ) → a * r + (a + (r + k)) * k ≡ (a + k) * (r + k) + 0
up_by a k r = omega arith

down_by : (b k r : ℕ) → (b + (r + k)) * r + b * k ≡ (b + r) * (r + k) + 0
down_by b k r = omega arith

-- if b = a + n, a line of n steps from a to b is at the whole cell a + k at step k
lead_up : (a b n k : ℕ) → b ≡ a + n → k ≤ n → toward a b n k ≡ (a + k) * n + 0
lead_up a b n k e h =
    let n_is : n ≡ (n - k) + k = omega arith in
    let b_is : b ≡ a + ((n - k) + k) = omega arith in
    rw b_is (up_by a k (n - k) ∙ ap (λ z. (a + k) * z + 0) (sym n_is))

lead_down : (a b n k : ℕ) → a ≡ b + n → k ≤ n → toward a b n k ≡ (b + (n - k)) * n + 0
lead_down a b n k e h =
    let n_is : n ≡ (n - k) + k = omega arith in
    let a_is : a ≡ b + ((n - k) + k) = omega arith in
    rw a_is (down_by b k (n - k) ∙ ap (λ z. (b + (n - k)) * z + 0) (sym n_is))

pub lead_up_is : (a b n k : ℕ) → b ≡ a + n → 0 < n → k ≤ n → toward a b n k / n ≡ a + k
lead_up_is a b n k e some h = rw (lead_up a b n k e h) (div-mul-add (a + k) n 0 some)

pub lead_down_is : (a b n k : ℕ) → a ≡ b + n → 0 < n → k ≤ n → toward a b n k / n ≡ b + (n - k)
lead_down_is a b n k e some h = rw (lead_down a b n k e h) (div-mul-add (b + (n - k)) n 0 some)

pub onward_is : (a b n k : ℕ) → n ≡ abs_diff a b → 0 < n → k ≤ n → onward a b k ≡ toward a b n k / n
onward_is a b n k e some h = elim (cases_lt a b) [
  | inl low ↦ rw (lt-ltb a b low) (sym (lead_up_is a b n k (omega arith) some h))
  | inr high ↦ rw (le-ltb a b high) (omega (arith, lead_down_is a b n k (omega arith) some h))
]

pub lead_part : (a b n ahead behind part : ℕ) → n ≡ abs_diff a b → b + behind * n ≡ a + ahead * n + part → part < n →
    part ≡ 0
lead_part a b n ahead behind part e gains below = elim (cases_lt a b) [
  | inl low ↦ sym (quotient_is 0 ahead n part (behind + 1) (omega arith) below).1 ∙ zero-mod n
  | inr high ↦ sym (quotient_is 0 (ahead + 1) n part behind (omega arith) below).1 ∙ zero-mod n
]
