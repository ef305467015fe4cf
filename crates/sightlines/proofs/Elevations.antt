-- Elevations along a line of sight, times its number of steps, fit in 64 bits; a walk computes them
-- exactly.
use Rattle.std.proofs.Common.{arith, sym, ◌∙◌, ◌≡◌, ◌+◌, ◌-◌, ◌<◌, ◌≤◌, ℕ, ℤ, pos, unsigned_abs, ◌^◌, ◌*◌, ◌+ℤ◌, ◌-ℤ◌, ◌*ℤ◌, FitsSigned}
use Rattle.std.specs.Int.{w64}
use mir.Val.{to_z, of_z}
use Rattle.std.proofs.lemmas.Int.{ints, to_z-of_z, to_z_pos, unsigned_abs-mul}
use Rattle.std.proofs.Math.Nat.{sub-zero}
use Rattle.std.proofs.lemmas.Nat.{mul-le}
use Rattle.sightlines.specs.Sight.{sight}
use Rattle.sightlines.specs.Walk.{IsElevation}

pub sight_none : (e f : ℤ) (n : ℕ) → sight e f n 0 ≡ e *ℤ pos n
sight_none e f n = rw (sub-zero n) (omega (arith, ints))

rises : (e f : ℤ) (k m r : ℕ) →
    ((e *ℤ pos r) +ℤ (f *ℤ pos (k + m))) ≡ ((e *ℤ pos (r + m)) +ℤ (f *ℤ pos k)) +ℤ ((f *ℤ pos m) -ℤ (e *ℤ pos m))
rises e f k m r = omega (arith, ints)

pub sight_on : (e f : ℤ) (n k m : ℕ) → k + m ≤ n → sight e f n (k + m) ≡ sight e f n k +ℤ ((f *ℤ pos m) -ℤ (e *ℤ pos m))
sight_on e f n k m h =
    let split : n - k ≡ (n - (k + m)) + m = omega arith in
    rw split (rises e f k m (n - (k + m)))

pub sight_more : (e f : ℤ) (n k : ℕ) → k < n → sight e f n (k + 1) ≡ sight e f n k +ℤ (f -ℤ e)
sight_more e f n k h = omega (arith, ints, sight_on e f n k 1 (omega arith))

pub times_small : (a b : ℤ) (m n : ℕ) → unsigned_abs a ≤ m → unsigned_abs b ≤ n → unsigned_abs (a *ℤ b) ≤ m * n
times_small a b m n p q = omega (arith, unsigned_abs-mul a b, mul-le (unsigned_abs a) (unsigned_abs b) m n p q)

pub between_small : (e f : ℤ) (m r k n : ℕ) → unsigned_abs e ≤ m → unsigned_abs f ≤ m → r + k ≤ n →
    unsigned_abs ((e *ℤ pos r) +ℤ (f *ℤ pos k)) ≤ m * n
between_small e f m r k n p q few =
    let a = times_small e (pos r) m r p (omega arith) in
    let b = times_small f (pos k) m k q (omega arith) in
    omega (arith, ints, a, b, mul-le m (r + k) m n (omega arith) few)

pub sight_bounded : (e f : ℤ) (n k : ℕ) → IsElevation e → IsElevation f → k ≤ n → n ≤ 4096 →
    unsigned_abs (sight e f n k) ≤ 2 ^ 62
sight_bounded e f n k p q h l = omega (arith, between_small e f _ (n - k) k 4096 p q (omega arith))

fits : (z : ℤ) → unsigned_abs z ≤ 2 ^ 62 → FitsSigned w64 z
fits z small = omega (arith, ints)

pub elevation_fits : (e : ℤ) → IsElevation e → FitsSigned w64 e
elevation_fits e p = omega (arith, ints)

pub sight_fits : (e f : ℤ) (n k : ℕ) → IsElevation e → IsElevation f → k ≤ n → n ≤ 4096 → FitsSigned w64 (sight e f n k)
sight_fits e f n k p q h l = fits _ (sight_bounded e f n k p q h l)

pub scaled_fits : (e : ℤ) (n : ℕ) → IsElevation e → n ≤ 4096 → FitsSigned w64 (e *ℤ pos n)
scaled_fits e n p h = rw (← sight_none e e n) (sight_fits e e n 0 p p (omega arith) h)

-- an elevation times n of at most 4096, as the code computes it, fits in 64 bits and is exact
pub scaled_as_reckoned : (e : ℤ) (n : ℕ) → IsElevation e → n ≤ 4096 →
    let z = to_z w64 (of_z w64 e) *ℤ to_z w64 n in
    FitsSigned w64 z × (to_z w64 (of_z w64 z) ≡ e *ℤ pos n)
scaled_as_reckoned e n p h =
    let fit = scaled_fits e n p h in
    rw (to_z-of_z w64 e (elevation_fits e p), to_z_pos w64 n (omega arith)) (fit, to_z-of_z w64 (e *ℤ pos n) fit)

pub rise_fits : (e f : ℤ) → IsElevation e → IsElevation f → FitsSigned w64 (f -ℤ e)
rise_fits e f p q = omega (arith, ints)

pub more_fits : (e f : ℤ) (n k : ℕ) → IsElevation e → IsElevation f → k < n → n ≤ 4096 →
    FitsSigned w64 (sight e f n k +ℤ (f -ℤ e))
more_fits e f n k p q h l = fits _ (rw (sight_more e f n k h) at (sight_bounded e f n (k + 1) p q (omega arith) l))

-- the sight at the next step, as the walk computes it, fits in 64 bits and is exact
pub next_elevation : (e f : ℤ) (n k bits : ℕ) → IsElevation e → IsElevation f → k < n → n ≤ 4096 →
    to_z w64 bits ≡ sight e f n k →
    let sum = to_z w64 bits +ℤ to_z w64 (of_z w64 (to_z w64 (of_z w64 f) -ℤ to_z w64 (of_z w64 e))) in
    FitsSigned w64 sum × (to_z w64 (of_z w64 sum) ≡ sight e f n (k + 1))
next_elevation e f n k bits p q h l was =
    let from = to_z-of_z w64 e (elevation_fits e p) in
    let to = to_z-of_z w64 f (elevation_fits f q) in
    let rise_is = to_z-of_z w64 (f -ℤ e) (rise_fits e f p q) in
    let sum_fits = more_fits e f n k p q h l in
    let sum_is = to_z-of_z w64 (sight e f n k +ℤ (f -ℤ e)) sum_fits in
    (rw (from, to, rise_is, was) sum_fits, rw (from, to, rise_is, was) (sum_is ∙ sym (sight_more e f n k h)))

scaled_small : (e : ℤ) (m : ℕ) → IsElevation e → m < 4096 → unsigned_abs (e *ℤ pos m) ≤ 2 ^ 50 * 4095
scaled_small e m p h = times_small e (pos m) _ 4095 p (omega arith)

leap_fits : (e f : ℤ) (m : ℕ) → IsElevation e → IsElevation f → m < 4096 → FitsSigned w64 ((f *ℤ pos m) -ℤ (e *ℤ pos m))
leap_fits e f m p q h = omega (arith, ints, scaled_small e m p h, scaled_small f m q h)

-- the rise of the sight in m steps, as the code computes it, fits in 64 bits and is exact
pub rise_is : (e f : ℤ) (m : ℕ) → IsElevation e → IsElevation f → m < 4096 →
    let rise =
    to_z w64 (of_z w64 (to_z w64 (of_z w64 f) *ℤ to_z w64 m)) -ℤ
    to_z w64 (of_z w64 (to_z w64 (of_z w64 e) *ℤ to_z w64 m)) in
    FitsSigned w64 rise × (to_z w64 (of_z w64 rise) ≡ (f *ℤ pos m) -ℤ (e *ℤ pos m))
rise_is e f m p q h =
    let fit = leap_fits e f m p q h in
    rw ((scaled_as_reckoned e m p (omega arith)).1, (scaled_as_reckoned f m q (omega arith)).1)
    (fit, to_z-of_z w64 ((f *ℤ pos m) -ℤ (e *ℤ pos m)) fit)

-- the sight after a leap of m steps, as the code computes it, fits in 64 bits and is exact
pub leapt_elevation : (e f z rise : ℤ) (n k m : ℕ) → IsElevation e → IsElevation f → k + m ≤ n → n < 4096 →
    z ≡ sight e f n k → rise ≡ (f *ℤ pos m) -ℤ (e *ℤ pos m) →
    let sum = to_z w64 (of_z w64 z) +ℤ to_z w64 (of_z w64 rise) in
    FitsSigned w64 sum × (to_z w64 (of_z w64 sum) ≡ sight e f n (k + m))
leapt_elevation e f z rise n k m p q h few z_is rise_is =
    let here = to_z-of_z w64 (sight e f n k) (sight_fits e f n k p q (omega arith) (omega arith)) in
    let leap = to_z-of_z w64 ((f *ℤ pos m) -ℤ (e *ℤ pos m)) (leap_fits e f m p q (omega arith)) in
    let there = sight_fits e f n _ p q h (omega arith) in
    let on = sym (sight_on e f n k m h) in (
      rw (z_is, rise_is, here, leap, on) there,
      rw (z_is, rise_is, here, leap, on) (to_z-of_z w64 (sight e f n (k + m)) there),
    )
