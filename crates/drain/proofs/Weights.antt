-- Each of the eight ways from a cell has the weight of its drop, which is 0 only for no drop.
use Rattle.std.proofs.Common.{◌≡◌, ℕ, ◌+◌, ◌*◌, ◌<◌, ◌≤◌, ◌%◌, Bool, true, false, cond, eqb, length, get_or, Option, None, ℤ, ap, refl, ◌∙◌, arith, inl, inr}
use Rattle.std.proofs.lemmas.Bool.{cases_eq}
use Rattle.std.proofs.lemmas.Nat.{mul-le, mul-lt}
use Rattle.std.proofs.lemmas.List.{get_or-map, length-map}
use Rattle.std.proofs.lemmas.List.FromFn.{length-enumerate_from, get_or-enumerate_from}
use Rattle.std.specs.List.{enumerate_from}
use Rattle.drain.specs.Steepness.{weight, weights, drop_to}
use Rattle.drain.specs.declared.around.Around.{Around}

abbrev pub own_weight : Around → ℕ × Option (ℤ × ℕ) → ℕ
own_weight a e = weight e.0 (drop_to a.level e.1)

abbrev pub no_way : ℕ × Option (ℤ × ℕ)
no_way = (0, None)

pub length-weights : (a : Around) → length (weights a) ≡ length a.ways
length-weights a = length-map (enumerate_from 0 a.ways) (own_weight a)
    ∙ length-enumerate_from 0 a.ways

pub get_or-weights : (a : Around) (k : ℕ) → k < length a.ways →
    get_or (weights a) k 0 ≡ weight k (drop_to a.level (get_or a.ways k None))
get_or-weights a k h =
    let within : k < length (enumerate_from 0 a.ways) =
    omega (arith, length-enumerate_from 0 a.ways) in
    let zero_and : 0 + k ≡ k = omega arith in
    get_or-map (own_weight a) (enumerate_from 0 a.ways) k no_way 0 within
    ∙ ap (own_weight a) (get_or-enumerate_from 0 a.ways k no_way h)
    ∙ ap (λ way. weight way (drop_to a.level (get_or a.ways k None))) zero_and

-- the weight of a drop on an even way or on an odd one
abbrev pub weighed : Bool → ℕ → ℕ
weighed even drop = cond even (2 * (drop * drop)) (drop * drop)

pub weighed_rises : (even : Bool) (a b : ℕ) →
    (a ≤ b → weighed even a ≤ weighed even b) × (a < b → weighed even a < weighed even b)
weighed_rises true a b = (λ le. omega (arith, mul-le a a b b le le), λ lt. omega (arith, mul-lt a a b b lt lt))
weighed_rises false a b = (λ le. mul-le a a b b le le, λ lt. mul-lt a a b b lt lt)

pub weightless : (way : ℕ) {drop : ℕ} → drop ≡ 0 → weight way drop ≡ 0
weightless way none = ap (weight way) none ∙ nothing (eqb (way % 2) 0)
  where
    nothing : (even : Bool) → weighed even 0 ≡ 0
    nothing true = refl
    nothing false = refl

pub some_weight : (way drop : ℕ) → 0 < drop → 0 < weight way drop
some_weight way drop some =
    omega (arith, weightless way refl, (weighed_rises (eqb (way % 2) 0) 0 drop).1 some)

pub drop_from_weight : (way drop : ℕ) → weight way drop ≤ 0 → drop ≡ 0
drop_from_weight way drop low = elim (cases_eq drop 0) [
  | inl none ↦ none
  | inr some ↦ absurd (omega (arith, low, some_weight way drop (omega (arith, some))))
]
