-- Crossings, computed in natural numbers, satisfy the line's equation in signed numbers.
use Rattle.std.proofs.Common.{arith, sym, ap, ◌∙◌, ◌≡◌, ◌+◌, ◌-◌, ◌*◌, ◌/◌, ◌%◌, ℕ, pos, ◌+ℤ◌, ◌-ℤ◌, ◌*ℤ◌}
use borrow.Author.Differences.{up, down}
use Rattle.std.proofs.lemmas.Int.{ints}
use Rattle.std.proofs.lemmas.Nat.{mod_below, div-add-mod'}
use Rattle.sightlines.specs.Sight.{toward, CrossingsAreOnTheLine}

apart : (b a : ℕ) → up (pos b -ℤ pos a) + a ≡ down (pos b -ℤ pos a) + b
apart b a = omega (arith, ints)

-- the equation over natural numbers gives the signed one, with r steps left of r + k
signed : (a b k r x m : ℕ) → x * (r + k) + m ≡ a * r + b * k →
    (pos b -ℤ pos a) *ℤ pos k ≡ ((pos x -ℤ pos a) *ℤ pos (r + k)) +ℤ pos m
signed a b k r x m e = omega (arith, ints, ap (λ z. z * k) (apart b a), ap (λ z. z * (r + k)) (apart x a))

pub crossings_are_on_the_line : CrossingsAreOnTheLine
crossings_are_on_the_line a b n k some h =
    let t = toward a b n k in
    let n_is : n ≡ (n - k) + k = omega arith in
    let e : (t / n) * ((n - k) + k) + t % n ≡ a * (n - k) + b * k = omega (
      arith,
      div-add-mod' t n,
      ap (λ z. (t / n) * z) n_is,
    ) in (
      mod_below t n some,
      signed a b k (n - k) (t / n) (t % n) e ∙ ap (λ z. ((pos (t / n) -ℤ pos a) *ℤ pos z) +ℤ pos (t % n)) (sym n_is),
    )
