-- Sums of a function over views. A view (`Log`) has the pushes and takes of one pass (`Rule`).
-- If a view w is appended, the sum of f grows by f w. If w replaces v, it grows by f w - f v. If
-- the sum of g is g of one view, and f is 0 wherever g is, the sum of f is f of that view.
use Rattle.std.proofs.Common.{◌≡◌, ℕ, zero, suc, ◌+◌, ◌≤◌, List, [], ◌∷◌, ◌++◌, set, sym, refl, arith}
use mathlib.Core.Option.{some, some-ne-none}
use lib.ListN.{get_elem?}
use Rattle.tile_jobs.specs.declared.deque.Log.{Log}
use Rattle.tile_jobs.specs.Rule.{sum_over}

pub sum_over_set : (f : Log → ℕ) (views : List Log) (port : ℕ) (v w : Log) → get_elem? views port ≡ some v →
    sum_over f (set views port w) + f v ≡ sum_over f views + f w
sum_over_set f [] port v w e = absurd (some-ne-none v (sym e))
sum_over_set f (u ∷ us) zero v w e = let same : f u ≡ f v = cc in omega arith
sum_over_set f (u ∷ us) (suc port) v w e = let h = sum_over_set f us port v w e in omega arith

pub sum_over_at : (f : Log → ℕ) (views : List Log) (port : ℕ) (v : Log) → get_elem? views port ≡ some v →
    f v ≤ sum_over f views
sum_over_at f [] port v e = absurd (some-ne-none v (sym e))
sum_over_at f (u ∷ us) zero v e = let same : f u ≡ f v = cc in omega arith
sum_over_at f (u ∷ us) (suc port) v e = let h = sum_over_at f us port v e in omega arith

pub sum_over_append : (f : Log → ℕ) (views : List Log) (w : Log) → sum_over f (views ++ w ∷ []) ≡ sum_over f views + f w
sum_over_append f [] w = omega arith
sum_over_append f (u ∷ us) w = omega (arith, sum_over_append f us w)

pub sum_over_plus : (f g : Log → ℕ) (views : List Log) →
    sum_over (λ u. f u + g u) views ≡ sum_over f views + sum_over g views
sum_over_plus f g [] = refl
sum_over_plus f g (u ∷ us) = omega (arith, sum_over_plus f g us)

pub sum_over_none : (f g : Log → ℕ) (views : List Log) →
    ((j : ℕ) (u : Log) → get_elem? views j ≡ some u → g u ≡ 0 → f u ≡ 0) → sum_over g views ≡ 0 → sum_over f views ≡ 0
sum_over_none f g [] h e = refl
sum_over_none f g (u ∷ us) h e = let here = h zero u refl (omega arith) in
    let rest = sum_over_none f g us (λ j. h (suc j)) (omega arith) in omega arith

pub sum_over_alone : (f g : Log → ℕ) (views : List Log) (port : ℕ) (v : Log) →
    ((j : ℕ) (u : Log) → get_elem? views j ≡ some u → g u ≡ 0 → f u ≡ 0) → get_elem? views port ≡ some v →
    sum_over g views ≡ g v → sum_over f views ≡ f v
sum_over_alone f g [] port v h e s = absurd (some-ne-none v (sym e))
sum_over_alone f g (u ∷ us) zero v h e s =
    let fs : f u ≡ f v = cc in
    let gs : g u ≡ g v = cc in
    let rest = sum_over_none f g us (λ j. h (suc j)) (omega arith) in omega arith
sum_over_alone f g (u ∷ us) (suc port) v h e s =
    let below = sum_over_at g us port v e in
    let here = h zero u refl (omega arith) in
    let rest = sum_over_alone f g us port v (λ j. h (suc j)) e (omega arith) in omega arith
