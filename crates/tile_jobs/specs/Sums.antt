-- The sum of a function's first values.
-- Public.
use Rattle.std.specs.Prelude.{ℕ, zero, suc, ◌+◌}

-- The sum of f over the numbers below n.
abbrev pub sum_below : (ℕ → ℕ) → ℕ → ℕ
sum_below f zero = 0
sum_below f (suc n) = sum_below f n + f n
