-- A number of steps below `no_count` is read back as itself, and `no_count` or more as unknown.
use Rattle.std.proofs.Common.{◌≡◌, ℕ, ◌≤◌, ◌<◌, None, Some, unwrap_or, ap}
use Rattle.std.proofs.lemmas.Bool.{cond-true, cond-false, lt-ltb, le-ltb}
use Rattle.drainage.specs.StepCounts.{known, no_count}
use Rattle.terrain.proofs.count.OptionalCount.TheLaws.{the_inverse_ok}

pub known-some : (n : ℕ) → n < no_count → known n ≡ Some n
known-some n less = cond-true _ _ _ (lt-ltb _ _ less)

pub known-none : (n : ℕ) → no_count ≤ n → known n ≡ None
known-none n more = cond-false _ _ _ (le-ltb _ _ more)

pub known_number : (n : ℕ) → n ≤ no_count → unwrap_or (known n) no_count ≡ n
known_number n few = ap (λ c. c.number) (the_inverse_ok no_count (record { number = n }) few)
