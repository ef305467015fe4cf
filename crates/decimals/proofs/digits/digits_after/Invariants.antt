use Rattle.std.proofs.Common.{◌≡◌, ℕ, ◌+◌, ◌*◌, ◌-◌, ◌≤◌, take, min, fold}
use Rattle.decimals.proofs.digits.digits_after.Given as goal

abbrev pub invariant-loop-b : goal.invariant-loop-b
invariant-loop-b l = record {
  small : l.value ≤ 1000000000000000001;
  value : (n : ℕ) → l.initial.value ≡ min n 1000000000000000001 → l.value
      ≡ min (fold (λ n b. 10 * n + (b - 48)) n (take l.b-index l.digits)) 1000000000000000001;
}
