use Rattle.std.proofs.Common.{◌≡◌, ℕ, ◌+◌, ◌*◌, ◌-◌, ◌≤◌, replicate, min, fold}
use Rattle.decimals.proofs.decimal.zeros_after.Given as goal

abbrev pub invariant-loop : goal.invariant-loop
invariant-loop l = record {
  small : l.value ≤ 1000000000000000001;
  value : (n : ℕ) → l.initial.value ≡ min n 1000000000000000001 → l.value
      ≡ min (fold (λ n b. 10 * n + (b - 48)) n (replicate l.counter 48)) 1000000000000000001;
}
