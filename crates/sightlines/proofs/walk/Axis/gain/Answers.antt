use Rattle.std.proofs.Common.{arith, ap, ◌≡◌, ◌+◌, ◌-◌, ◌*◌, ◌<◌, ◌≤◌, ℕ, inl, inr}
use Rattle.std.proofs.lemmas.Bool.{cases_lt}
use Rattle.std.proofs.lemmas.Grind.{div_ceil_times}
use Rattle.std.proofs.lemmas.Nat.{mul-le}
use Rattle.sightlines.proofs.walk.Axis.gain.Goals as goal

rounded_le : (x n q : ℕ) → 0 < n → q * n < x + n → q ≤ x
rounded_le x n q some low = elim (cases_lt x q) [
  | inl past ↦ absurd
      (omega (arith, low, mul-le (x + 1) n q n (omega arith) (omega arith), mul-le x 1 x n (omega arith) (omega arith)))
  | inr few ↦ few
]

pub returns-else-self : goal.returns-else-self
returns-else-self c =
    let from = c.args.self.from in
    let to = c.args.self.to in
    let n = c.args.steps in
    let fall = (from - to) * c.args.count in
    let behind = c.div_ceil-behind.result in
    let split : from ≡ (from - to) + to = omega arith in
    let all : c.args.count * from ≡ fall + c.args.count * to = omega (arith, ap (λ z. c.args.count * z) split) in
    let reported = c.div_ceil-behind.ensures in
    let bounds : (fall ≤ behind * n) × (behind * n < fall + n) = rw reported (div_ceil_times fall n (omega arith)) in
    record {
      sum = omega (arith, all, bounds);
      below = omega (arith, bounds);
      few_ahead = omega arith;
      few_behind = omega (arith, all, rounded_le fall n behind (omega arith) bounds.1);
    }
