-- The top of a heap of entries is a lowest of them.
use Rattle.std.proofs.Common.{◌≡◌, false, List, ◌≤ℤ◌, arith}
use Rattle.std.specs.List.{All}
use Rattle.std.specs.BinaryHeap.{IsUpperBound}
use Rattle.std.specs.Ordering.{is_lt}
use Rattle.std.proofs.lemmas.Int.{by_lt_z}
use Rattle.std.proofs.lemmas.List.Elements.{All-from_recursion, All-weaker}
use Rattle.floods.specs.declared.queue.Candidate.{Candidate}
use Rattle.floods.specs.Flood.{candidate_order}

order_le : (x y : Candidate) → is_lt (candidate_order x y) ≡ false → x.height.0 ≤ℤ y.height.0
order_le x y e = by_lt_z _ _ (λ less. absurd (grind arith)) (λ h. h)

pub above_top : (w : Candidate) (others : List Candidate) → IsUpperBound candidate_order w others →
    All (λ x. w.height.0 ≤ℤ x.height.0) others
above_top w others upper = All-weaker _ _ (order_le w) others (All-from_recursion _ others upper)
