-- The eight ways around a cell, looked at from the last to the first: those from 8 - `turn` on, and then
-- the way before them.
use Rattle.std.proofs.Common.{ℕ, ◌+◌, ◌-◌, ◌<◌, ◌≤◌, inl, inr, Option, Some, None, arith}
use Rattle.std.proofs.lemmas.Bool.{cases_eq}
use Rattle.drain.specs.Codes.{IsFirstWay}

pub more_ways : (P : ℕ → Type 0) (turn : ℕ) → turn < 8 → ((way : ℕ) → 8 - turn ≤ way → way < 8 → P way) →
    P (7 - turn) → (way : ℕ) → 8 - (turn + 1) ≤ way → way < 8 → P way
more_ways P turn left before here way past small = elim (cases_eq way (7 - turn)) [
  | inl e ↦ rw e here
  | inr ne ↦ before way (omega (arith, past, ne, left)) small
]

pub first_kept : (Is : ℕ → Type 0) (turn : ℕ) (found : Option ℕ) → turn < 8 → IsFirstWay Is (8 - turn) found →
    (Is (7 - turn) → ⊥) → IsFirstWay Is (8 - (turn + 1)) found
first_kept Is turn None left before off = more_ways (λ way. Is way → ⊥) turn left before off
first_kept Is turn (Some first) left before off = (
  before.0,
  before.1,
  more_ways (λ way. Is way → first ≤ way) turn left before.2 (λ is. absurd (off is)),
)

pub first_here : (Is : ℕ → Type 0) (turn : ℕ) → turn < 8 → Is (7 - turn) →
    IsFirstWay Is (8 - (turn + 1)) (Some (7 - turn))
first_here Is turn left is = (omega arith, is, λ way past small on. omega (arith, past))
