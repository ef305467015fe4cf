-- A line has n steps. At step k `index_at` is the index of the near cell, which is at or before the
-- line, and `part_at` is how many n-ths of a cell the line is past the near cell. The pace is the
-- change of index_moved from step k to step k + 1. The near cell is in the list. So is the far cell, the
-- next on the side coordinate, if the n-ths are above 0. The sums of indexes fit in 64 bits (`room`).
use Rattle.std.proofs.Common.{arith, ap, ◌≡◌, ◌+◌, ◌*◌, ◌^◌, ◌/◌, ◌<◌, ◌≤◌, ℕ, ℤ, Option, List, length, max, inl, inr}
use Rattle.std.specs.Int.{abs_diff}
use Rattle.std.proofs.lemmas.Bool.{cases_lt}
use Rattle.std.proofs.lemmas.Nat.{mul-le, div-add-mod'}
use Rattle.sightlines.specs.Sight.{toward}
use Rattle.sightlines.specs.Walk.{whole_at, part_at, index_at, CoversLine}
use Rattle.sightlines.specs.Pace.{IsPace, Gains}
use Rattle.sightlines.specs.declared.walk.Axis.{Axis}
use Rattle.sightlines.specs.declared.walk.Pace.{Pace}
use Rattle.sightlines.proofs.Toward.{toward_le, step_stays, step_passes, lead_part}

lead_step : (a : Axis) (n k ahead behind part : ℕ) → n ≡ abs_diff a.from a.to → 0 < n → k < n →
    Gains a n 1 ahead behind part → whole_at a n (k + 1) + behind ≡ whole_at a n k + ahead
lead_step a n k ahead behind part e some h gains =
    let none = lead_part a.from a.to n ahead behind part e (omega arith) gains.below in
    (step_stays a.from a.to n k 1 ahead behind part (omega arith) gains.sum (omega arith)).0

-- If coordinates move by la - lb and sa - sb + carry, the index moves by these times the strides:
-- la and sa are cells ahead on lead and side, lb and sb cells behind.
moved : (x y s t la lb sa sb x' y' carry : ℕ) → x' + lb ≡ x + la → y' + sb ≡ y + sa + carry →
    x' * s + y' * t + (lb * s + sb * t) ≡ x * s + y * t + (la * s + sa * t) + carry * t
moved x y s t la lb sa sb x' y' carry p q = omega (arith, ap (λ z. z * s) p, ap (λ z. z * t) q)

pub index_stays : (lead side : Axis) (n k : ℕ) (pace : Pace) → n ≡ abs_diff lead.from lead.to → k < n →
    IsPace lead side n pace → part_at side n k + pace.part < n →
    (index_at lead side n (k + 1) + pace.behind ≡ index_at lead side n k + pace.ahead) ×
    (part_at side n (k + 1) ≡ part_at side n k + pace.part)
index_stays lead side n k pace e h p below =
    let side_moved =
    step_stays side.from side.to n k 1 p.side_ahead p.side_behind pace.part (omega arith) p.side_gains.sum below in
    let index_moved =
    moved (whole_at lead n k) (whole_at side n k) lead.stride side.stride p.lead_ahead p.lead_behind p.side_ahead
    p.side_behind (whole_at lead n (k + 1)) (whole_at side n (k + 1)) 0
    (lead_step lead n k _ _ _ e (omega arith) h p.lead_gains) (omega arith) in
    (omega (arith, index_moved), side_moved.1)

pub index_passes : (lead side : Axis) (n k : ℕ) (pace : Pace) → n ≡ abs_diff lead.from lead.to → k < n →
    IsPace lead side n pace → n ≤ part_at side n k + pace.part →
    (index_at lead side n (k + 1) + pace.behind ≡ index_at lead side n k + pace.ahead + pace.beside) ×
    (part_at side n (k + 1) + n ≡ part_at side n k + pace.part)
index_passes lead side n k pace e h p passed =
    let side_moved =
    step_passes side.from side.to n k 1 p.side_ahead p.side_behind _ (omega arith) (omega arith) p.side_gains.sum
    p.side_gains.below passed in
    let index_moved =
    moved (whole_at lead n k) (whole_at side n k) lead.stride side.stride p.lead_ahead p.lead_behind p.side_ahead
    p.side_behind (whole_at lead n (k + 1)) (whole_at side n (k + 1)) 1
    (lead_step lead n k _ _ _ e (omega arith) h p.lead_gains) side_moved.0 in
    (omega (arith, index_moved), side_moved.1)

pub whole_le : (a : Axis) (n k : ℕ) → 0 < n → k ≤ n → whole_at a n k ≤ max a.from a.to
whole_le a n k some h =
    let t = toward a.from a.to n k in
    elim (cases_lt (max a.from a.to) (t / n)) [
      | inl past ↦ absurd (omega (
        arith,
        toward_le a.from a.to n k h,
        div-add-mod' t n,
        mul-le (max a.from a.to + 1) n (t / n) n (omega arith) (omega arith),
      ))
      | inr low ↦ low
    ]

pub whole_lt : (a : Axis) (n k : ℕ) → 0 < n → k ≤ n → 0 < part_at a n k → whole_at a n k + 1 ≤ max a.from a.to
whole_lt a n k some h parts =
    let t = toward a.from a.to n k in
    elim (cases_lt (t / n) (max a.from a.to)) [
      | inl low ↦ omega arith
      | inr past ↦ absurd (omega (
        arith,
        toward_le a.from a.to n k h,
        div-add-mod' t n,
        mul-le (max a.from a.to) n (t / n) n past (omega arith),
      ))
    ]

pub near_inside : (cells : List (Option ℤ)) (lead side : Axis) (n k : ℕ) → CoversLine cells lead side → 0 < n → k ≤ n →
    index_at lead side n k < length cells
near_inside cells lead side n k over some h = omega (
  arith,
  over,
  mul-le (whole_at lead n k) lead.stride (max lead.from lead.to) lead.stride (whole_le lead n k some h) (omega arith),
  mul-le (whole_at side n k) side.stride (max side.from side.to) side.stride (whole_le side n k some h) (omega arith),
)

pub far_inside : (cells : List (Option ℤ)) (lead side : Axis) (n k : ℕ) → CoversLine cells lead side → 0 < n → k ≤ n →
    0 < part_at side n k → index_at lead side n k + side.stride < length cells
far_inside cells lead side n k over some h parts = omega (
  arith,
  over,
  mul-le (whole_at lead n k) lead.stride (max lead.from lead.to) lead.stride (whole_le lead n k some h) (omega arith),
  mul-le (whole_at side n k + 1) side.stride (max side.from side.to) side.stride (whole_lt side n k some h parts)
      (omega arith),
)

pub room : (lead side : Axis) (n k : ℕ) (pace : Pace) → 0 < n → k ≤ n → IsPace lead side n pace →
    (lead.from < 4096) × (lead.to < 4096) × (side.from < 4096) × (side.to < 4096) →
    (lead.stride ≤ 4096) × (side.stride ≤ 4096) → index_at lead side n k + pace.ahead + pace.beside < 2 ^ 64
room lead side n k pace some h p ends strides =
    let a = mul-le (whole_at lead n k) lead.stride 4096 4096 (omega (arith, whole_le lead n k some h)) strides.0 in
    let b = mul-le (whole_at side n k) side.stride 4096 4096 (omega (arith, whole_le side n k some h)) strides.1 in
    let c = mul-le p.lead_ahead lead.stride 4096 4096 (omega arith) strides.0 in
    omega (arith, a, b, c, mul-le p.side_ahead side.stride 4096 4096 (omega arith) strides.1)

-- the index and the part that `Pace::next` returns are those of step k + 1
pub next_is : (lead side : Axis) (n k : ℕ) (pace : Pace) (index part : ℕ) → n ≡ abs_diff lead.from lead.to → k < n →
    IsPace lead side n pace →
    (part_at side n k + pace.part < pace.steps →
    (index + pace.behind ≡ index_at lead side n k + pace.ahead) × (part ≡ part_at side n k + pace.part)) →
    (pace.steps ≤ part_at side n k + pace.part →
    (index + pace.behind ≡ index_at lead side n k + pace.ahead + pace.beside) ×
    (part + pace.steps ≡ part_at side n k + pace.part)) →
    (index ≡ index_at lead side n (k + 1)) × (part ≡ part_at side n (k + 1))
next_is lead side n k pace index part e h p stays passes = elim (cases_lt (part_at side n k + pace.part) n) [
  | inl low ↦
      let is = index_stays lead side n k pace e h p low in
      let reported = stays (omega (arith, low)) in
      (omega (arith, is, reported), omega (arith, is, reported))
  | inr high ↦
      let is = index_passes lead side n k pace e h p high in
      let reported = passes (omega (arith, high)) in
      (omega (arith, is, reported), omega (arith, is, reported))
]
