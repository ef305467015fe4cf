-- A walk to a target is blocked exactly if a family's line before the target's own blocks the
-- target. A family's lines are the columns, or the rows, on one side of an observer.
use Rattle.std.proofs.Common.{ap, ◌∙◌, ◌≡◌, ℕ, ◌-◌, ℤ, ◌+ℤ◌, List, Option}
use Rattle.std.specs.List.{list_any, range_with_len}
use Rattle.sightlines.specs.Walk.{step_blocks, steps_of, walk_blocks}
use Rattle.sight.specs.Sweep.{lead_axis, side_axis, is_blocked_before}
use Rattle.sight.specs.declared.family.Family.{Family}
use Rattle.sightlines.specs.declared.walk.Sightline.{Sightline}

pub walk_is_blocked : (cells : List (Option ℤ)) (f : Family) (n y : ℕ) (rise : ℤ) (l : Sightline) →
    l.lead ≡ lead_axis f n → l.side ≡ side_axis f y → l.from_elevation ≡ f.eye → l.to_elevation ≡ f.eye +ℤ rise →
    steps_of l ≡ n → walk_blocks cells l ≡ is_blocked_before cells f n y rise n
walk_is_blocked cells f n y rise l lead side eye target steps =
    ap (λ m.
    list_any (λ k. step_blocks cells l.lead l.side l.from_elevation l.to_elevation m k)
    (range_with_len 1 (m - 1))) steps ∙
    ap
    (λ a. list_any (λ k. step_blocks cells a l.side l.from_elevation l.to_elevation n k) (range_with_len 1 (n - 1)))
    lead ∙
    ap (λ b.
    list_any (λ k. step_blocks cells (lead_axis f n) b l.from_elevation l.to_elevation n k)
    (range_with_len 1 (n - 1))) side ∙
    ap (λ e.
    list_any (λ k. step_blocks cells (lead_axis f n) (side_axis f y) e l.to_elevation n k)
    (range_with_len 1 (n - 1))) eye ∙
    ap
    (λ z. list_any (λ k. step_blocks cells (lead_axis f n) (side_axis f y) f.eye z n k) (range_with_len 1 (n - 1)))
    target
