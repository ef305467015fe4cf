-- A family's lines are the columns, or the rows, on one side of an observer, counted outward from
-- 1. An extent is a part of the grid whose cells have flags. A ray leads from the observer to a
-- target, seen from above. Line by line and cell by cell, a list gets the rays to all flagged cells
-- from line 2 on.
use Rattle.std.proofs.Common.{arith, refl, sym, ap, subst, ◌∙◌, ◌≡◌, ℕ, ◌+◌, ◌*◌, ◌<◌, ◌≤◌, ◌++◌, ◌⊎◌, Bool, false, List, [], ◌∷◌, length, Some, inl, inr}
use Rattle.std.specs.Prelude.{slice_get}
use Rattle.std.proofs.lemmas.Bool.{cases_lt}
use Rattle.std.proofs.lemmas.List.{length-append}
use Rattle.std.proofs.lemmas.Option.{same_Some, slice_get_within}
use Rattle.horizons.specs.declared.target.Target.{Target}
use Rattle.sight.specs.Sweep.{lead_of, IsAtCell, IsFamily}
use Rattle.sight.specs.Hiding.{target_at, flag_in_extent, AreRays, Crosses, IsInRun, IsRay, IsExtent}
use Rattle.sight.specs.declared.family.Family.{Family}
use Rattle.sight.specs.declared.extent.Extent.{Extent}
use Rattle.sight.proofs.Ranking.{slice_get-front, slice_get-last}

-- let `rays` lead to each flagged cell of lines before n, and of line n before cell c. If the
-- extent has no other cell before line k, `rays` lead to each flagged cell before line k.
lines_passed : (f : Family) (w : Extent) (flags : List Bool) (n c k : ℕ) (rays : List Target) → n < k →
    length rays ≤ k * 4096 → ((m y : ℕ) → m < k → Crosses f w m → IsInRun w.side y → (m < n) ⊎ ((m ≡ n) × (y < c))) →
    AreRays f w flags n c rays → AreRays f w flags k 0 rays
lines_passed f w flags n c k rays less few none_between are = record {
  few = omega (arith, few);
  each =
      λ u t at.
      let is = are.each u t at in
      (is.0, omega arith);
  sorted = are.sorted;
  whole = λ m y before crosses in_run flagged. elim before [
    | inl h ↦ are.whole m y (none_between m y h crosses in_run) crosses in_run flagged
    | inr h ↦ absurd (omega arith)
  ];
}

pub line_ended : (f : Family) (w : Extent) (flags : List Bool) (n c : ℕ) (rays : List Target) →
    w.side.first + w.side.cells ≤ c → c ≤ 4096 → AreRays f w flags n c rays → AreRays f w flags (n + 1) 0 rays
line_ended f w flags n c rays all few are =
    lines_passed f w flags n c _ rays (omega arith) (omega arith) (λ m y h crosses in_run. elim (cases_lt m n) [
      | inl less ↦ inl less
      | inr not ↦ inr (omega arith, omega arith)
    ]) are

pub line_passed : (f : Family) (w : Extent) (flags : List Bool) (n : ℕ) (rays : List Target) → (Crosses f w n → ⊥) →
    AreRays f w flags n 0 rays → AreRays f w flags (n + 1) 0 rays
line_passed f w flags n rays not_there are =
    lines_passed f w flags n 0 _ rays (omega arith) (omega arith) (λ m y h crosses in_run. elim (cases_lt m n) [
      | inl less ↦ inl less
      | inr not ↦
          let m_is : m ≡ n = omega arith in
          absurd (not_there (subst (λ (k : ℕ). Crosses f w k) m_is crosses))
    ]) are

pub cell_passed : (f : Family) (w : Extent) (flags : List Bool) (n c : ℕ) (rays : List Target) →
    flag_in_extent w (lead_of f n) c flags ≡ false → AreRays f w flags n c rays → AreRays f w flags n (c + 1) rays
cell_passed f w flags n c rays unflagged are = record {
  few = omega arith;
  each = are.each;
  sorted = are.sorted;
  whole = λ m y before crosses in_run flagged. elim before [
    | inl h ↦ are.whole m y (inl h) crosses in_run flagged
    | inr h ↦ elim (cases_lt y c) [
      | inl less ↦ are.whole m y (inr (h.0, less)) crosses in_run flagged
      | inr not ↦
          let y_is : y ≡ c = omega arith in
          let here =
          ap (λ k. flag_in_extent w (lead_of f k) y flags) h.0 ∙
          ap (λ k. flag_in_extent w (lead_of f n) k flags) y_is in
          absurd cc
    ]
  ];
}

pub cell_taken : (f : Family) (w : Extent) (flags : List Bool) (n c : ℕ) (rays : List Target) → IsFamily f →
    IsExtent f w flags → Crosses f w n → IsInRun w.side c → AreRays f w flags n c rays →
    AreRays f w flags n (c + 1) (rays ++ target_at f n c ∷ [])
cell_taken f w flags n c rays is_f is_w crosses in_run are =
    let t = target_at f n c in
    let stands : IsAtCell f c t = record {
      offset = refl;
      first = omega (arith, is_w.first, in_run);
      side = omega (arith, is_w.side, in_run);
      line = crosses.line;
    } in
    let old : (u : ℕ) (s : Target) → u < length rays → slice_get (rays ++ t ∷ []) u ≡ Some s →
    slice_get rays u ≡ Some s = λ u s less at. sym (slice_get-front rays t u less) ∙ at in
    let new : (u : ℕ) (s : Target) → length rays ≤ u → slice_get (rays ++ t ∷ []) u ≡ Some s → t ≡ s =
    λ u s not at.
    let u_is : u ≡ length rays = omega (
      arith,
      slice_get_within (rays ++ t ∷ []) u s at,
      length-append rays (t ∷ []),
    ) in
    same_Some t s (sym (slice_get-last rays t) ∙ ap (slice_get (rays ++ t ∷ [])) (sym u_is) ∙ at) in
    record {
      few = omega (arith, are.few, in_run, length-append rays (t ∷ []));
      each = λ u s at. elim (cases_lt u (length rays)) [
        | inl less ↦ are.each u s (old u s less at)
        | inr not ↦
            let P : Target → Type 0 = λ r. IsRay f w r × (r.line ≤ n) in
            subst P (new u s not at)
            (record { cell = c; stands = stands; within = in_run; crosses = crosses }, omega arith)
      ];
      sorted = λ u v r s le at_r at_s. elim (cases_lt v (length rays)) [
        | inl less ↦ are.sorted u v r s le (old u r (omega arith) at_r) (old v s less at_s)
        | inr not ↦
            let last = new v s not at_s in
            elim (cases_lt u (length rays)) [
              | inl before ↦ omega (arith, (are.each u r (old u r before at_r)).1, ap (λ q. q.line) last)
              | inr also ↦
                  let first = new u r also at_r in
                  omega (arith, ap (λ q. q.line) last, ap (λ q. q.line) first)
            ]
      ];
      whole = λ m y before crossed in_y flagged.
          let kept : (u : ℕ) × (slice_get rays u ≡ Some (target_at f m y)) →
          (u : ℕ) × (slice_get (rays ++ t ∷ []) u ≡ Some (target_at f m y)) =
          λ was. (was.0, slice_get-front rays t _ (slice_get_within rays was.0 (target_at f m y) was.1) ∙ was.1) in
          elim before [
            | inl h ↦ kept (are.whole m y (inl h) crossed in_y flagged)
            | inr h ↦ elim (cases_lt y c) [
              | inl less ↦ kept (are.whole m y (inr (h.0, less)) crossed in_y flagged)
              | inr not ↦
                  let y_is : c ≡ y = omega (arith, h.1) in
                  let here = ap (λ k. target_at f k c) (sym h.0) ∙ ap (λ k. target_at f m k) y_is in
                  (length rays, slice_get-last rays t ∙ ap (λ q. Some q) here)
            ]
          ];
    }

pub all_gathered : (f : Family) (w : Extent) (flags : List Bool) (n : ℕ) (rays : List Target) → n ≤ 4096 →
    ((m : ℕ) → Crosses f w m → m < n) → AreRays f w flags n 0 rays → AreRays f w flags 4097 0 rays
all_gathered f w flags n rays few end are =
    lines_passed f w flags n 0 4097 rays (omega arith) (omega arith) (λ m y h crosses in_run. inl (end m crosses)) are
