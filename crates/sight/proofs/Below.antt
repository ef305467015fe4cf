-- The ramp of ground of one height hides all that a family's line blocks, if no cell near the
-- targets' rays is higher. A ray leads from the observer to a target, seen from above. A family's
-- lines are the columns, or the rows, on one side of the observer.
use Rattle.std.proofs.Common.{arith, refl, sym, ap, ◌∙◌, ◌≡◌, ◌+◌, ◌-◌, ◌<◌, ◌≤◌, ◌⊎◌, ℕ, ℤ, pos, ◌+ℤ◌, ◌-ℤ◌, ◌*ℤ◌, ◌≤ℤ◌, ◌<ℤ◌, true, List, length, Option, None, Some, get_or, inl, inr}
use borrow.Author.Differences.{true_is_lt}
use Rattle.std.specs.Int.{int_div_euclid}
use Rattle.std.specs.Prelude.{slice_get}
use Rattle.std.proofs.lemmas.Int.{ints, by_lt_z}
use Rattle.std.proofs.lemmas.Bool.{cases_lt}
use Rattle.std.proofs.lemmas.Option.{slice_get-get_or}
use Rattle.horizons.specs.declared.target.Target.{Target}
use Rattle.horizons.specs.declared.ramp.Ramp.{Ramp}
use Rattle.horizons.specs.Horizons.{AreTargets, IsSlopeUpTo, ramp_hides, ramp_value}
use Rattle.horizons.proofs.Straight.{slope_up}
use Rattle.sightlines.specs.Blocks.{IsTopOf}
use Rattle.sight.specs.Hiding.{line_height}
use Rattle.sight.specs.Sweep.{offset_of, constant_ramp, line_blocks, ramp_of, IsFamily, Passes, PassesAmong, IsShadow, IsAtCell}
use Rattle.sight.specs.declared.family.Family.{Family}
use Rattle.sight.proofs.Laid.{grows}
use Rattle.sight.proofs.Rays.{low_onward, next_inside}
use Rattle.sight.proofs.Spans.{floor_low, floor_high, near_index, none_outside, nothing_near, nothing_far, past, ramp_between, shows_centre, shows_ramp, at_cell_past}

pub smaller : (a b : ℤ) (n : ℕ) → (a *ℤ pos n) <ℤ ((b +ℤ pos 1) *ℤ pos n) → a ≤ℤ b
smaller a b n less =
    by_lt_z b a (λ past. absurd (omega (arith, ints, less, grows (b +ℤ pos 1) a n (omega (arith, ints, past)))))
    (λ is. is)

-- if s has at most the slope of t, its ray crosses line k at an offset at most that of t's ray
offsets_rise : (k : ℕ) (a b : ℤ) (s t : Target) → 0 < s.line → 0 < t.line → IsSlopeUpTo s t → Passes k a s →
    Passes k b t → a ≤ℤ b
offsets_rise k a b s t some more slope low high =
    let on = low_onward a s.offset t.offset _ t.line k some slope low.low in
    smaller a b t.line (omega (arith, ints, on))

pub passes_one : (k : ℕ) (offset : ℤ) (t : Target) → PassesAmong k offset offset t → Passes k offset t
passes_one k offset t among = record { low = among.low; high = among.high }

pub among_shows : (cells : List (Option ℤ)) (f : Family) (k : ℕ) (first last : ℤ) (ramp : Ramp) (t : Target) →
    0 < t.line → PassesAmong k first last t → (Passes k first t → IsShadow cells f k t ramp) →
    ((b : ℤ) → first <ℤ b → b ≤ℤ last → Passes k b t → IsShadow cells f k t ramp) → IsShadow cells f k t ramp
among_shows cells f k first last ramp t some among here onward =
    let x = t.offset *ℤ pos k in
    let b = int_div_euclid x (pos t.line) in
    let passes : Passes k b t = record { low = floor_low x _ some; high = floor_high x _ some } in
    let below = smaller b last t.line (omega (arith, ints, passes.low, among.high)) in
    by_lt_z first b (λ past. onward b past below passes) (λ not.
    here (record {
      low = among.low;
      high = omega (
        arith,
        ints,
        passes.high,
        grows (b +ℤ pos 1) (first +ℤ pos 1) t.line (omega (arith, ints, not)),
      );
    }))

-- let target t have an index from `from` to below `end`. Its ray crosses line k at an offset from
-- `low`, that of the first of these targets, to `high`, that of the last.
pub passes_between : (targets : List Target) (none : Target) (k from end i : ℕ) (low high : ℤ) (t : Target) →
    AreTargets targets → end ≤ length targets → Passes k low (get_or targets from none) →
    Passes k high (get_or targets (end - 1) none) → from ≤ i → i < end → slice_get targets i ≡ Some t →
    (offset : ℤ) × Passes k offset t × (low ≤ℤ offset) × (offset ≤ℤ high)
passes_between targets none k from end i low high t are few first last a b at =
    let s = get_or targets from none in
    let u = get_or targets (end - 1) none in
    let at_s = slice_get-get_or targets from none (omega arith) in
    let at_u = slice_get-get_or targets (end - 1) none (omega arith) in
    let t_line = (are.each i t at).line.0 in
    let x = t.offset *ℤ pos k in
    let offset = int_div_euclid x (pos t.line) in
    let passes : Passes k offset t = record { low = floor_low x _ t_line; high = floor_high x _ t_line } in (
      offset,
      passes,
      offsets_rise k low offset s t (are.each from s at_s).line.0 t_line (slope_up targets from i s t are a at_s at)
          first passes,
      offsets_rise k offset high t u t_line (are.each (end - 1) u at_u).line.0
          (slope_up targets i (end - 1) t u are (omega arith) at at_u) passes last,
    )

-- two neighbours, or one cell twice, whose ground's ramp on line k hides the target
record Blocker (cells : List (Option ℤ)) (f : Family) (k : ℕ) (offset rise : ℤ) (t : Target) :
    Type 0 where
  pub cell : ℕ
  pub next : ℕ
  pub near : ℤ
  pub far : ℤ
  pub at : pos cell ≡ pos f.side.at +ℤ offset
  pub beside : (next ≡ cell) ⊎ (next ≡ cell + 1)
  pub inside : (cell < f.side.cells) × (next < f.side.cells)
  pub here : line_height cells f k cell ≡ Some near
  pub there : line_height cells f k next ≡ Some far
  pub hides : ramp_hides (ramp_of f k offset near far) t rise ≡ true

blocker : (cells : List (Option ℤ)) (f : Family) (k y : ℕ) (offset rise : ℤ) (t : Target) → IsFamily f →
    IsAtCell f y t → k < t.line → Passes k offset t → line_blocks cells f t.line y rise k ≡ true →
    Blocker cells f k offset rise t
blocker cells f k y offset rise t is stands later passes blocks =
    let cell = none_outside f k y offset t is stands later passes in
    let c = cell.0 in
    let m = past k offset t passes in
    elim (get_or cells (near_index f k c) None) as
    (λ h. get_or cells (near_index f k c) None ≡ h → Blocker cells f k offset rise t) [
      | None ↦
          λ none.
          let no = nothing_near cells f k c y offset rise t stands later passes cell.1 none in
          absurd cc
      | Some near ↦ λ here. elim (cases_lt 0 m.0) [
        | inl part ↦ elim (get_or cells (near_index f k c + f.side.stride) None) as
            (λ h. get_or cells (near_index f k c + f.side.stride) None ≡ h → Blocker cells f k offset rise t) [
              | None ↦ λ none.
                  let no =
                  nothing_far cells f k c y offset rise near t stands later passes cell.1 here none
                  (omega (arith, ints)) in
                  absurd cc
              | Some far ↦ λ there.
                  let index : near_index f k (c + 1) ≡ near_index f k c + f.side.stride = omega arith in
                  record {
                    cell = c;
                    next = c + 1;
                    near = near;
                    far = far;
                    at = cell.1;
                    beside = inr refl;
                    inside = (
                      cell.2,
                      next_inside _ y _ c t.line k _ offset is.side stands.side (omega arith) part
                          (at_cell_past f k m.0 y offset t stands m.2) cell.1,
                    );
                    here = here;
                    there = ap (λ n. get_or cells n None) index ∙ there;
                    hides = shows_ramp cells f k c y offset near far rise t stands later passes cell.1 here there ∙
                        blocks;
                  }
            ] refl
        | inr none ↦
            let centre : (t.offset *ℤ pos k) ≡ offset *ℤ pos t.line = omega (arith, ints) in
            record {
              cell = c;
              next = c;
              near = near;
              far = near;
              at = cell.1;
              beside = inl refl;
              inside = (cell.2, cell.2);
              here = here;
              there = here;
              hides = shows_centre cells f k c y offset near rise t stands later centre cell.1 here ∙ blocks;
            }
      ]
    ] refl

-- if the ground between two cells hides a target, so does ground of a height that neither exceeds
constant_hides : (f : Family) (k : ℕ) (offset near far top rise : ℤ) (t : Target) → Passes k offset t → near ≤ℤ top →
    far ≤ℤ top → ramp_hides (ramp_of f k offset near far) t rise ≡ true →
    ramp_hides (constant_ramp f k top) t rise ≡ true
constant_hides f k offset near far top rise t passes a b hides =
    let m = past k offset t passes in
    let few = grows (near -ℤ f.eye) (top -ℤ f.eye) (t.line - m.0) (omega (arith, ints, a)) in
    let rest = grows (far -ℤ f.eye) (top -ℤ f.eye) m.0 (omega (arith, ints, b)) in
    let n_is : (t.line - m.0) + m.0 ≡ t.line = omega (arith, m.1) in
    let whole =
    sym (joined (top -ℤ f.eye) t.offset (t.line - m.0) m.0 ∙
    ap (λ n. (pos 0 *ℤ t.offset) +ℤ ((top -ℤ f.eye) *ℤ pos n)) n_is) in
    sym (true_is_lt (rise *ℤ pos k) (ramp_value (constant_ramp f k top) t)
    (omega (arith, ints, hides, ramp_between f k _ offset near far t m.1 m.2, few, rest, whole)))
  where
    joined : (e j : ℤ) (r m : ℕ) → (e *ℤ pos r) +ℤ (e *ℤ pos m) ≡ (pos 0 *ℤ j) +ℤ (e *ℤ pos (r + m))
    joined e j r m = omega (arith, ints)

-- no cell of line k before the side's end, from offset `low` to `high + 1`, is above `top`; if
-- `top` is None, none of these cells has data
abbrev pub IsTopNear : List (Option ℤ) → Family → ℕ → ℤ → ℤ → Option ℤ → Type 0
IsTopNear cells f k low high top =
    (c : ℕ) (h : ℤ) → c < f.side.cells → low ≤ℤ offset_of f c → offset_of f c ≤ℤ (high +ℤ pos 1) →
    line_height cells f k c ≡ Some h → IsTopOf top h

pub none_blocks : (cells : List (Option ℤ)) (f : Family) (k y : ℕ) (low high offset rise : ℤ) (t : Target) →
    IsFamily f → IsAtCell f y t → k < t.line → Passes k offset t → low ≤ℤ offset → offset ≤ℤ high →
    IsTopNear cells f k low high None → line_blocks cells f t.line y rise k ≡ true → ⊥
none_blocks cells f k y low high offset rise t is stands later passes a b none blocks =
    let by = blocker cells f k y offset rise t is stands later passes blocks in
    none by.cell by.near by.inside.0 (omega (arith, ints, a)) (omega (arith, ints, b)) by.here

pub top_blocks :
    (cells : List (Option ℤ)) (f : Family) (k y : ℕ) (low high offset rise top : ℤ) (t : Target) →
    IsFamily f → IsAtCell f y t → k < t.line → Passes k offset t → low ≤ℤ offset → offset ≤ℤ high
    → IsTopNear cells f k low high (Some top) → line_blocks cells f t.line y rise k ≡ true →
    ramp_hides (constant_ramp f k top) t rise ≡ true
top_blocks cells f k y low high offset rise top t is stands later passes a b near blocks =
    let by = blocker cells f k y offset rise t is stands later passes blocks in
    let next : (pos by.next ≡ pos by.cell) ⊎ (pos by.next ≡ pos by.cell +ℤ pos 1) =
    elim by.beside [ inl same ↦ inl (ap pos same) | inr more ↦ inr (omega (arith, ints, more)) ] in
    let above : low ≤ℤ offset_of f by.next = elim next [
      | inl same ↦
          omega (arith, ints, same, a)
      | inr more ↦ omega (arith, ints, more, a)
    ] in
    let below : offset_of f by.next ≤ℤ (high +ℤ pos 1) = elim next [
      | inl same ↦
          omega (arith, ints, same, b)
      | inr more ↦ omega (arith, ints, more, b)
    ] in
    constant_hides f k offset _ _ top rise t passes
    (near by.cell by.near by.inside.0 (omega (arith, ints, a))
    (omega (arith, ints, b)) by.here)
    (near by.next by.far by.inside.1 above below by.there) by.hides
