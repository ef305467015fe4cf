-- Ray by ray, the targets of flagged cells are raised over a family's lines. Two opposite families
-- raise them over all columns, or all rows.
use Rattle.std.proofs.Common.{arith, sym, ap, subst, inl, inr, ◌∙◌, ◌≡◌, ℕ, ◌+◌, ◌-◌, ◌*◌, ◌<◌, ◌≤◌, Bool, true, false, ℤ, List, length, get_or, set, Option, Some}
use Rattle.std.specs.Prelude.{slice_get}
use Rattle.std.proofs.lemmas.Bool.{cases_lt, cases_eq, cases_Bool}
use Rattle.std.proofs.lemmas.Nat.{mul-le}
use Rattle.std.proofs.lemmas.List.{get_or-set_same, get_or-set_other, length-set}
use Rattle.horizons.specs.declared.target.Target.{Target}
use Rattle.sightlines.specs.Sight.{highest_eye}
use Rattle.sightlines.specs.Walk.{AreHeights, walk_blocks}
use Rattle.sightlines.proofs.Heights.{ground_is_height}
use Rattle.std.proofs.lemmas.Int.{ints}
use Rattle.sight.specs.Sweep.{lead_of, IsAtCell, IsFamily, IsRise}
use Rattle.sight.specs.Hiding.{flag_in_extent, flag_index, line_height, lines_block_at, rise_at, AreRays, Crosses, IsApart, IsExtent, IsInRun, IsRay}
use Rattle.sight.specs.Raising.{AreClear, AreRaised, AreTargetHeights, IsRaised, IsRaisedIn, target_in_extent}
use Rattle.sight.specs.Sides.{facing, sightline_to}
use Rattle.sight.specs.declared.family.Family.{Family}
use Rattle.sight.specs.declared.extent.Extent.{Extent}
use Rattle.sight.proofs.EachRay.{AreMetBelow, all_met, ray_met}
use Rattle.sight.proofs.BothSides.{both_met, lines_block, none_between}

raised_on : (blocked : ℕ → Bool) (a b c : ℕ) → IsRaised blocked a b → IsRaised blocked b c → IsRaised blocked a c
raised_on blocked a b c one two = record {
  rises = omega arith;
  most = two.most;
  clear = two.clear;
  hidden = λ less. elim (cases_lt b c) [
    | inl more ↦ two.hidden more
    | inr same ↦
        let e : b ≡ c = omega arith in
        subst (λ (k : ℕ). blocked (k - 1) ≡ true) e (one.hidden (omega arith))
  ];
}

pub raised_same : (p q : ℕ → Bool) (a b : ℕ) → ((h : ℕ) → p h ≡ q h) → IsRaised p a b → IsRaised q a b
raised_same p q a b same is = record {
  rises = is.rises;
  most = is.most;
  clear = λ few. sym (same b) ∙ is.clear few;
  hidden = λ less. sym (same (b - 1)) ∙ is.hidden less;
}

pub set_low : (targets : List ℕ) (i v : ℕ) → i < length targets → v ≤ highest_eye + 1 → AreTargetHeights targets →
    AreTargetHeights (set targets i v)
set_low targets i v within few low k = elim (cases_eq k i) [
  | inl same ↦
      let at = ap (λ j. get_or (set targets i v) j 0) same ∙ get_or-set_same targets i v 0 within in
      omega (arith, at)
  | inr other ↦ omega (arith, get_or-set_other targets i k v 0 other)
]

pub ray_raised :
    (cells : List (Option ℤ)) (f : Family) (w : Extent) (flags : List Bool) (rays : List Target) (n : ℕ)
    (old mid : List ℕ) (t : Target) (y v : ℕ) → IsApart w → flag_index w (lead_of f t.line) y < length mid →
    slice_get rays n ≡ Some t → IsAtCell f y t → IsInRun w.side y → Crosses f w t.line →
    IsRaised (lines_block_at cells f t.line y) (target_in_extent w (lead_of f t.line) y mid) v →
    AreMetBelow 0 (IsRaisedIn cells f w flags) f w rays n old mid →
    AreMetBelow 0 (IsRaisedIn cells f w flags) f w rays (n + 1) old (set mid (flag_index w (lead_of f t.line) y) v)
ray_raised cells f w flags rays n old mid t y v apart within at_t stands in_y crosses raised were =
    let i = flag_index w (lead_of f t.line) y in
    let blocked = lines_block_at cells f t.line y in
    let whole : IsRaisedIn cells f w flags t.line y (target_in_extent w (lead_of f t.line) y old) v =
    λ flagged. elim (were.crossed t.line y crosses in_y) [
      | inl met ↦ raised_on blocked _ _ v (met flagged) raised
      | inr e ↦ subst (λ (k : ℕ). IsRaised blocked k v) e.0 raised
    ] in
    ray_met 0 (IsRaisedIn cells f w flags) f w rays n old mid (set mid i v) t y apart at_t stands in_y crosses
    (length-set mid i v) (λ k other. get_or-set_other mid i k v 0 other) (subst
    (IsRaisedIn cells f w flags t.line y (target_in_extent w (lead_of f t.line) y old))
    (sym (get_or-set_same mid i v 0 within)) whole) were

pub all_raised :
    (cells : List (Option ℤ)) (f : Family) (w : Extent) (rays : List Target) (flags : List Bool) (old new : List ℕ) →
    AreRays f w flags 4097 0 rays → AreTargetHeights new →
    AreMetBelow 0 (IsRaisedIn cells f w flags) f w rays (length rays) old new → AreRaised cells f w flags old new
all_raised cells f w rays flags old new are most met = record {
  most = most;
  met = all_met 0 (IsRaisedIn cells f w flags) f w rays old new (λ n y crosses in_y.
      elim (cases_Bool (flag_in_extent w (lead_of f n) y flags)) [
        | inl flagged ↦ inr (are.whole n y (inl (omega arith)) crosses in_y flagged)
        | inr unflagged ↦ inl (λ flagged. absurd cc)
      ]) met;
}

pub both_sides_raised : (cells : List (Option ℤ)) (f : Family) (w : Extent) (flags : List Bool) (old mid new : List ℕ) →
    f.lines.at < 4096 → w.lines.first + w.lines.cells ≤ 4096 → AreTargetHeights old →
    AreRaised cells (facing f false) w flags old mid → AreRaised cells (facing f true) w flags mid new →
    AreClear cells f w flags old new
both_sides_raised cells f w flags old mid new few inside most one two = record {
  size = two.met.size ∙ one.met.size;
  most = two.most;
  each = λ x y in_x in_y flagged.
      let walked : ℕ → Bool = λ h. walk_blocks cells (sightline_to cells f h x y) in
      both_met 0 (λ back. IsRaisedIn cells (facing f back) w flags) f w old mid new few inside one.met two.met x y in_x
      in_y (λ a b. a ≤ highest_eye + 1 → IsRaised walked a b) (λ back n at away a b is low.
      raised_same _ walked a b (λ h. sym (lines_block cells (facing f back) h n x y at away))
      (is (ap (λ z. flag_in_extent w z y flags) at ∙ flagged))) (λ a near low. record {
        rises = omega arith;
        most = low;
        clear = λ few. none_between cells (sightline_to cells f a x y) near;
        hidden = λ less. absurd (omega arith);
      }) (most (flag_index w x y));
}

-- a target raised over what the horizon hides is raised over the lines before its own
pub raised_by : (p q : ℕ → Bool) (a b : ℕ) → ((h : ℕ) → h ≤ highest_eye → p h ≡ q h) → IsRaised p a b → IsRaised q a b
raised_by p q a b same is = record {
  rises = is.rises;
  most = is.most;
  clear = λ few. sym (same b few) ∙ is.clear few;
  hidden = λ less. sym (same (b - 1) (omega arith)) ∙ is.hidden less;
}

-- the index of a ray's cell is below the number of flags, and its bytes fit in 64 bits
pub ray_index : (f : Family) (w : Extent) (flags : List Bool) (t : Target) (i : ℕ) → IsFamily f → IsExtent f w flags →
    IsRay f w t → ((y : ℕ) → IsAtCell f y t → i ≡ flag_index w (lead_of f t.line) y) →
    (i < length flags) × (i ≤ 2 * 4096 * 4096)
ray_index f w flags t i is_f is_w ray at =
    let x = lead_of f t.line in
    let y = ray.cell in
    let here = at y ray.stands in
    let inside = is_w.inside (x - w.lines.first) (y - w.side.first) (omega arith) (omega arith) in
    let row = mul-le (x - w.lines.first) w.lines.stride 4096 4096 (omega arith) is_w.strides.0 in
    let cell = mul-le (y - w.side.first) w.side.stride 4096 4096 (omega arith) is_w.strides.1 in
    (omega (arith, here, inside), omega (arith, here, row, cell))

-- the rise of a target at a height within its limit is within its limit
pub rise_small : (cells : List (Option ℤ)) (f : Family) (h n y : ℕ) → AreHeights cells → IsFamily f → h ≤ highest_eye →
    IsRise (rise_at cells f h n y)
rise_small cells f h n y heights is few =
    let ground =
    ground_is_height (line_height cells f n y)
    (λ z at. heights (lead_of f n * f.lines.stride + y * f.side.stride) z at) in
    omega (arith, ints, ground, few)
