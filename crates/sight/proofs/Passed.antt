-- If a horizon hides exactly what the lines before line k block, the horizon raised to line k's
-- ground hides what line k blocks too. Lines are the columns, or the rows, on one side of an
-- observer.
use Rattle.std.proofs.Common.{arith, refl, sym, ap, subst, ◌∙◌, ◌≡◌, ℕ, zero, suc, ◌+◌, ◌-◌, ◌<◌, ◌||◌, ◌≤◌, ◌^◌, ℤ, unsigned_abs, Bool, true, false, List, [], length, Option, Some}
use Rattle.std.specs.Prelude.{slice_get}
use Rattle.std.specs.List.{list_any, range_with_len}
use Rattle.std.proofs.lemmas.Option.{same_Some, slice_get_within}
use Rattle.horizons.specs.declared.target.Target.{Target}
use Rattle.horizons.specs.declared.ramp.Ramp.{Ramp}
use Rattle.horizons.specs.declared.horizon.Piece.{Piece}
use Rattle.horizons.specs.Horizons.{IsTarget, AreTargets, IsPushed, IsOver, IsRampAt, target_count, ramp_at, ramp_hides}
use Rattle.sight.specs.Sweep.{IsClear, RaisesBelow, HidesBefore, line_blocks, is_blocked_before}
use Rattle.sight.specs.declared.family.Family.{Family}

or_none : (b : Bool) → (b || false) ≡ b
or_none true = refl
or_none false = refl

or_between : (a b c : Bool) → (a || (b || c)) ≡ ((a || b) || c)
or_between true b c = refl
or_between false b c = refl

pub any_next : (p : ℕ → Bool) (a n : ℕ) →
    list_any p (range_with_len a (n + 1)) ≡ (list_any p (range_with_len a n) || p (a + n))
any_next p a zero =
    let same : a + 0 ≡ a = omega arith in
    rw same (or_none (p a))
any_next p a (suc n) =
    let same : a + 1 + n ≡ a + suc n = omega arith in
    let count : suc n + 1 ≡ suc (n + 1) = omega arith in
    rw count (ap (λ b. p a || b) (any_next p (a + 1) n) ∙
    or_between (p a) (list_any p (range_with_len (a + 1) n)) (p (a + 1 + n)) ∙
    ap (λ i. (p a || list_any p (range_with_len (a + 1) n)) || p i) same)

is_over : (cells : List (Option ℤ)) (f : Family) (targets : List Target) (k : ℕ) (old new : List Piece) →
    target_count new ≡ length targets → RaisesBelow cells f targets k old (length targets) new → IsOver targets new
is_over cells f targets k old new whole raises = record {
  whole = whole;
  each = λ i t r at ramp.
      let raised = raises i t (slice_get_within targets i t at) at in
      let P : Ramp → Type 0 = λ s. IsRampAt s t in
      subst P (same_Some raised.0 r (sym raised.1 ∙ ramp)) raised.2.at;
}

pub hides_next : (cells : List (Option ℤ)) (f : Family) (targets : List Target) (k : ℕ) (old new : List Piece) → 0 < k →
    HidesBefore cells f targets k old → target_count new ≡ length targets →
    RaisesBelow cells f targets k old (length targets) new → HidesBefore cells f targets (k + 1) new
hides_next cells f targets k old new some before whole raises = record {
  over = is_over cells f targets k old new whole raises;
  clear = λ i t r at ramp.
      let raised = raises i t (slice_get_within targets i t at) at in
      subst (λ s. IsClear cells f (k + 1) t s) (same_Some raised.0 r (sym raised.1 ∙ ramp)) raised.2.clear;
  hides = λ i t y rise at stands later is.
      let raised = raises i t (slice_get_within targets i t at) at in
      let count : k + 1 - 1 ≡ (k - 1) + 1 = omega arith in
      let last : 1 + (k - 1) ≡ k = omega arith in
      let next : is_blocked_before cells f t.line y rise (k + 1) ≡
      (is_blocked_before cells f t.line y rise k || line_blocks cells f t.line y rise k) =
      rw count (any_next (line_blocks cells f t.line y rise) 1 (k - 1) ∙
      ap (λ n. is_blocked_before cells f t.line y rise k || line_blocks cells f t.line y rise n) last) in
      rw raised.1 ((raised.2.hides y rise stands (omega arith) is) ∙
      rw (before.hides i t y rise at stands (omega arith) is) (sym next));
}

-- a horizon of one ramp that hides no target hides what the lines before line 1 block: nothing
pub none_hides : (targets : List Target) (ramp : Ramp) (h : List Piece) → AreTargets targets →
    IsPushed [] (length targets) ramp h →
    ((t : Target) (rise : ℤ) → IsTarget t → unsigned_abs rise ≤ 2 ^ 51 → ramp_hides ramp t rise ≡ false) →
    ((t : Target) → IsTarget t → IsRampAt ramp t) → ramp.clear_to ≡ 0 → (cells : List (Option ℤ)) (f : Family) →
    HidesBefore cells f targets 1 h
unfolding target_count
none_hides targets ramp h are pushed below is fresh cells f =
    let at : (i : ℕ) (t : Target) → slice_get targets i ≡ Some t → ramp_at h i ≡ Some ramp =
    λ i t at. pushed.added i (omega arith) (slice_get_within targets i t at) in
    record {
      over = record {
        whole = omega arith;
        each = λ i t r at_t here.
            let P : Ramp → Type 0 = λ s. IsRampAt s t in
            subst P (same_Some ramp r (sym (at i t at_t) ∙ here)) (is t (are.each i t at_t));
      };
      clear = λ i t r at_t here.
          subst (λ s. IsClear cells f 1 t s) (same_Some ramp r (sym (at i t at_t) ∙ here))
          (λ j y rise past below. absurd (omega arith));
      hides = λ i t y rise at_t stands later is_rise. rw (at i t at_t) (below t rise (are.each i t at_t) is_rise);
    }
