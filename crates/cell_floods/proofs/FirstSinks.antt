-- The list of a rectangle's sinks is made place by place.
use Rattle.std.proofs.Common.{◌≡◌, ℕ, ◌+◌, ◌*◌, ◌<◌, inl, inr, Bool, true, false, List, length, get_or, set, ◌∙◌, sym, ap, subst, arith}
use Rattle.std.specs.List.{Contains}
use Rattle.std.proofs.lemmas.Bool.{both_ways, cases_eq}
use Rattle.std.proofs.lemmas.List.{length-set, get_or-set_same, get_or-set_other, get_or_default}
use Rattle.terrain.specs.declared.place.Place.{Place}
use Rattle.tiles.specs.declared.bounds.Bounds.{Bounds}
use Rattle.tiles.specs.Cutting.{IsInBounds, is_in_bounds}
use Rattle.tiles.proofs.Cut.{in_bounds_from}
use Rattle.cell_floods.specs.Cells.{is_sink, node_at}
use Rattle.cell_floods.proofs.Rectangles.{node_injective}

-- `sinks` has a flag for each node of the rectangle and its border. Each place of the rectangle
-- whose flag is set is one of `places`. Of the first `count` of `places`, each in the rectangle has
-- its flag set.
pub record HasFirstSinks (w : Bounds) (places : List Place) (count : ℕ) (sinks : List Bool) :
    Type 0 where
  pub size : length sinks ≡ (w.rows + 2) * (w.cols + 2)
  pub only : (p : Place) → IsInBounds w p → is_sink sinks (node_at w p) ≡ true → Contains places p
  pub every : (k : ℕ) (d : Place) → k < count → IsInBounds w (get_or places k d) →
      is_sink sinks (node_at w (get_or places k d)) ≡ true

pub one_more : (w : Bounds) (places : List Place) (i node : ℕ) (p d : Place) (sinks : List Bool) →
    i < length places → get_or places i d ≡ p →
    IsInBounds w p → node ≡ node_at w p → node < length sinks → HasFirstSinks w places i sinks →
    HasFirstSinks w places (i + 1) (set sinks node true)
one_more w places i node p d sinks below at inside is low s = record {
  size = length-set sinks node true ∙ s.size;
  only = λ q within e. elim (cases_eq (node_at w q) node) [
    | inl same ↦ (
      i,
      below,
      get_or_default places i q d below ∙ at ∙ sym (node_injective w q p within inside (same ∙ is)),
    )
    | inr other ↦ s.only q within (sym (get_or-set_other sinks node (node_at w q) true false other)
        ∙ e)
  ];
  every = λ k e less within. elim (cases_eq (node_at w (get_or places k e)) node) [
    | inl same ↦ ap (is_sink (set sinks node true)) same ∙ get_or-set_same sinks node true false low
    | inr other ↦ elim (cases_eq k i) [
      | inl last ↦ absurd (other (ap (λ n. node_at w (get_or places n e)) last
          ∙ ap (node_at w) (get_or_default places i e d below ∙ at) ∙ sym is))
      | inr before ↦ get_or-set_other sinks node (node_at w (get_or places k e)) true false other
          ∙ s.every k e (omega (arith, less, before)) within
    ]
  ];
}

pub one_outside : (w : Bounds) (places : List Place) (i : ℕ) (p d : Place) (sinks : List Bool) →
    i < length places → get_or places i d ≡ p → is_in_bounds w p ≡ false →
    HasFirstSinks w places i sinks → HasFirstSinks w places (i + 1) sinks
one_outside w places i p d sinks below at outside s = record {
  size = s.size;
  only = s.only;
  every = λ k e less within. elim (cases_eq k i) [
    | inl last ↦
        let same = ap (λ n. get_or places n e) last ∙ get_or_default places i e d below ∙ at in
        absurd (both_ways (is_in_bounds w p) outside
        (in_bounds_from w p (subst (IsInBounds w) same within)))
    | inr before ↦ s.every k e (omega (arith, less, before)) within
  ];
}
