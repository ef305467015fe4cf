use Rattle.std.proofs.Common.{arith, sym, subst, inl, inr, ◌∙◌, ◌+◌, ◌<◌, ◌≤◌, ℕ, get_or, set, length, Option, None}
use Rattle.std.proofs.lemmas.Bool.{cases_eq}
use Rattle.std.proofs.lemmas.List.{get_or_default, get_or-set_same, get_or-set_other}
use Rattle.terrain.specs.declared.place.Place.{Place}
use Rattle.sightlines.specs.Sight.{highest_eye}
use Rattle.tiles.specs.Cutting.{place_in}
use Rattle.sight.specs.Lowered.{IsLowered, limit_of}
use Rattle.sight.proofs.tile.ViewshedInput.lower_by_walks.Goals as goal

pub lowered-requires-clause-value : goal.lowered-requires-clause-value
lowered-requires-clause-value c =
    let i = c.loop-index.index in
    let is =
    c.index-values-index.is ∙ get_or_default c.loop-index.values i c.index-values-index.result None (omega arith) ∙
    c.loop-index.invariant.left i (omega arith) in
    subst (λ (v : Option ℕ). limit_of v ≤ highest_eye + 1) (sym is) (c.requires.low i)

pub loop-index-preserved : goal.loop-index-preserved
loop-index-preserved c =
    let self = c.args.self.now in
    let t = self.grid.now.terrain in
    let o = c.args.observer.now in
    let i = c.loop-index.index in
    let old = c.args.values.now in
    let values = c.loop-index.values in
    let new = c.lowered.result in
    let room : i < length values = omega arith in
    let is =
    c.index-values-index.is ∙ get_or_default values i c.index-values-index.result None room ∙
    c.loop-index.invariant.left i (omega arith) in
    let at_place =
    subst (λ (p : Place). IsLowered t o self.radius p c.index-values-index.result new) c.place_in-place.ensures
    c.lowered.ensures in
    let here = subst (λ (v : Option ℕ). IsLowered t o self.radius (place_in c.args.bounds i) v new) is at_place in
    record {
      done = λ k below. elim (cases_eq k i) [
        | inl e ↦
            let set_is = sym (get_or-set_same values i new None room) in
            subst (λ (j : ℕ).
            IsLowered t o self.radius (place_in c.args.bounds j) (get_or old j None)
            (get_or (set values i new) j None)) (sym e) (subst
            (λ (v : Option ℕ). IsLowered t o self.radius (place_in c.args.bounds i) (get_or old i None) v)
            set_is here)
        | inr ne ↦ subst (λ (v : Option ℕ). IsLowered t o self.radius (place_in c.args.bounds k) (get_or old k None) v)
            (sym (get_or-set_other values i k new None ne)) (c.loop-index.invariant.done k (omega arith))
      ];
      left = λ k after.
          get_or-set_other values i k new None (λ e. omega arith) ∙ c.loop-index.invariant.left k (omega arith);
    }
