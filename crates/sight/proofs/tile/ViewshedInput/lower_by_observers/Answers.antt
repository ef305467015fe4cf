use Rattle.std.proofs.Common.{◌+◌, ◌*◌, ℕ, List, Option, take, sym, subst, arith}
use Rattle.std.proofs.lemmas.Bool.{OnFalse_at}
use Rattle.std.proofs.lemmas.List.{take_all}
use Rattle.tile_maps.specs.Maps.{IsMadeUpTo}
use Rattle.terrain.specs.declared.observer.Observer.{Observer}
use Rattle.sight.specs.Rise.{IsRiseAt}
use Rattle.sight.proofs.Refused.{lawful_from}
use Rattle.sight.proofs.Lowering.{tile_lowered, tile_kept, limits_low}
use Rattle.sight.proofs.tile.ViewshedInput.lower_by_observers.Goals as goal
use Rattle.sight.proofs.tile.ViewshedInput.lower_by_observers.Goals.{then-reaches+in_ok-lower_values, else-reaches}

pub reaches-requires-clause-observer : goal.reaches-requires-clause-observer
reaches-requires-clause-observer g c =
    let self = c.args.self.now in
    (lawful_from self.grid.now.terrain _ _ self.radius self.faultless).inside c.loop-observer.observer-index _
    c.loop-observer-test.true

pub lower_values-requires-clause-observer : goal.lower_values-requires-clause-observer
lower_values-requires-clause-observer g c =
    let self = c.args.self.now in
    (lawful_from self.grid.now.terrain _ _ self.radius self.faultless).inside c.loop-observer.observer-index _
    c.loop-observer-test.true

pub lower_values-requires-clause-eye : goal.lower_values-requires-clause-eye
lower_values-requires-clause-eye g c =
    let self = c.args.self.now in
    (lawful_from self.grid.now.terrain _ _ self.radius self.faultless).eyes_low c.loop-observer.observer-index _
    c.loop-observer-test.true

pub lower_values-requires-clause-low : goal.lower_values-requires-clause-low
lower_values-requires-clause-low g c =
    let self = c.args.self.now in
    limits_low self.grid.now.terrain (take c.loop-observer.observer-index self.observers.now) self.radius _ _
    c.loop-observer.invariant

pub loop-observer-preserved : goal.loop-observer-preserved
loop-observer-preserved g c =
    let self = c.args.self.now in
    let t = self.grid.now.terrain in
    let i = c.loop-observer.observer-index in
    let nobody : Observer = record { row = 0; col = 0; eye = 0 } in
    let Made : List (Option ℕ) → Type 0 =
    λ values.
    IsMadeUpTo c.args.bounds (IsRiseAt t (take (i + 1) self.observers.now) self.radius)
    (c.args.bounds.rows * c.args.bounds.cols) values in
    elim c.if-reaches.branch [
      | then-reaches+in_ok-lower_values w ↦ subst Made (sym w.values-is) (tile_lowered t self.observers.now _ i nobody _
          _ _ c.loop-observer-test.true c.loop-observer.invariant w.lower_values.auto.values
          w.in_ok-lower_values.ensures)
      | else-reaches w ↦ subst Made (sym w.values-is) (tile_kept t self.observers.now _ i nobody _ _
          c.loop-observer-test.true c.loop-observer.invariant (OnFalse_at w.if-reaches.false c.reaches.ensures))
    ]

pub returns : goal.returns
returns g c =
    let self = c.args.self.now in
    let b = c.args.bounds in
    let all = take_all c.loop-observer.observer-index self.observers.now (omega arith) in
    subst (λ (os : List Observer).
    IsMadeUpTo b (IsRiseAt self.grid.now.terrain os self.radius) (b.rows * b.cols) c.loop-observer.values) all
    c.loop-observer.invariant
