use Rattle.std.proofs.Common.{◌+◌, ◌*◌, ℕ, List, Option, take, sym, subst, arith}
use Rattle.std.proofs.lemmas.Bool.{OnFalse_at}
use Rattle.std.proofs.lemmas.List.{take_all}
use Rattle.tile_maps.specs.Maps.{IsMadeUpTo}
use Rattle.sight.specs.Viewed.{HasValue}
use Rattle.terrain.specs.declared.observer.Observer.{Observer}
use Rattle.sight.proofs.Refused.{lawful_from}
use Rattle.sight.proofs.Counting.{seen_counted, unseen_counted, few}
use Rattle.sight.proofs.tile.ViewshedInput.count_observers.Goals as goal
use Rattle.sight.proofs.tile.ViewshedInput.count_observers.Goals.{then-reaches+in_ok-flag_seen, else-reaches}

pub reaches-requires-clause-observer : goal.reaches-requires-clause-observer
reaches-requires-clause-observer g c =
    let self = c.args.self.now in
    (lawful_from self.grid.now.terrain _ _ self.radius self.faultless).inside c.loop-observer.observer-index _
    c.loop-observer-test.true

pub flag_seen-requires-clause-observer : goal.flag_seen-requires-clause-observer
flag_seen-requires-clause-observer g c =
    let self = c.args.self.now in
    (lawful_from self.grid.now.terrain _ _ self.radius self.faultless).inside c.loop-observer.observer-index _
    c.loop-observer-test.true

pub flag_seen-requires-clause-eye : goal.flag_seen-requires-clause-eye
flag_seen-requires-clause-eye g c =
    let self = c.args.self.now in
    (lawful_from self.grid.now.terrain _ _ self.radius self.faultless).eyes_low c.loop-observer.observer-index _
    c.loop-observer-test.true

pub count_seen-requires-clause-few : goal.count_seen-requires-clause-few
count_seen-requires-clause-few g c k n e =
    let self = c.args.self.now in
    let lawful = lawful_from self.grid.now.terrain self.observers.now self.target_height self.radius self.faultless in
    let before =
    few self.grid.now.terrain self.observers.now _ _ c.loop-observer.observer-index _ _ c.loop-observer.invariant k
    n e in
    omega (arith, before)

pub loop-observer-preserved : goal.loop-observer-preserved
loop-observer-preserved g c =
    let self = c.args.self.now in
    let t = self.grid.now.terrain in
    let i = c.loop-observer.observer-index in
    let nobody : Observer = record { row = 0; col = 0; eye = 0 } in
    let Made : List (Option ℕ) → Type 0 =
    λ values.
    IsMadeUpTo c.args.bounds (HasValue t (take (i + 1) self.observers.now) self.target_height self.radius)
    (c.args.bounds.rows * c.args.bounds.cols) values in
    elim c.if-reaches.branch [
      | then-reaches+in_ok-flag_seen w ↦ subst Made (sym w.values-is) (seen_counted t self.observers.now _ _ i nobody _
          _ w.count_seen.new.values _ c.loop-observer-test.true c.loop-observer.invariant w.in_ok-flag_seen.ensures
          w.count_seen.auto.values w.count_seen.ensures)
      | else-reaches w ↦ subst Made (sym w.values-is) (unseen_counted t self.observers.now _ _ i nobody _ _
          c.loop-observer-test.true c.loop-observer.invariant
          (λ p inside. OnFalse_at w.if-reaches.false c.reaches.ensures p self.target_height inside))
    ]

pub returns : goal.returns
returns g c =
    let self = c.args.self.now in
    let b = c.args.bounds in
    let all = take_all c.loop-observer.observer-index self.observers.now (omega arith) in
    subst (λ (os : List Observer).
    IsMadeUpTo b (HasValue self.grid.now.terrain os self.target_height self.radius) (b.rows * b.cols)
    c.loop-observer.values) all c.loop-observer.invariant
