use Rattle.std.proofs.Common.{List, suc, sym, subst, refl, arith}
use Rattle.std.specs.Prelude.{Contains}
use Rattle.terrain.specs.declared.place.Place.{Place}
use Rattle.tiles.proofs.Members.{Contains-from_rim_places}
use Rattle.drain.proofs.input.RoundInput.push_around_rim.Goals as goal

pub push_around-requires-clause-place : goal.push_around-requires-clause-place
push_around-requires-clause-place c =
    let input = c.args.self.now in
    let cuts = (rw c.self.view_is at c.self.invariant.1).cuts in
    let next = subst (λ (ps : List Place). Contains ps c.in-Some.place) (sym c.in-Some.ensures.steps)
    (0, omega arith, refl) in
    let rim = c.loop-place.invariant.left c.in-Some.place next in
    let within = (Contains-from_rim_places input.cutting c.args.tile c.in-Some.place c.requires.lawful
    c.requires.tile rim).0.0 in
    (omega (arith, within.0, cuts.1), omega (arith, within.1, cuts.0))

pub loop-place-preserved : goal.loop-place-preserved
loop-place-preserved c = record {
  left = λ p has. c.loop-place.invariant.left p (rw c.in-Some.ensures.steps (suc has.0, omega (arith, has.1), has.2));
  changes = c.in_ok-push_around.ensures;
}
