use Rattle.std.proofs.Common.{rules, refl, List, Option}
use mir.Val.{SFits}
use Rattle.std.proofs.lemmas.Int.{to_z-of_z}
use Rattle.std.proofs.lemmas.List.Sorted.{All-permutation}
use Rattle.terrain.proofs.Heights.{height_width}
use Rattle.terrain.specs.Raster.{Terrain}
use Rattle.terrain.specs.declared.place.Place.{Place}
use Rattle.fill.specs.Crests.{ArePassages, AreRings, IsPassage}
use Rattle.fill.proofs.Rings.{rings_above}
use Rattle.fill.proofs.crests.label_crests.Goals as goal

pub loop-join-init : goal.loop-join-init
loop-join-init c = record {
  size = refl;
  rings = λ t places all. c.in_ok-search.ensures.rings t places _;
  crests = λ t places all start. start;
}

pub loop-join-preserved : goal.loop-join-preserved
loop-join-preserved c =
    let fits : SFits height_width c.max-level.result = search rules in
    let i = c.loop-join.invariant in
    let above : (t : Terrain) (places : List (Option Place)) → ArePassages t places c.deref-join-items.result.now →
    AreRings t places c.max-level.result c.loop-join.search.next.items =
    λ t places all.
    rings_above t places _ c.max-level.result _ (rw c.loop-join.level-is at c.max-level.ensures.self_bound)
    (rw c.loop-join.level-is at (i.rings t places all)) in
    rw (to_z-of_z height_width _ fits) (record {
      size = cc;
      rings = λ t places all. (rw (to_z-of_z height_width _ fits) at c.take.ensures.rings) t places
          (all c.loop-join.join-index _ c.loop-join-test.true) (above t places all);
      crests = λ t places all start. (rw (to_z-of_z height_width _ fits) at c.take.ensures.crests) t places
          (all c.loop-join.join-index _ c.loop-join-test.true) (above t places all) (i.crests t places all start);
    })

pub returns-clause-crests : goal.returns-clause-crests
returns-clause-crests c t places all start =
    c.loop-join.invariant.crests t places
    (rw c.deref-join-items.ensures.value
    (All-permutation (IsPassage t places) _ _ c.sort_by_key.ensures.permutation all))
    (rw c.in_ok-search.ensures.crests start)
