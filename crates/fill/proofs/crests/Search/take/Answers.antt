use Rattle.std.proofs.Common.{rules, ◌≤ℤ◌}
use mir.Val.{SFits}
use Rattle.std.proofs.lemmas.Int.{to_z-of_z}
use Rattle.terrain.proofs.Heights.{height_width}
use Rattle.terrain.proofs.Orders.{trans}
use Rattle.fill.proofs.Rings.{passed_back, passed_on, rings_above}
use Rattle.fill.proofs.crests.Search.take.Goals as goal

pub returns-in-Some-None-clause-crests : goal.returns-in-Some-None-clause-crests
returns-in-Some-None-clause-crests c t places pass rings all =
    let level = c.max.result in
    let own_fits : SFits height_width c.in-Some-None.own = search rules in
    let top_fits : SFits height_width level = search rules in
    let low : c.args.level ≤ℤ level =
    rw (to_z-of_z height_width c.args.level (search rules)) at c.max.ensures.other_bound in
    (rw (to_z-of_z height_width level top_fits) at c.give_crest.ensures.crests) t places
    (passed_on t places c.args.self.now.crests.items c.args.join level all pass
    (rw (to_z-of_z height_width c.in-Some-None.own own_fits) at c.max.ensures.self_bound) (trans _ _ _ c.requires low)
    (cc)) (rings_above t places c.args.level level c.args.self.now.next.items low rings) all

pub returns-in-None-Some-clause-crests : goal.returns-in-None-Some-clause-crests
returns-in-None-Some-clause-crests c t places pass rings all =
    let level = c.max-in-None-Some.result in
    let own_fits : SFits height_width c.in-None-Some.own = search rules in
    let top_fits : SFits height_width level = search rules in
    let low = rw (to_z-of_z height_width c.args.level (search rules)) at c.max-in-None-Some.ensures.other_bound in
    (rw (to_z-of_z height_width level top_fits) at c.give_crest-in-None-Some.ensures.crests) t places
    (passed_back t places c.args.self.now.crests.items c.args.join level all pass
    (rw (to_z-of_z height_width c.in-None-Some.own own_fits) at c.max-in-None-Some.ensures.self_bound)
    (trans _ _ _ c.requires low) (cc)) (rings_above t places _ level c.args.self.now.next.items low rings) all

pub returns-in-None-None-clause-rings : goal.returns-in-None-None-clause-rings
returns-in-None-None-clause-rings c t places pass rings =
    c.unite.ensures.rings t places c.args.level c.requires pass rings

pub returns-in-Some-None-clause-rings : goal.returns-in-Some-None-clause-rings
returns-in-Some-None-clause-rings c t places pass rings = rw c.give_crest.ensures.next rings

pub returns-in-None-Some-clause-rings : goal.returns-in-None-Some-clause-rings
returns-in-None-Some-clause-rings c t places pass rings = rw c.give_crest-in-None-Some.ensures.next rings
