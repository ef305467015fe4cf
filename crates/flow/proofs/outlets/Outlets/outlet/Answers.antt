use Rattle.std.proofs.Common.{◌≡◌, ◌<◌, true, false, length, get_or, None, subst, sym, ap, ◌∙◌, arith}
use Rattle.std.proofs.lemmas.List.{get_or_default}
use Rattle.terrain.specs.Neighbours.{is_place}
use Rattle.flow.specs.Whole.{is_outlet_code}
use Rattle.tiles.specs.RimNumbers.{rim_number, rim_place}
use Rattle.flow.specs.RimGraph.{code_in, listed_outlet}
use Rattle.flow.proofs.RimFlows.{outlet_listed, outlet_unlisted}
use Rattle.flow.proofs.outlets.Outlets.outlet.Goals as goal

pub returns-then-is_place : goal.returns-then-is_place
returns-then-is_place g c =
    let code : is_outlet_code (code_in c.self.inside.tiling (g.F.ExitList.flows c.args.flows.now) c.args.exit) ≡ false =
    ap is_outlet_code (sym c.code_of.ensures.value) ∙ sym c.if-is_outlet.ensures in
    let on : is_place (rim_place c.self.inside.tiling (rim_number c.self.inside.tiling c.args.exit)) c.args.exit ≡
    true = ap (λ n. is_place (rim_place c.self.inside.tiling n) c.args.exit) (sym c.rim_number-number.ensures.value) ∙
    ap (λ p. is_place p c.args.exit) (sym c.rim_place.ensures) ∙ sym c.if-is_place.ensures in
    let below : c.rim_number-number.result < length c.self.inside.outlets.items =
    omega (arith, c.rim_number-number.ensures.below, c.self.invariant) in
    subst (λ o. c.index.result.now ≡ listed_outlet o (g.F.ExitList.flows c.args.flows.now) c.args.exit) c.self.view_is
    (c.index.ensures ∙ get_or_default c.self.inside.outlets.items c.rim_number-number.result c.index.result.now None
    below ∙ ap (λ n. get_or c.self.inside.outlets.items n None) c.rim_number-number.ensures.value ∙
    sym (outlet_listed c.self.inside.tiling (g.F.ExitList.flows c.args.flows.now) c.self.inside.outlets.items
    c.args.exit code on))

pub returns-else-is_place : goal.returns-else-is_place
returns-else-is_place g c =
    let code : is_outlet_code (code_in c.self.inside.tiling (g.F.ExitList.flows c.args.flows.now) c.args.exit) ≡ false =
    ap is_outlet_code (sym c.code_of.ensures.value) ∙ sym c.if-is_outlet.ensures in
    let off : is_place (rim_place c.self.inside.tiling (rim_number c.self.inside.tiling c.args.exit)) c.args.exit ≡
    false = ap (λ n. is_place (rim_place c.self.inside.tiling n) c.args.exit) (sym c.rim_number-number.ensures.value) ∙
    ap (λ p. is_place p c.args.exit) (sym c.rim_place.ensures) ∙ sym c.if-is_place.ensures in
    subst (λ o. None ≡ listed_outlet o (g.F.ExitList.flows c.args.flows.now) c.args.exit) c.self.view_is
    (sym (outlet_unlisted c.self.inside.tiling (g.F.ExitList.flows c.args.flows.now) c.self.inside.outlets.items
    c.args.exit code off))
