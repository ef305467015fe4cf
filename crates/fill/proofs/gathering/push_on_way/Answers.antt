use Rattle.std.proofs.Common.{◌++◌, ap, sym, ◌∙◌, refl, arith}
use Rattle.std.specs.Option.{option_to_list}
use Rattle.terrain.proofs.Options.{none_some}
use Rattle.terrain.specs.Ways.{place_on}
use Rattle.fill.proofs.Adding.{adds_none, adds_on_way}
use Rattle.fill.proofs.gathering.push_on_way.Goals as goal

pub returns-in_default : goal.returns-in_default
returns-in_default c = adds_none _ refl (λ p q j at m. none_some _ q (cc) at.1)

pub returns : goal.returns
returns c =
    adds_on_way c.args.place c.args.way _ c.requires.from (sym c.cell_label.ensures) (omega arith)
    (sym c.place_on.ensures ∙ c.in-Some.is) (c.in_ok-push.ensures.items ∙
    sym (ap (λ z. c.args.joins.now.items ++ z) (c.join_of.ensures ∙ ap option_to_list c.in-Some-join_of.is)))
