use Rattle.std.proofs.Common.{◌∙◌, length, ap, sym, arith}
use Rattle.std.proofs.lemmas.Result.{IfOk-weaker}
use Rattle.fill.proofs.Numbered.{ends_length}
use Rattle.fill.proofs.Passages.{ends_leave}
use Rattle.fill.proofs.filling.crests_of.Goals as goal

pub label_crests-requires : goal.label_crests-requires
label_crests-requires c =
    omega (arith, ap length c.in_ok-ends.ensures, ends_length c.requires.1, c.args.tiles.now.numbers.whole)

pub returns-clause-size : goal.returns-clause-size
returns-clause-size c =
    IfOk-weaker c.label_crests.result _ _
    (λ v size. sym (size ∙ ap length c.in_ok-ends.ensures ∙ ends_length c.requires.1)) c.label_crests.ensures.size

pub returns-clause-crests : goal.returns-clause-crests
returns-clause-crests c =
    IfOk-weaker c.label_crests.result _ _ (λ v is t are met.
    is t _ (c.in_ok-joins.ensures t are met)
    (ends_leave t c.args.tiles.now.tiling.now c.args.tiles.now.floods.now are c.in_ok-ends.ensures))
    c.label_crests.ensures.crests
