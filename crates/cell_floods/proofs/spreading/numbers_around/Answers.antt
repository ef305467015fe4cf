use Rattle.std.proofs.Common.{inl, inr, ◌<◌, arith, get_or, length}
use Rattle.std.proofs.lemmas.Bool.{cases_lt}
use Rattle.std.proofs.lemmas.List.{get_or_default}
use Rattle.std.proofs.lemmas.List.Elements.{All-get_or}
use Rattle.floods.specs.Notes.{no_label}
use Rattle.cell_floods.specs.Spreading.{number_of}
use Rattle.cell_floods.proofs.spreading.numbers_around.Goals as goal

pub loop-node-preserved : goal.loop-node-preserved
loop-node-preserved c = λ low.
    let labels = c.args.labels.now in
    let i = c.loop-node.node-index in
    let node = get_or c.args.around.now i 0 in
    let inside : i < length c.args.around.now = omega (arith, c.loop-node-test.true, c.told-around) in
    let is = get_or_default labels node 0 no_label
    (All-get_or (λ b. b < length labels) c.args.around.now i 0 inside c.requires) in
    elim (cases_lt (number_of labels node) c.loop-node.least) [
      | inl less ↦ (i, omega arith, omega (arith, less, is, c.min-least.ensures))
      | inr more ↦
          let was = c.loop-node.invariant (omega (arith, more, is, low, c.min-least.ensures)) in
          (was.0, omega (arith, was.1), omega (arith, was.2, more, is, c.min-least.ensures))
    ]
