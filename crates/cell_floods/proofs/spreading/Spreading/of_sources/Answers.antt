use Rattle.std.proofs.Common.{◌≡◌, ◌+◌, inl, inr, ap, arith, None, Some, sym, ◌∙◌}
use Rattle.std.proofs.lemmas.Bool.{cases_eq}
use Rattle.terrain.proofs.Options.{none_from_is_some}
use Rattle.cell_floods.specs.Cells.{source_of}
use Rattle.cell_floods.proofs.Rectangles.{data_is}
use Rattle.cell_floods.proofs.SpreadSteps.{source_stored, sources_passed}
use Rattle.cell_floods.proofs.spreading.Spreading.of_sources.Goals as goal
use Rattle.cell_floods.proofs.spreading.Spreading.of_sources.Goals.{then-is_some, else-is_some}

pub loop-node-preserved : goal.loop-node-preserved
loop-node-preserved c =
    let n = c.args.net.now in
    let node = c.loop-node.node in
    let before = c.loop-node.invariant in
    let next = c.next_candidate-node-in-loop-node.ensures in
    elim c.if-is_some.branch [
      | then-is_some w ↦
          let source = data_is c.source.result (sym w.if-is_some.ensures) in
          let is : source_of n node ≡ Some source.0 = sym c.source.ensures ∙ source.1 in
          rw w.spreading-is (record {
            net = before.net;
            levels = before.levels;
            meetings = before.meetings;
            inside = next.inside;
            sources = sources_passed (node + 1) _ n _
                (source_stored node source.0 n _ before.sources is) next.passed;
          })
      | else-is_some w ↦
          let none : source_of n node ≡ None =
          sym c.source.ensures ∙ none_from_is_some c.source.result (sym w.if-is_some.ensures) in
          rw w.spreading-is (record {
            net = before.net;
            levels = before.levels;
            meetings = before.meetings;
            inside = next.inside;
            sources = sources_passed node _ n _ before.sources (λ a low high. elim (cases_eq a node) [
              | inl same ↦ ap (source_of n) same ∙ none
              | inr other ↦ next.passed a (omega (arith, low, other)) high
            ]);
          })
    ]
