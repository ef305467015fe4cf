use Rattle.std.proofs.Common.{◌≡◌, inl, inr, refl, sym, ◌∙◌, ap}
use Rattle.std.proofs.lemmas.Bool.{false≢true}
use Rattle.tiles.specs.declared.bounds.Bounds.{Bounds}
use Rattle.tiles.specs.Cutting.{bounds_of}
use Rattle.cell_floods.specs.Cells.{is_sink, node_at}
use Rattle.cell_floods.proofs.ends.is_end.Goals as goal

pub returns-then-has_gap : goal.returns-then-has_gap
returns-then-has_gap c named sinks = (λ _. inl (c.has_gap.ensures.0 c.if-has_gap.true), λ _. refl)

pub returns : goal.returns
returns c named sinks =
    let b = bounds_of c.args.view.now.cutting c.args.view.now.tile in
    let at : c.is_sink.result ≡ is_sink c.args.sinks.now (node_at b c.args.place) =
    c.is_sink.ensures ∙ ap (is_sink c.args.sinks.now) (c.node_in-node.ensures.value
    ∙ ap (λ (x : Bounds). node_at x c.args.place) c.bounds.ensures.value) in (
      λ sink. inr ((sinks c.args.place c.requires).0 (sym at ∙ sink)),
      λ end. elim end [
        | inl gap ↦ absurd (false≢true (sym c.if-has_gap.false ∙ c.has_gap.ensures.1 gap))
        | inr sink ↦ at ∙ (sinks c.args.place c.requires).1 sink
      ],
    )
