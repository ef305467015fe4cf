use Rattle.std.proofs.Common.{inl, inr, ◌≡◌, true, sym, ◌∙◌, ap}
use Rattle.std.specs.List.{list_any}
use Rattle.terrain.specs.Neighbours.{IsDataCell, is_place}
use Rattle.terrain.proofs.Listed.{listed_from_any, any_from_listed}
use Rattle.terrain.proofs.grid.Grid.is_edge.Goals as goal

pub returns-then-has_gap_around : goal.returns-then-has_gap_around
returns-then-has_gap_around c =
    let has : IsDataCell c.args.self.now.terrain c.args.place = cc in
    (λ gap. inl (has, c.has_gap_around.ensures.0 gap), λ _. c.if-has_gap_around.true)

pub returns-else-has_gap_around : goal.returns-else-has_gap_around
returns-else-has_gap_around c =
    let has : IsDataCell c.args.self.now.terrain c.args.place = cc in
    let test = c.is_one_of.ensures
    ∙ ap (list_any (is_place c.args.place)) c.sinks.ensures.value in (
      λ named.
          inr (has, listed_from_any c.args.place c.args.self.now.terrain.sinks (sym test ∙ named)),
      λ is. elim is [
        | inl edge ↦ let gap : true ≡ c.has_gap_around.result =
            sym (c.has_gap_around.ensures.1 edge.1) in absurd (cc (gap, c.if-has_gap_around.false))
        | inr sink ↦ test ∙ any_from_listed c.args.place c.args.self.now.terrain.sinks sink.1
      ],
    )
