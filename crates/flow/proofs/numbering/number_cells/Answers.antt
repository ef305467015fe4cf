use Rattle.std.proofs.lemmas.Result.{IfOk-weaker}
use Rattle.tile_maps.specs.Maps.{IsMadeMap}
use Rattle.tile_maps.proofs.Whole.{map_of_size}
use Rattle.drainage.specs.Following.{Directed}
use Rattle.flow.specs.Counts.{IsMapOf}
use Rattle.flow.specs.RimGraph.{AreFlowsOf}
use Rattle.flow.specs.Numbering.{IsEndNumberAt, end_number}
use Rattle.flow.proofs.Numbered.{numbering_of, ready}
use Rattle.flow.proofs.numbering.number_cells.Goals as goal

pub invariant_of-map_tiles : goal.invariant_of-map_tiles
invariant_of-map_tiles g c = record {
  ready = ready (numbering_of _ _ c.requires.flows.1 c.in_ok-outlets.ensures.cutting c.in_ok-outlets.ensures.outlets
      c.requires.size c.requires.few);
}

pub returns-clause-values : goal.returns-clause-values
returns-clause-values g c =
    let t = c.args.tiling.now in
    let flows = c.args.flows.items in
    let o = c.in_ok-outlets.outlets in
    let n = g.N.EndNumbering.numbers _ in
    IfOk-weaker _ (λ v. IsMadeMap t (IsEndNumberAt t flows o n) v.items) (λ v. (d : Directed) → AreFlowsOf d t flows →
    IsMapOf d (end_number d n) v.items) (λ v made d are.
    let whole = map_of_size t _ _ _ _ (cc) (cc) made in
    record {
      size = whole.0;
      each = λ p i. whole.1 p i d (numbering_of o n are c.in_ok-outlets.ensures.cutting c.in_ok-outlets.ensures.outlets
          c.requires.size c.requires.few);
    }) c.map_tiles.ensures.made
