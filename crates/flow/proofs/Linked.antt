-- If the inflows and outlets found are those of a map of directions, so are those of the `RimLinks`
-- made of both. Flows with the exits and counts of their tiles (`AreTileFlows`) meet what finding
-- both requires: `AreFlowsOf`, if the tiling is lawful and all flow paths end, and `AreTileCounts`.
use Rattle.std.proofs.Common.{◌≡◌, true, inl, inr, List, None, sym, ap, ◌∙◌}
use Rattle.std.proofs.lemmas.Bool.{cases_Bool, and_from, and_parts, lt-ltb, ltb-true, cond-true, cond-false}
use Rattle.tiles.specs.Cutting.{Cutting, IsCutting, IsWithin, is_within}
use Rattle.drainage.specs.Following.{Directed}
use Rattle.drainage.specs.Drained.{AllFlowEnds}
use Rattle.flow.specs.TileFlow.{Flow, AreTileFlows, AreTileCounts}
use Rattle.flow.specs.RimGraph.{AreFlowsOf, Outlets, AreOutlets}
use Rattle.flow.specs.Inflows.{Inflows, AreInflows, inflow_by}
use Rattle.flow.specs.Links.{AreLinks}
use Rattle.flow.proofs.Coded.{coded_from_some}
use Rattle.flow.proofs.RimFlows.{within_of}

pub flows_from : {d : Directed} {t : Cutting} {flows : List Flow} → IsCutting t → AllFlowEnds d →
    AreTileFlows d t flows → AreFlowsOf d t flows
flows_from cutting ends are =
    record {
      cutting = cutting;
      ends = ends;
      of_tiles = record { size = are.size; count = are.count; each = λ tile f there. (are.each tile f there).exits };
    }

pub counts_from : {d : Directed} {t : Cutting} {flows : List Flow} → AreTileFlows d t flows → AreTileCounts d t flows
counts_from are = record { each = λ tile f there. (are.each tile f there).counts }

pub links_are : {d : Directed} {t : Cutting} {flows : List Flow} → AreFlowsOf d t flows → {i : Inflows} {o : Outlets} →
    i.cutting ≡ t → o.cutting ≡ t → AreInflows d t i → AreOutlets d t flows o →
    AreLinks d t (record { cutting = o.cutting; flows = flows; inflows = i.listed; outlets = o.listed })
links_are {d} {t} {flows} s {i} {o} same here inflows outlets = record {
  cutting = here;
  inflows = λ p w. ap (λ x. inflow_by x i.listed p) (here ∙ sym same) ∙ inflows.each p w;
  outlets = λ p x. (let w = within_of s (coded_from_some d p x.0) in
      let inside : is_within o.cutting p ≡ true = cc (and_from _ _ (lt-ltb _ _ w.0) (lt-ltb _ _ w.1)) in
      cond-true _ _ None inside ∙ outlets.outlets p x);
  no_outlets = λ p out. elim (cases_Bool (is_within o.cutting p)) [
    | inr f ↦ cond-false _ _ None f
    | inl y ↦ (let w = and_parts _ _ (cc) in
        let within : IsWithin t p = (ltb-true _ _ w.0, ltb-true _ _ w.1) in
        cond-true _ _ None y ∙ outlets.no_outlets p within out)
  ];
}
