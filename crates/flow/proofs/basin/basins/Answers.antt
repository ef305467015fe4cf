use Rattle.std.proofs.Common.{◌∙◌, arith, ap, subst, length}
use Rattle.std.proofs.Math.Nat.{mul-le-mul}
use Rattle.std.proofs.lemmas.Result.{IfOk-weaker}
use Rattle.drainage.specs.Drained.{directed_of}
use Rattle.drainage.specs.Following.{Directed}
use Rattle.flow.specs.Counts.{AreBasins, IsMapOf}
use Rattle.flow.specs.Whole.{directed_on}
use Rattle.flow.specs.RimGraph.{AreFlowsOf}
use Rattle.flow.specs.Numbering.{end_number, outlet_numbers}
use Rattle.flow.proofs.Together.{directed_same, grid_flow}
use Rattle.flow.proofs.Numbered.{outlet_number_few}
use Rattle.flow.proofs.basin.basins.Goals as goal

pub exit_tiles-requires-clause-grid : goal.exit_tiles-requires-clause-grid
exit_tiles-requires-clause-grid g c κs within =
    grid_flow c.args.tiling.now c.codes-codes.ensures.draining c.requires c.codes-codes.ensures.value

pub of_codes-requires : goal.of_codes-requires
of_codes-requires g c =
    let t = c.args.tiling.now in
    let most = mul-le-mul c.cols.ensures.lawful.few_cols c.cols.ensures.lawful.few_rows in
    let flow = grid_flow t c.codes-codes.ensures.draining c.requires c.codes-codes.ensures.value in
    omega arith

pub number_cells-requires-clause-flows : goal.number_cells-requires-clause-flows
number_cells-requires-clause-flows g c κs within =
    (directed_on c.args.tiling.now c.codes-codes.result.now, c.in_ok-flows.ensures.flows)

pub number_cells-requires-clause-size : goal.number_cells-requires-clause-size
number_cells-requires-clause-size g c κs within =
    ap length c.in_ok-numbers.ensures ∙
    (grid_flow c.args.tiling.now c.codes-codes.ensures.draining c.requires c.codes-codes.ensures.value).size

pub number_cells-requires-clause-few : goal.number_cells-requires-clause-few
number_cells-requires-clause-few g c κs within i below =
    let t = c.args.tiling.now in
    let most = mul-le-mul c.cols.ensures.lawful.few_cols c.cols.ensures.lawful.few_rows in
    let flow = grid_flow t c.codes-codes.ensures.draining c.requires c.codes-codes.ensures.value in
    outlet_number_few _ (omega (arith, ap length c.in_ok-numbers.ensures)) i

pub returns-clause-values : goal.returns-clause-values
returns-clause-values g c =
    let t = c.args.tiling.now in
    let codes = c.codes-codes.result.now in
    let d = directed_on t codes in
    IfOk-weaker _ (λ v. (d : Directed) → AreFlowsOf d t c.in_ok-flows.flows.items →
    IsMapOf d (end_number d (outlet_numbers c.in_ok-numbers.numbers)) v.items)
    (λ v. AreBasins (directed_of c.args.d.now) v.items)
    (λ v made. rw (← directed_same c.args.d.now t c.requires c.codes-codes.ensures.value)
    (subst (λ l. IsMapOf d (end_number d (outlet_numbers l)) v.items) c.in_ok-numbers.ensures
    (made d c.in_ok-flows.ensures.flows))) c.number_cells.ensures.values
