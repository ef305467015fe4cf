use Rattle.std.proofs.Common.{rules, ◌≡◌, ◌<◌, sym, ◌∙◌, Some, None, get_or}
use mir.Val.{SFits}
use Rattle.std.proofs.lemmas.Int.{to_z-of_z}
use Rattle.std.proofs.lemmas.List.{get_or_read}
use Rattle.terrain.proofs.Heights.{height_width}
use Rattle.cell_floods.specs.Cells.{Cells}
use Rattle.cell_floods.proofs.CellArcs.{just_arcs}
use Rattle.cell_floods.proofs.cell_net.CellNetNet.neighbours.Goals as goal

pub returns : goal.returns
returns c =
    let fits : SFits height_width c.in-Some.height = search rules in
    let height = to_z-of_z height_width c.in-Some.height fits in
    let n : Cells = record {
      stride = c.self.inside.stride;
      cells = c.self.inside.cells.items;
      sinks = c.self.inside.sinks.items;
    } in
    let here : get_or n.cells c.args.node None ≡ Some c.in-Some.height =
    sym (get_or_read n.cells c.args.node c.index.result.now (search rules) c.index.ensures None)
    ∙ sym c.height.ensures ∙ c.in-Some.is in
    let above : n.stride < c.args.node = search rules in
    let items = rw (height, c.around.ensures, c.deref.ensures.value) at c.arcs_to.ensures in
    rw (← c.self.view_is, items) (just_arcs n c.args.node c.in-Some.height here above)
