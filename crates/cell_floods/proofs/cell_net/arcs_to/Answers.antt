use Rattle.std.proofs.Common.{rules, arith, ◌<◌, ap, ◌∙◌, sym, to_z, of_z, length}
use Rattle.std.proofs.lemmas.List.{length_push, append-nil}
use Rattle.terrain.proofs.Heights.{height_width}
use Rattle.cell_floods.specs.Cells.{arc_to}
use Rattle.cell_floods.proofs.CellArcs.{filter_map_more, none_by}
use Rattle.cell_floods.proofs.cell_net.arcs_to.Goals as goal
use Rattle.cell_floods.proofs.cell_net.arcs_to.Goals.{in-Some, in_default}

pub loop-to-preserved : goal.loop-to-preserved
loop-to-preserved c =
    let inside : c.loop-to.to-index < length c.args.around = search rules in
    let more = filter_map_more (arc_to c.args.cells.now (to_z height_width
    (of_z height_width c.args.height))) c.args.around c.loop-to.to-index 0 inside in
    elim c.match-arc_to.branch [
      | in-Some w ↦
          rw (w.arcs-is) (record {
            room = w.push_reserved.ensures.capacity ∙ c.loop-to.invariant.room;
            few = omega (
              arith,
              c.loop-to.invariant.few,
              ap length w.push_reserved.ensures.items ∙ length_push _ _,
            );
            arcs = rw (more, ← c.arc_to.ensures, w.in-Some.is, ← c.loop-to.invariant.arcs)
                w.push_reserved.ensures.items;
          })
      | in_default w ↦
          rw (w.arcs-is) (record {
            room = c.loop-to.invariant.room;
            few = omega (arith, c.loop-to.invariant.few);
            arcs = rw (
              more,
              ← c.arc_to.ensures,
              none_by _ w.in_default.not-Some,
              ← c.loop-to.invariant.arcs,
            ) (sym (append-nil _));
          })
    ]
