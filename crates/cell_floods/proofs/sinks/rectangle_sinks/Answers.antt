use Rattle.std.proofs.Common.{refl, sym, ◌∙◌, arith}
use Rattle.tiles.proofs.Cut.{in_bounds_parts}
use Rattle.cell_floods.proofs.FirstSinks.{one_more, one_outside}
use Rattle.cell_floods.proofs.sinks.rectangle_sinks.Goals as goal
use Rattle.cell_floods.proofs.sinks.rectangle_sinks.Goals.{then-contains, else-contains}

pub loop-place-preserved : goal.loop-place-preserved
loop-place-preserved c =
    let b = c.args.bounds in
    let places = c.args.places.now in
    let s = c.loop-place.invariant in
    elim c.if-contains.branch [
      | then-contains w ↦ rw w.sinks-is (one_more b places c.loop-place.place-index w.node_in.result
          _ _ c.loop-place.sinks.items c.loop-place-test.true refl
          (in_bounds_parts b _ (sym c.contains.ensures ∙ w.if-contains.true))
          w.node_in.ensures.value (omega (arith, w.node_in.ensures.below, s.size)) s)
      | else-contains w ↦
          rw w.sinks-is (one_outside b places c.loop-place.place-index _ _ c.loop-place.sinks.items
          c.loop-place-test.true refl (sym c.contains.ensures ∙ w.if-contains.false) s)
    ]
