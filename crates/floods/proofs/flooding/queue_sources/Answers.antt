use Rattle.std.proofs.Common.{rules, ◌<◌, length, sym, ap, ◌∙◌, refl, None, arith}
use mir.Val.{SFits}
use Rattle.std.proofs.lemmas.Int.{to_z-of_z}
use Rattle.std.proofs.lemmas.List.{length-set, length-replicate}
use Rattle.terrain.proofs.Heights.{height_width}
use Rattle.floods.proofs.Heaps.{no_sources, source_passed, source_more, none_noted, noted_past, noted_more}
use Rattle.floods.proofs.flooding.queue_sources.Goals as goal
use Rattle.floods.proofs.flooding.queue_sources.Goals.{in-Some+in_ok-put, in_default}

pub loop-node-init : goal.loop-node-init
loop-node-init g c = record {
  order = c.in_ok-queue.ensures.order;
  sources = no_sources _ _ c.in_ok-queue.ensures.none;
  noted = rw c.requires (none_noted _ _);
  size = refl;
}

pub loop-node-preserved : goal.loop-node-preserved
loop-node-preserved g c = elim c.match-source.branch [
  | in-Some+in_ok-put w ↦
      let fits : SFits height_width w.in-Some.height = search rules in
      let pushed = rw (to_z-of_z height_width _ fits) at w.in_ok-put.ensures.puts in
      let put = rw (to_z-of_z height_width _ fits) at w.put-in-Some.ensures in
      let source = sym c.source.ensures ∙ w.in-Some.is in
      let inside : c.loop-node.node < length c.loop-node.levels =
      omega (
        arith,
        c.loop-node.invariant.size ∙ ap length c.requires ∙ length-replicate _ None,
        c.nodes-node-end.ensures,
        c.loop-node-test.true,
      ) in
      rw (w.queue-is, w.levels-is) (record {
        order = w.in_ok-put.ensures.order;
        sources = source_more _ _ _ _ c.loop-node.invariant.sources source refl refl refl pushed;
        noted = rw put (noted_more c.loop-node.invariant.noted inside source);
        size = ap length put ∙ length-set _ _ _ ∙ c.loop-node.invariant.size;
      })
  | in_default w ↦
      let source = sym c.source.ensures ∙ w.in_default.is in
      rw (w.queue-is, w.levels-is) (record {
        order = c.loop-node.invariant.order;
        sources = source_passed _ _ _ c.loop-node.invariant.sources source;
        noted = noted_past c.loop-node.invariant.noted source;
        size = c.loop-node.invariant.size;
      })
]
