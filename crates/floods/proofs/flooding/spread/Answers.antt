use Rattle.std.proofs.Common.{◌<◌, length, subst}
use Rattle.std.proofs.lemmas.List.Elements.{All-weaker}
use Rattle.floods.specs.declared.net.Spill.{Spill}
use Rattle.floods.proofs.flooding.spread.Goals as goal

pub queue_neighbours-requires : goal.queue_neighbours-requires
queue_neighbours-requires g c =
    let inside = g.met.N.Net.joined_inside c.args.net.now c.args.from.now.node in
    record {
      order = c.requires.order;
      noted = c.requires.noted;
      inside = rw c.as_slice.ensures
          (All-weaker (λ arc. g.N.Net.joins c.args.net.now c.args.from.now.node arc.to arc.height)
          (λ (arc : Spill). arc.to < length c.args.labels.now)
          (λ arc joined. subst (λ n. arc.to < n) (cc) (inside arc.to arc.height joined)) c.in_ok-arcs.arcs.items
          c.in_ok-arcs.ensures.only);
    }
