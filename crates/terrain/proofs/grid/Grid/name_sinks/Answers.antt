use Rattle.terrain.proofs.Naming.{lawful_with_sinks}
use Rattle.terrain.proofs.grid.Grid.name_sinks.Goals as goal

pub with_parts-requires : goal.with_parts-requires
with_parts-requires c =
    let g = c.self.inside.frame in
    let sound = rw (← c.self.view_is) at c.in_ok-named.ensures.sound in
    rw (c.self.invariant.1, c.in_ok-named.ensures.named)
    (lawful_with_sinks g _ c.self.invariant.0 sound)
