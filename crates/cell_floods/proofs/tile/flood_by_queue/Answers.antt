use Rattle.std.proofs.Common.{◌∙◌, arith}
use Rattle.cell_floods.proofs.TileRectangles.{inner_lists}
use Rattle.cell_floods.proofs.tile.flood_by_queue.Goals as goal

pub returns : goal.returns
returns c =
    let found = c.in_ok-levels.field-0 in
    let lists = inner_lists c.args.bounds found.levels found.labels _ _ _ _ c.heights.ensures
    c.numbers.ensures (c.of_heights.ensures ∙ c.in_ok-heights.ensures) c.in_ok-without_border.ensures in
    record {
      levels = found.levels;
      labels = found.labels;
      flooded = c.in_ok-levels.ensures;
      meetings_are = rw c.new.ensures.items (λ k d low. absurd (omega (arith, low)));
      heights_are = lists.0;
      nodes_are = lists.1;
    }
