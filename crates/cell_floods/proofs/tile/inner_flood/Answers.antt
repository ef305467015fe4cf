use Rattle.std.proofs.Common.{ap, map, sym, ◌∙◌}
use Rattle.floods.specs.Notes.{height_or_lack, label_of, numbered_labels}
use Rattle.cell_floods.specs.Cells.{inner_rows}
use Rattle.cell_floods.proofs.InnerRows.{inner_rows-map}
use Rattle.cell_floods.proofs.tile.inner_flood.Goals as goal

pub returns : goal.returns
returns c =
    let b = c.args.bounds in
    let f = c.in-Some.found in
    record {
      levels = f.levels.items;
      labels = numbered_labels f.labels.items;
      flooded = rw c.in-Some.is at c.in_ok-found.ensures.flooded;
      meetings_are = rw c.in-Some.is at c.in_ok-found.ensures.meetings;
      heights_are = c.in_ok-of_nodes.ensures
          ∙ ap (λ z. map height_or_lack (inner_rows z b.cols b.rows)) c.deref.ensures.value;
      nodes_are = ap numbered_labels (c.in_ok-without_border.ensures
          ∙ ap (λ z. inner_rows z b.cols b.rows) c.deref-2.ensures.value)
          ∙ sym (inner_rows-map label_of f.labels.items b.cols b.rows);
    }
