use Rattle.std.proofs.Common.{◌≡◌, ◌+◌, ◌*◌, ◌≤◌, ℕ, get_or, length, map, take}
use Rattle.floods.specs.Notes.{numbered_labels}
use Rattle.cell_floods.specs.Indexes.{places_of}
use Rattle.cell_floods.specs.Labels.{IsTable, AreMet, label_of_node, labels_by}
use Rattle.cell_floods.proofs.labels.labels_of.Given as goal

abbrev pub invariant-loop-index : goal.invariant-loop-index
invariant-loop-index l =
    let i = l.index-index in
    let nodes = l.fn.nodes.items in
    record {
      few : length (places_of l.table) ≤ i + 1;
      bounds : l.table.bounds ≡ l.fn.bounds;
      table : IsTable (places_of l.table) (take i l.index-items);
      met : AreMet l.fn.bounds l.met.items (places_of l.table);
      size : length l.met.items ≡ (l.fn.bounds.rows + 2) * (l.fn.bounds.cols + 2);
      whole : length l.index-items ≡ length nodes;
      rest : (k : ℕ) → i ≤ k → get_or l.index-items k 0 ≡ get_or nodes k 0;
      labels : labels_by (places_of l.table) (take i l.index-items)
          ≡ map (label_of_node l.fn.bounds) (take i (numbered_labels nodes));
    }
