use Rattle.std.proofs.Common.{◌≡◌, ◌+◌, ◌*◌, refl, subst, sym, ap, length, map, ◌∙◌, arith}
use Rattle.std.proofs.lemmas.List.Elements.{All-contains}
use Rattle.terrain.specs.Sinks.{with_sinks}
use Rattle.terrain.specs.declared.place.Place.{Place}
use Rattle.tiles.specs.declared.bounds.Bounds.{Bounds}
use Rattle.tiles.specs.Cutting.{IsInBounds, bounds_of, entry_in, terrain_of}
use Rattle.tiles.proofs.Cut.{in_bounds}
use Rattle.cell_floods.specs.Cells.{IsNetOf, inner_rows}
use Rattle.cell_floods.specs.Labels.{AreNodesBelow, label_of_node, labels_by}
use Rattle.cell_floods.specs.Spreading.{IsNodeMeeting}
use Rattle.cell_floods.specs.TileFlood.{levels_where}
use Rattle.floods.specs.Notes.{label_of, numbered_labels}
use Rattle.cell_floods.proofs.Meetings.{meeting_there}
use Rattle.cell_floods.proofs.Where.{levels_where_are, heights_whole, labels_inside, table_inside, all_inside}
use Rattle.cell_floods.proofs.TileRectangles.{AreTileLevels, bounds_limits, inner_entry, inner_labels, label_entry, tile_flood_is}
use Rattle.std.proofs.lemmas.List.{length-map}
use Rattle.cell_floods.proofs.tile.flood_with_meetings.Goals as goal
use Rattle.cell_floods.proofs.tile.flood_with_meetings.Goals.{After-into_sinks-sinks, After-deref}

-- The levels and labels inside the border of the net's lists are those of the tile.
inner : (c : goal.After-deref) → let b = c.bounds-bounds.result in
    AreTileLevels (with_sinks (terrain_of c.args.view.now) c.args.sinks.now) c.args.view.now.cutting
    c.args.view.now.tile b (inner_rows c.in_ok-heights.ensures.levels b.cols b.rows)
    (labels_by c.in_ok-labels.field-0.labels.places c.in_ok-labels.field-0.labels.indexes)
inner c =
    let lawful = c.bounds-bounds.ensures.lawful in
    let found = c.in_ok-heights.ensures in
    tile_flood_is _ _ _ c.in_ok-net.net _ found.levels _ _ _ lawful.cutting lawful.tile (refl, refl)
    c.in_ok-net.ensures found.flooded c.bounds-bounds.ensures.value refl
    (c.in_ok-labels.ensures.labels ∙ ap (map (label_of_node c.bounds-bounds.result)) found.nodes_are)

-- The heights and the table of labels hold them.
held : (c : goal.After-deref) → let b = c.bounds-bounds.result in
    let x = c.in_ok-labels.field-0.labels in
    levels_where (labels_by x.places x.indexes) c.in_ok-heights.field-0.heights ≡
    inner_rows c.in_ok-heights.ensures.levels b.cols b.rows
held c =
    let lawful = c.bounds-bounds.ensures.lawful in
    levels_where_are _ _ _ _ _ _ _ lawful.cutting lawful.tile c.in_ok-heights.ensures.heights_are (inner c)

levels : (c : goal.After-deref) → let view = c.args.view.now in
    let labels = labels_by c.in_ok-labels.field-0.labels.places c.in_ok-labels.field-0.labels.indexes in
    AreTileLevels (with_sinks (terrain_of view) c.args.sinks.now) view.cutting view.tile
    c.bounds-bounds.result (levels_where labels c.in_ok-heights.field-0.heights) labels
levels c = rw (held c) (inner c)

pub inner_flood-requires : goal.inner_flood-requires
inner_flood-requires c =
    let limits = bounds_limits c.args.view.now.cutting c.bounds-bounds.result
    c.bounds-bounds.ensures.lawful.cutting c.bounds-bounds.ensures.inside in (
      rw c.bounds-bounds.ensures.value c.in_ok-net.ensures.size,
      omega (arith, limits),
      omega (arith, limits),
    )

-- There is a label for each cell of the tile, a node of its net.
nodes : (c : goal.After-into_sinks-sinks) → let b = c.bounds-bounds.result in
    AreNodesBelow ((b.rows + 2) * (b.cols + 2)) (numbered_labels c.in_ok-heights.field-0.nodes.items)
    × (length c.in_ok-heights.field-0.nodes.items ≡ b.rows * b.cols)
nodes c =
    let found = c.in_ok-heights.ensures in
    let b = c.bounds-bounds.result in
    let size : length c.in_ok-net.net.cells ≡ (b.rows + 2) * (b.cols + 2) =
    rw c.bounds-bounds.ensures.value c.in_ok-net.ensures.size in
    let inner = inner_labels b c.in_ok-net.net found.levels found.labels size found.flooded in (
      subst (AreNodesBelow ((b.rows + 2) * (b.cols + 2))) (sym found.nodes_are) inner.0,
      sym (length-map c.in_ok-heights.field-0.nodes.items label_of) ∙ ap length found.nodes_are ∙ inner.1,
    )

pub labels_of-requires-clause-nodes : goal.labels_of-requires-clause-nodes
labels_of-requires-clause-nodes c = (nodes c).0

pub labels_of-requires-clause-size : goal.labels_of-requires-clause-size
labels_of-requires-clause-size c = (nodes c).1

pub end_heights-requires : goal.end_heights-requires
end_heights-requires c =
    let view = c.args.view.now in
    let lawful = c.bounds-bounds.ensures.lawful in
    let inside = IsInBounds (bounds_of view.cutting view.tile) in
    all_inside inside _ (table_inside inside _ _ _ refl c.in_ok-labels.ensures.table
    (λ k p e. in_bounds view.cutting view.tile p lawful.cutting
    (labels_inside _ _ _ _ _ _ lawful.cutting lawful.tile (refl, refl)
    (levels (goal.at.end_heights-requires c).After-deref) k p e)))

pub invariant_of-result : goal.invariant_of-result
invariant_of-result c =
    let found = c.in_ok-heights.ensures in
    let b = c.bounds-bounds.result in
    let size : length c.in_ok-net.net.cells ≡ (b.rows + 2) * (b.cols + 2) =
    rw c.bounds-bounds.ensures.value c.in_ok-net.ensures.size in (
      heights_whole b found.levels found.labels c.in_ok-labels.field-0.labels.places _ _
          (found.flooded.levels_size ∙ size) (found.flooded.labels_size ∙ size) found.heights_are
          (c.in_ok-labels.ensures.labels ∙ ap (map (label_of_node b))
          found.nodes_are),
      tt,
    )

pub invariant_of-result-2 : goal.invariant_of-result-2
invariant_of-result-2 c =
    let are = levels (goal.at.invariant_of-result-2 c).After-deref in
    record {
      labels = refl;
      table = c.in_ok-labels.ensures.table;
      limits = are.limits;
      levels_size = are.levels_size;
      labels_size = are.labels_size;
    }

pub returns-clause-flood : goal.returns-clause-flood
returns-clause-flood c =
    let are = levels (goal.at.returns-clause-flood c).After-deref in
    record {
      bounds = are.bounds;
      levels_size = are.levels_size ∙ ap (λ (b : Bounds). b.rows * b.cols) are.bounds;
      labels_size = are.labels_size ∙ ap (λ (b : Bounds). b.rows * b.cols) are.bounds;
      each = are.each;
      ends = (rw c.deref.ensures.value at c.in_ok-ends.ensures)
          c.args.sinks.now (rw c.into_sinks-sinks.ensures c.in_ok-net.ensures.sinks);
    }

pub labels_of-requires-clause-limits : goal.labels_of-requires-clause-limits
labels_of-requires-clause-limits c = bounds_limits c.args.view.now.cutting _
    c.bounds-bounds.ensures.lawful.cutting c.bounds-bounds.ensures.inside

pub returns-clause-meetings : goal.returns-clause-meetings
returns-clause-meetings c k d low =
    let found = c.in_ok-heights.ensures in
    let b = c.bounds-bounds.result in
    let size : length c.in_ok-net.net.cells ≡ (b.rows + 2) * (b.cols + 2) =
    rw c.bounds-bounds.ensures.value c.in_ok-net.ensures.size in
    let t = with_sinks (terrain_of c.args.view.now) c.args.sinks.now in
    let n = c.in_ok-net.net in
    let meeting = c.in_ok-meetings.ensures k d low in
    let level_at = λ (p : Place) (inside : IsInBounds b p).
    ap (λ z. entry_in b z p) (held (goal.at.returns-clause-meetings c).After-deref)
    ∙ inner_entry b found.levels p (found.flooded.levels_size ∙ size) inside in
    let label_at = λ (p : Place) (inside : IsInBounds b p).
    ap (λ z. entry_in b z p) (c.in_ok-labels.ensures.labels ∙ ap (map (label_of_node b)) found.nodes_are)
    ∙ label_entry b found.labels p (found.flooded.labels_size ∙ size) inside in
    meeting_there t b n _ found.levels found.labels _
    (subst (λ (w : Bounds). IsNetOf t w n) (sym c.bounds-bounds.ensures.value) c.in_ok-net.ensures)
    c.in_ok-labels.ensures.met level_at label_at meeting.0 _ meeting.2
    (All-contains (IsNodeMeeting n found.levels found.labels) _ meeting.0 found.meetings_are meeting.1)
