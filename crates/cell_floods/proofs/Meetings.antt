-- A meeting of a net's nodes is a meeting of the cells at their places (`IsMeeting`).
use Rattle.std.proofs.Common.{◌≡◌, ℕ, ◌<◌, ℤ, List, get_or, Option, None, Some, is_some, ◌∙◌, sym, ap, arith}
use Rattle.terrain.specs.Raster.{Terrain}
use Rattle.terrain.specs.declared.place.Place.{Place}
use Rattle.tiles.specs.declared.bounds.Bounds.{Bounds}
use Rattle.tiles.specs.Cutting.{IsInBounds}
use Rattle.cell_floods.specs.Cells.{Cells, IsNetOf, node_at}
use Rattle.cell_floods.specs.Labels.{AreMet, IsIndexed, label_of_node}
use Rattle.cell_floods.specs.Spreading.{IsNodeMeeting}
use Rattle.cell_floods.specs.TileFlood.{Flood, IsMeeting, label_in, level_in}
use Rattle.cell_floods.specs.declared.tile.Meeting.{Meeting}
use Rattle.cell_floods.proofs.Rectangles.{joined_neighbours}

module _ (t : Terrain) (w : Bounds) (n : Cells) (f : Flood) (levels : List (Option ℤ))
    (labels : List (Option ℕ)) (met : List ℕ) (net : IsNetOf t w n) (are : AreMet w met f.table.places)
    (level_at : (p : Place) → IsInBounds w p → level_in f p ≡ get_or levels (node_at w p) None)
    (label_at : (p : Place) → IsInBounds w p →
    label_in f p ≡ label_of_node w (get_or labels (node_at w p) None)) where
  label_listed : (p : Place) (node label index : ℕ) → IsInBounds w p → node_at w p ≡ node →
      get_or labels node None ≡ Some label → get_or met label 0 ≡ index → 0 < index →
      label_in f p ≡ get_or f.table.places index None
  label_listed p node label index inside node_is label_is index_is some =
      label_at p inside ∙ ap (λ a. label_of_node w (get_or labels a None)) node_is
      ∙ ap (label_of_node w) label_is ∙ sym (are.place label (omega (arith, some, index_is)))
      ∙ ap (λ k. get_or f.table.places k None) index_is

  pub meeting_there : (was m : Meeting) → IsIndexed met was m → IsNodeMeeting n levels labels was →
      IsMeeting t f m
  meeting_there was m index is =
      let p = net.only is.from (ap is_some is.join.from_cell) in
      let q = net.only is.to (ap is_some is.join.to_cell) in
      record {
        from = p.0;
        to = q.0;
        from_level = is.from_level;
        to_level = is.to_level;
        neighbours = joined_neighbours t w n net p.0 q.0 is.from is.to is.height p.1 q.1 p.2 q.2 is.join;
        from_label = label_listed p.0 is.from was.from m.from p.1 p.2 is.from_label index.from
            index.from_some;
        to_label = label_listed q.0 is.to was.to m.to q.1 q.2 is.to_label index.to index.to_some;
        from_is = level_at p.0 p.1 ∙ ap (λ a. get_or levels a None) p.2 ∙ is.from_is;
        to_is = level_at q.0 q.1 ∙ ap (λ a. get_or levels a None) q.2 ∙ is.to_is;
        greater = is.greater ∙ index.level;
      }
