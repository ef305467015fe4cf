-- Defines the places of a rim, a tile's outermost cells, from one place on in row order: those that
-- iterator `Rim` still has to yield. Source: this project.
-- Public.
use Rattle.std.specs.Prelude.{◌≡◌, ◌+◌, ◌-◌, ◌<◌, ◌≤◌, IsTrue, List, ◌++◌, map, filter}
use Rattle.std.specs.List.{range_with_len, flat_map}
use Rattle.terrain.specs.declared.place.Place.{Place}
use Rattle.tiles.specs.declared.bounds.Bounds.{Bounds}
use Rattle.tiles.specs.Cutting.{is_first_or_last, longest_axis}

-- The places in bounds from place p on, in row order.
abbrev pub places_from : Bounds → Place → List Place
places_from b p =
    map (λ c. record { row = p.row; col = c }) (range_with_len p.col (b.left + b.cols - p.col))
    ++ flat_map (λ r. map (λ c. record { row = r; col = c }) (range_with_len b.left b.cols))
    (range_with_len (p.row + 1) (b.top + b.rows - (p.row + 1)))

-- The places of the rim from place p on, in row order.
abbrev pub rim_from : Bounds → Place → List Place
rim_from b p = filter (is_first_or_last b) (places_from b p)

-- Bounds b have a cell and are within limits. Place p, the next to yield, is on the rim, or one
-- column past the end of the last row once all are yielded.
pub record IsRimState (b : Bounds) (p : Place) : Type 0 where
  pub some_row : 1 ≤ b.rows
  pub some_col : 1 ≤ b.cols
  pub few_rows : b.top + b.rows ≤ longest_axis
  pub few_cols : b.left + b.cols ≤ longest_axis
  pub below_top : b.top ≤ p.row
  pub above_end : p.row < b.top + b.rows
  pub from_left : b.left ≤ p.col
  pub to_end : p.col ≤ b.left + b.cols
  pub on_rim : p.col < b.left + b.cols → IsTrue (is_first_or_last b p)
  pub over : b.left + b.cols ≤ p.col → p.row + 1 ≡ b.top + b.rows
