-- Whether the ground of a list of cells blocks a line of sight. One coordinate of the line leads,
-- the other is its side. A walk tests a step at each cell of the leading coordinate between the
-- line's ends. Public clauses cite `IsElevation` and, through `IsTops` of `Blocks`, `AreHeights`.
-- Public.
use Rattle.std.specs.Prelude.{◌≡◌, ℕ, ◌+◌, ◌-◌, ◌*◌, ◌/◌, ◌%◌, ◌^◌, ◌<◌, ◌≤◌, Bool, false, not, ◌&&◌, ◌==◌, if◌then◌else◌, ℤ, pos, unsigned_abs, ◌+ℤ◌, ◌*ℤ◌, int_lt, List, length, Option, None, Some, option_map, option_and_then, slice_index_or, max}
use Rattle.std.specs.Int.{abs_diff}
use Rattle.std.specs.List.{list_any, range_with_len}
use Rattle.std.specs.Option.{option_map_or}
use Rattle.terrain.specs.Raster.{Terrain, IsHeight}
use Rattle.terrain.specs.declared.place.Place.{Place}
use Rattle.sightlines.specs.Sight.{toward, sight, is_open, is_seen, place_of}
use Rattle.terrain.specs.declared.observer.Observer.{Observer}
use Rattle.sightlines.specs.declared.line.Sightlines.{Sightlines}
use Rattle.sightlines.specs.declared.walk.Axis.{Axis}
use Rattle.sightlines.specs.declared.walk.Sightline.{Sightline}
use Rattle.sightlines.specs.declared.walk.Step.{Step}
use Rattle.terrain.specs.Neighbours.{height_of}

-- The whole cell of a line on a coordinate, at step k of n.
abbrev pub whole_at : Axis → ℕ → ℕ → ℕ
whole_at a n k = toward a.from a.to n k / n

-- The n-ths of a cell past the whole cell, at step k of n.
abbrev pub part_at : Axis → ℕ → ℕ → ℕ
part_at a n k = toward a.from a.to n k % n

-- The index, in the list of cells, of the near cell of step k of n: the cell at or before the line.
abbrev pub index_at : Axis → Axis → ℕ → ℕ → ℕ
index_at lead side n k = whole_at lead n k * lead.stride + whole_at side n k * side.stride

-- Weight times height. It is 0 for weight 0, and None for NODATA of a weight above 0.
abbrev pub weighed_height : Option ℤ → ℕ → Option ℤ
weighed_height height weight =
    if weight == 0 then Some (pos 0) else option_map (λ h. pos weight *ℤ h) height

-- The ground between two cells has data, and its weighted sum of heights is above z, the line's
-- elevation times the number of steps.
abbrev pub is_above : Option ℤ → ℕ → Option ℤ → ℕ → ℤ → Bool
is_above near near_weight far far_weight z =
    option_map_or (λ g. int_lt z g)
    (option_and_then (λ x. option_map (λ y. x +ℤ y) (weighed_height far far_weight))
    (weighed_height near near_weight)) false

-- The ground at step k of n is above the line from elevation e to elevation f.
abbrev pub step_blocks : List (Option ℤ) → Axis → Axis → ℤ → ℤ → ℕ → ℕ → Bool
step_blocks cells lead side e f n k =
    let i = index_at lead side n k in
    let m = part_at side n k in
    is_above (slice_index_or cells i None) (n - m) (slice_index_or cells (i + side.stride) None) m
    (sight e f n k)

-- The number of steps of a line.
abbrev pub steps_of : Sightline → ℕ
steps_of l = abs_diff l.lead.from l.lead.to

-- Of `count` steps, the first of which is `first`, one blocks.
abbrev pub step_range_blocks : List (Option ℤ) → Sightline → ℕ → ℕ → Bool
step_range_blocks cells l first count =
    list_any (λ k. step_blocks cells l.lead l.side l.from_elevation l.to_elevation (steps_of l) k)
    (range_with_len first count)

-- A step between the line's two ends blocks.
abbrev pub walk_blocks : List (Option ℤ) → Sightline → Bool
walk_blocks cells l = step_range_blocks cells l 1 (steps_of l - 1)

-- The columns of a line between two places, as a coordinate.
abbrev pub columns_of : Place → Place → Axis
columns_of p q = record { from = p.col; to = q.col; stride = 1 }

-- The rows of a line between two places, as a coordinate.
abbrev pub rows_of : Terrain → Place → Place → Axis
rows_of t p q = record { from = p.row; to = q.row; stride = t.cols }

-- The line between two places with the columns leading, from elevation e to elevation f.
abbrev pub over_columns : Terrain → Place → Place → ℤ → ℤ → Sightline
over_columns t p q e f =
    record { lead = columns_of p q; side = rows_of t p q; from_elevation = e; to_elevation = f }

-- The line between two places with the rows leading, from elevation e to elevation f.
abbrev pub over_rows : Terrain → Place → Place → ℤ → ℤ → Sightline
over_rows t p q e f =
    record { lead = rows_of t p q; side = columns_of p q; from_elevation = e; to_elevation = f }

-- Each cell between the line's ends along both coordinates has its index in the list.
abbrev pub CoversLine : List (Option ℤ) → Axis → Axis → Type 0
CoversLine cells lead side =
    max lead.from lead.to * lead.stride + max side.from side.to * side.stride < length cells

-- Each height of the list is within the limits of a height (`IsHeight`).
abbrev pub AreHeights : List (Option ℤ) → Type 0
AreHeights cells = (i : ℕ) (h : ℤ) → slice_index_or cells i None ≡ Some h → IsHeight h

-- The elevation is within 2 ^ 50 of 0. A height is within 10 ^ 15, and an eye or a target is at
-- most 10 ^ 6 above the height of its cell.
abbrev pub IsElevation : ℤ → Type 0
IsElevation z = unsigned_abs z ≤ 2 ^ 50

-- The line's ends are below 4096, its strides at most 4096, and its elevations within 2 ^ 50 of 0.
pub record IsSightline (l : Sightline) : Type 0 where
  pub ends : (l.lead.from < 4096) × (l.lead.to < 4096) × (l.side.from < 4096) × (l.side.to < 4096)
  pub strides : (l.lead.stride ≤ 4096) × (l.side.stride ≤ 4096)
  pub from_elevation : IsElevation l.from_elevation
  pub to_elevation : IsElevation l.to_elevation

-- `s` has the whole cell and the part on the side coordinate, and the sight, of the line at step k.
pub record IsAt (l : Sightline) (k : ℕ) (s : Step) : Type 0 where
  pub whole : s.whole ≡ whole_at l.side (steps_of l) k
  pub part : s.part ≡ part_at l.side (steps_of l) k
  pub sight : s.sight ≡ sight l.from_elevation l.to_elevation (steps_of l) k

-- The lines from a target to an observer over columns and over rows. The observer sees the target
-- exactly if neither is blocked.
pub record AreSightlines (t : Terrain) (o : Observer) (q : Place) (target radius : ℕ)
    (lines : Sightlines) : Type 0 where
  pub columns : lines.columns ≡ over_columns t q (place_of o) (height_of t q +ℤ pos target)
      (height_of t (place_of o) +ℤ pos o.eye)
  pub rows : lines.rows ≡ over_rows t q (place_of o) (height_of t q +ℤ pos target)
      (height_of t (place_of o) +ℤ pos o.eye)
  pub small_columns : IsSightline lines.columns
  pub small_rows : IsSightline lines.rows
  pub columns_inside : CoversLine t.cells lines.columns.lead lines.columns.side
  pub rows_inside : CoversLine t.cells lines.rows.lead lines.rows.side
  pub seen : is_seen t o q target radius
      ≡ (not (walk_blocks t.cells lines.columns) && not (walk_blocks t.cells lines.rows))
  pub reached : (height : ℕ) → is_seen t o q height radius ≡ is_open t o q height
