-- An extent is a part of the grid whose cells have flags, here a tile. A cell's flag is cleared
-- exactly if a crossing with the lines (all columns, or all rows) blocks its line of sight.
-- Private.
use Rattle.std.specs.Prelude.{◌≡◌, ℕ, ◌+◌, ◌*◌, ◌<◌, ◌≤◌, Bool, false, not, ◌&&◌, ℤ, pos, ◌+ℤ◌, List, length, Option, None, unwrap_or, slice_index_or, min, max}
use Rattle.terrain.specs.Raster.{Terrain}
use Rattle.terrain.specs.Neighbours.{height_of}
use Rattle.terrain.specs.declared.place.Place.{Place}
use Rattle.terrain.specs.declared.observer.Observer.{Observer}
use Rattle.tiles.specs.declared.bounds.Bounds.{Bounds}
use Rattle.sightlines.specs.Sight.{place_of}
use Rattle.sight.specs.Hiding.{IsInRun, flag_in_extent}
use Rattle.sight.specs.Sweep.{side_axis}
use Rattle.sightlines.specs.Walk.{walk_blocks}
use Rattle.sight.specs.declared.family.Family.{Family}
use Rattle.sight.specs.declared.sides.TileAxis.{TileAxis}
use Rattle.sightlines.specs.declared.walk.Sightline.{Sightline}
use Rattle.sight.specs.declared.extent.Extent.{Extent}

-- The observer's coordinate is below 4096, the tile ends by 4096, and strides are at most 4096.
pub record IsTileAxis (c : TileAxis) : Type 0 where
  pub at : c.at < 4096
  pub tile : c.tile.first + c.tile.cells ≤ 4096
  pub strides : (c.stride ≤ 4096) × (c.tile.stride ≤ 4096)

-- The columns, with the observer's and those of a tile; so the rows of a terrain.
abbrev pub columns_at : Bounds → Place → TileAxis
columns_at b p =
    record { at = p.col; stride = 1; tile = record { first = b.left; cells = b.cols; stride = 1 } }

abbrev pub rows_at : Terrain → Bounds → Place → TileAxis
rows_at t b p = record {
  at = p.row;
  stride = t.cols;
  tile = record { first = b.top; cells = b.rows; stride = b.cols };
}

-- The family whose lines are counted along the axis `lines`, away from coordinate 0, and run along
-- the axis `side`.
abbrev pub family_of : TileAxis → TileAxis → ℤ → Family
family_of lines side eye = record {
  lines = record { at = lines.at; stride = lines.stride; back = false };
  side = record {
    at = side.at;
    stride = side.stride;
    first = min side.at side.tile.first;
    cells = max (side.at + 1) (side.tile.first + side.tile.cells);
  };
  eye = eye;
}

-- The elevation of an observer's eye; the ground of a NODATA cell counts as 0.
abbrev pub eye_of : Terrain → Observer → ℤ
eye_of t o = height_of t (place_of o) +ℤ pos o.eye

-- The tile as an extent: the tile's run across the lines, and its run along the lines.
abbrev pub extent_of : TileAxis → TileAxis → Extent
extent_of lines side = record { lines = lines.tile; side = side.tile }

-- The family with its lines counted toward coordinate 0 if `back`, else away from it.
abbrev pub facing : Family → Bool → Family
facing f back = record {
  lines = record { at = f.lines.at; stride = f.lines.stride; back = back };
  side = f.side;
  eye = f.eye;
}

-- The line of sight from the eye to a target at this height above cell y of the line at
-- coordinate x. The ground of a NODATA cell counts as 0.
abbrev pub sightline_to : List (Option ℤ) → Family → ℕ → ℕ → ℕ → Sightline
sightline_to cells f height x y = record {
  lead = record { from = f.lines.at; to = x; stride = f.lines.stride };
  side = side_axis f y;
  from_elevation = f.eye;
  to_elevation = unwrap_or (slice_index_or cells (x * f.lines.stride + y * f.side.stride) None)
      (pos 0) +ℤ pos height;
}

-- A flag is cleared exactly if a crossing with the lines, on either side of the observer, blocks
-- its cell's line of sight.
pub record AreOpen (cells : List (Option ℤ)) (f : Family) (w : Extent) (height : ℕ)
    (old new : List Bool) : Type 0 where
  pub size : length new ≡ length old
  pub each : (x y : ℕ) → IsInRun w.lines x → IsInRun w.side y
      → flag_in_extent w x y new
      ≡ (flag_in_extent w x y old && not (walk_blocks cells (sightline_to cells f height x y)))
