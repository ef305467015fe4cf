-- Makes a grid of its header, scale, cells and sinks, and replaces a grid's cells and sinks.
-- Source: this project.
-- Public.
use Rattle.std.specs.Prelude.{ℕ, ℤ, List, Option}
use Rattle.terrain.specs.Raster.{Raster}
use Rattle.terrain.specs.declared.grid.GridHeader.{GridHeader}
use Rattle.terrain.specs.declared.place.Place.{Place}

-- The grid of a header, a scale, cells and sinks.
abbrev pub raster_with : GridHeader → ℕ → List (Option ℤ) → List Place → Raster
raster_with header scale cells sinks = record {
  terrain = record { cols = header.cols; rows = header.rows; cells = cells; sinks = sinks };
  xll = record { centre = header.xll.centre; word = header.xll.word };
  yll = record { centre = header.yll.centre; word = header.yll.word };
  cellsize = header.cellsize;
  nodata = header.nodata;
  scale = scale;
}

-- The grid with these cells and sinks in place of its own.
abbrev pub raster_with_parts : Raster → List (Option ℤ) → List Place → Raster
raster_with_parts g cells sinks =
    record g { terrain = record g.terrain { cells = cells; sinks = sinks } }
