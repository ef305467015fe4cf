-- In a lawful grid all parts are within limits, and no height is the NODATA value (`IsLawful`). The
-- grid stays lawful if equally many cells replace its own, each NODATA or of a height in range and
-- other than the NODATA value. Places inside the grid may replace its sinks.
use Rattle.std.proofs.Common.{◌≡◌, ◌≢◌, ◌*◌, ℤ, List, length, get_or, Option, None, Some}
use Rattle.std.specs.Prelude.{IfSome}
use Rattle.std.specs.List.{All, Contains}
use Rattle.std.proofs.lemmas.List.Elements.{All-contains}
use Rattle.terrain.specs.Decimal.{scaled_value}
use Rattle.terrain.specs.Raster.{Raster, IsLawful, IsHeight, IsInGrid}
use Rattle.terrain.specs.Parts.{raster_with_parts}
use Rattle.terrain.specs.declared.place.Place.{Place}

-- if all heights in `old` have property P, and each height in `cells` occurs in `old`, then all
-- heights in `cells` have P
heights_kept : (P : ℤ → Type 0) (old cells : List (Option ℤ)) → All (λ c. IfSome c P) old →
    All (λ c. IfSome c (λ h. Contains old (Some h))) cells → All (λ c. IfSome c P) cells
heights_kept P old cells all held i d low = at (get_or cells i d) (held i d low) where
  at : (o : Option ℤ) → IfSome o (λ h. Contains old (Some h)) → IfSome o P
  at None h = h
  at (Some z) h = All-contains (λ c. IfSome c P) old (Some z) all h

-- a lawful grid stays lawful with `cells`, one for each place, and `sinks` inside the grid. Each of
-- `cells` is NODATA or has a height in range other than the NODATA value.
pub lawful_with_parts : (g : Raster) (cells : List (Option ℤ)) (sinks : List Place) → IsLawful g
    → length cells ≡ g.terrain.cols * g.terrain.rows → All (λ c. IfSome c IsHeight) cells
    → All (λ c. IfSome c (λ h. scaled_value g.scale g.nodata ≢ Some h)) cells
    → All (IsInGrid g.terrain.cols g.terrain.rows) sinks
    → IsLawful (raster_with_parts g cells sinks)
lawful_with_parts g cells sinks lawful size heights apart inside =
    let t = lawful.terrain in
    record {
      terrain = record {
        some_col = t.some_col;
        some_row = t.some_row;
        few_cols = t.few_cols;
        few_rows = t.few_rows;
        size = size;
        heights = heights;
        sinks = inside;
      };
      scale = lawful.scale;
      xll = lawful.xll;
      yll = lawful.yll;
      cellsize = lawful.cellsize;
      above_zero = lawful.above_zero;
      nodata = lawful.nodata;
      apart = apart;
    }

pub lawful_with_cells : (g : Raster) (cells : List (Option ℤ)) →
    IsLawful g → length cells ≡ g.terrain.cols * g.terrain.rows → All (λ c. IfSome c (λ h.
    Contains g.terrain.cells (Some h))) cells → IsLawful (raster_with_parts g cells g.terrain.sinks)
lawful_with_cells g cells lawful size held =
    let old = g.terrain.cells in
    lawful_with_parts g cells g.terrain.sinks lawful size
    (heights_kept _ old cells lawful.terrain.heights held)
    (heights_kept _ old cells lawful.apart held) lawful.terrain.sinks
