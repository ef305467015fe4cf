-- A header as six slots, each empty or filled with one header value, and the grid that filled slots
-- and a list of cells make.
-- Source: this project.
-- Public.
use Rattle.std.specs.Prelude.{ℕ, ◌*◌, ℤ, IsSome, Bool, false, not, ◌||◌, codes, List, [], find, Option, None, Some, is_some, unwrap_or, option_map}
use Rattle.std.specs.Option.{option_map_or}
use Rattle.terrain.specs.Words.{Word}
use Rattle.terrain.specs.Decimal.{number_of}
use Rattle.terrain.specs.Raster.{Raster, raster}
use Rattle.ascii_grid.specs.Header.{is_key, required_slots}
use Rattle.ascii_grid.specs.declared.fault.Key.{Key}
use Rattle.ascii_grid.specs.declared.fault.Key.TheVariants.{Ncols, Nrows, Xll, Yll, Cellsize, Nodata}
use Rattle.ascii_grid.specs.declared.fault.GridFault.{GridFault}
use Rattle.ascii_grid.specs.declared.fault.GridFault.TheVariants.{MissingKey}
use Rattle.terrain.specs.declared.grid.Anchor.{Anchor}
use Rattle.ascii_grid.specs.declared.header.Header.{Header}

-- A header of which no slot is filled.
abbrev pub no_slots : Header
no_slots = record {
  cols = None;
  rows = None;
  xll = None;
  yll = None;
  cellsize = None;
  nodata = None;
}

-- The slot is filled.
abbrev pub is_given : Header → Key → Bool
is_given h Ncols = is_some h.cols
is_given h Nrows = is_some h.rows
is_given h Xll = is_some h.xll
is_given h Yll = is_some h.yll
is_given h Cellsize = is_some h.cellsize
is_given h Nodata = is_some h.nodata

-- The coordinate `w` of the lower left cell's centre if `centre`, else of that cell's corner.
abbrev pub anchor_at : Bool → Word → Anchor
anchor_at centre w = record { centre = centre; word = w }

-- The key word names the centre of the lower left cell.
abbrev pub is_centre : Word → Bool
is_centre k = is_key (codes "xllcenter") k || is_key (codes "yllcenter") k

-- The header `h` with this slot filled by the word `w`. `Xll` and `Yll` store `centre` too.
abbrev pub with_value : Header → Key → Bool → Word → Header
with_value h Ncols centre w = record h { cols = Some (number_of w) }
with_value h Nrows centre w = record h { rows = Some (number_of w) }
with_value h Xll centre w = record h { xll = Some (anchor_at centre w) }
with_value h Yll centre w = record h { yll = Some (anchor_at centre w) }
with_value h Cellsize centre w = record h { cellsize = Some w }
with_value h Nodata centre w = record h { nodata = Some w }

-- `MissingKey` of the first required slot that is empty; `None` if all are filled.
abbrev pub missing_of : Header → Option GridFault
missing_of h = option_map MissingKey (find (λ slot. not (is_given h slot)) required_slots)

-- The number of cells that the header asks for: columns times rows.
abbrev pub wanted_of : Header → ℕ
wanted_of h = unwrap_or h.cols 0 * unwrap_or h.rows 0

-- All required slots are filled: all but the NODATA word's.
pub record IsWhole (h : Header) : Type 0 where
  pub cols : IsSome h.cols
  pub rows : IsSome h.rows
  pub xll : IsSome h.xll
  pub yll : IsSome h.yll
  pub cellsize : IsSome h.cellsize

-- The grid of these slots and cells.
abbrev pub raster_of : Header → ℕ → Word → List (Option ℤ) → Raster
raster_of h scale nodata cells = raster
    (unwrap_or h.cols 0) (unwrap_or h.rows 0)
    (option_map_or (λ (a : Anchor). a.centre) h.xll false)
    (option_map_or (λ (a : Anchor). a.word) h.xll [])
    (option_map_or (λ (a : Anchor). a.centre) h.yll false)
    (option_map_or (λ (a : Anchor). a.word) h.yll [])
    (unwrap_or h.cellsize []) nodata scale cells
