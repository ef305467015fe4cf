-- An extent is a part of the grid whose cells have flags. A cell's flag is cleared if a line of a
-- family hides the cell. These lines are the columns, or the rows, on one side of an observer.
-- Private.
use Rattle.std.specs.Prelude.{◌≡◌, ℕ, ◌+◌, ◌-◌, ◌*◌, ◌<◌, ◌≤◌, Bool, true, false, not, ◌&&◌, ◌⊎◌, ℤ, pos, ◌+ℤ◌, ◌-ℤ◌, List, length, Option, None, Some, unwrap_or, slice_get, slice_index_or}
use Rattle.horizons.specs.declared.target.Target.{Target}
use Rattle.sight.specs.Sweep.{lead_of, offset_of, IsLine, IsAtCell, is_blocked_before}
use Rattle.sight.specs.declared.family.Family.{Family}
use Rattle.sight.specs.declared.extent.CellRun.{CellRun}
use Rattle.sight.specs.declared.extent.Extent.{Extent}

-- The run has a cell at coordinate x.
abbrev pub IsInRun : CellRun → ℕ → Type 0
IsInRun r x = (r.first ≤ x) × (x < r.first + r.cells)

-- The run across the lines ends by 4096, and strides are at most 4096. The run along the lines has
-- only cells of the family's side. Each cell of the extent has a flag.
pub record IsExtent (f : Family) (w : Extent) (flags : List Bool) : Type 0 where
  pub lines : w.lines.first + w.lines.cells ≤ 4096
  pub first : f.side.first ≤ w.side.first
  pub side : w.side.first + w.side.cells ≤ f.side.cells
  pub strides : (w.lines.stride ≤ 4096) × (w.side.stride ≤ 4096)
  pub inside : (x y : ℕ) → x < w.lines.cells → y < w.side.cells →
      x * w.lines.stride + y * w.side.stride < length flags

-- Along one coordinate the flags of neighbouring cells are adjacent. Along the other they are at
-- least as far apart as the first coordinate's run has cells. So no two cells share a flag.
pub record IsApart (w : Extent) : Type 0 where
  pub apart : ((w.side.stride ≡ 1) × (w.side.cells ≤ w.lines.stride))
      ⊎ ((w.lines.stride ≡ 1) × (w.lines.cells ≤ w.side.stride))

-- Line n exists, n is at least 2, and the line's coordinate is in the extent's run across lines.
pub record Crosses (f : Family) (w : Extent) (n : ℕ) : Type 0 where
  pub later : 2 ≤ n
  pub line : IsLine f n
  pub within : IsInRun w.lines (lead_of f n)

-- The index of the flag of the cell at coordinates x and y.
abbrev pub flag_index : Extent → ℕ → ℕ → ℕ
flag_index w x y = (x - w.lines.first) * w.lines.stride + (y - w.side.first) * w.side.stride

-- Whether the cell at coordinates x and y is flagged.
abbrev pub flag_in_extent : Extent → ℕ → ℕ → List Bool → Bool
flag_in_extent w x y flags = slice_index_or flags (flag_index w x y) false

-- The target is a cell of the extent, on line 2 or beyond.
pub record IsRay (f : Family) (w : Extent) (t : Target) : Type 0 where
  pub cell : ℕ
  pub stands : IsAtCell f cell t
  pub within : IsInRun w.side cell
  pub crosses : Crosses f w t.line

-- The target at cell y of line n.
abbrev pub target_at : Family → ℕ → ℕ → Target
target_at f n y = record { offset = offset_of f y; line = n }

-- The targets are cells of the extent, in the order of their lines, none past line n. From line 2
-- on, each flagged cell of a line before line n, or of line n before cell c, is among the targets.
-- There are at most 4096 for each of n lines, and one more for each of the extent's cells before c.
pub record AreRays (f : Family) (w : Extent) (flags : List Bool) (n c : ℕ)
    (rays : List Target) : Type 0 where
  pub few : length rays ≤ n * 4096 + (c - w.side.first)
  pub each : (u : ℕ) (t : Target) → slice_get rays u ≡ Some t → IsRay f w t × (t.line ≤ n)
  pub sorted : (u v : ℕ) (s t : Target) → u ≤ v → slice_get rays u ≡ Some s →
      slice_get rays v ≡ Some t → s.line ≤ t.line
  pub whole : (m y : ℕ) → (m < n) ⊎ ((m ≡ n) × (y < c)) → Crosses f w m → IsInRun w.side y →
      flag_in_extent w (lead_of f m) y flags ≡ true
      → (u : ℕ) × (slice_get rays u ≡ Some (target_at f m y))

-- The height of cell y of line n, or None for NODATA or past the list's end.
abbrev pub line_height : List (Option ℤ) → Family → ℕ → ℕ → Option ℤ
line_height cells f n y =
    slice_index_or cells (lead_of f n * f.lines.stride + y * f.side.stride) None

-- The rise above the eye of a target at this height above cell y of line n; NODATA counts as 0.
abbrev pub rise_at : List (Option ℤ) → Family → ℕ → ℕ → ℕ → ℤ
rise_at cells f height n y = (unwrap_or (line_height cells f n y) (pos 0) +ℤ pos height) -ℤ f.eye

-- A line before line n blocks a target at this height above cell y of line n.
abbrev pub lines_block_at : List (Option ℤ) → Family → ℕ → ℕ → ℕ → Bool
lines_block_at cells f n y height = is_blocked_before cells f n y (rise_at cells f height n y) n

-- The entry of the cell at coordinates x and y, in a list with one for each cell of the extent.
abbrev pub entry_in_extent : {A : Type 0} → A → Extent → ℕ → ℕ → List A → A
entry_in_extent default w x y entries = slice_index_or entries (flag_index w x y) default

-- Cells of the extent that are on no line from 2 on keep their entries.
abbrev pub KeepsOthers : {A : Type 0} → A → Family → Extent → List A → List A → Type 0
KeepsOthers default f w old new =
    (x y : ℕ) → IsInRun w.lines x → IsInRun w.side y →
    ((n : ℕ) → Crosses f w n → lead_of f n ≡ x → ⊥) →
    entry_in_extent default w x y new ≡ entry_in_extent default w x y old

-- `Met` is true of the old and the new entry of each cell y of line n, from line 2 on. All other
-- cells of the extent keep their entries.
pub record AreMet {A : Type 0} (default : A) (Met : ℕ → ℕ → A → A → Type 0) (f : Family)
    (w : Extent) (old new : List A) : Type 0 where
  pub size : length new ≡ length old
  pub crossed : (n y : ℕ) → Crosses f w n → IsInRun w.side y →
      Met n y (entry_in_extent default w (lead_of f n) y old)
      (entry_in_extent default w (lead_of f n) y new)
  pub kept : KeepsOthers default f w old new

-- The new flag of cell y of line n: the old one, unless a line before line n blocks the cell.
abbrev pub IsFlagLeft : List (Option ℤ) → Family → ℕ → ℕ → ℕ → Bool → Bool → Type 0
IsFlagLeft cells f height n y old new = new ≡ (old && not (lines_block_at cells f n y height))

-- A cell on line 2 or beyond keeps its flag unless a line before its own blocks the cell.
abbrev pub AreHidden : List (Option ℤ) → Family → Extent → ℕ → List Bool → List Bool → Type 0
AreHidden cells f w height = AreMet false (IsFlagLeft cells f height) f w
