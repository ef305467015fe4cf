-- Which targets the lines of a family block, and when a ramp or a horizon hides the same targets. A
-- family's lines are the columns east or west of an observer, or the rows south or north. They
-- count 1, 2, 3, .. outward. A ray leads from the observer to a target, seen from above.
-- Private.
use Rattle.std.specs.Prelude.{◌≡◌, ℕ, ◌+◌, ◌-◌, ◌*◌, ◌^◌, ◌<◌, ◌≤◌, Bool, true, ◌||◌, if◌then◌else◌, ℤ, pos, unsigned_abs, ◌+ℤ◌, ◌-ℤ◌, ◌*ℤ◌, ◌<ℤ◌, ◌≤ℤ◌, List, Option, Some, slice_get}
use Rattle.std.specs.List.{list_any, range_with_len}
use Rattle.horizons.specs.declared.target.Target.{Target}
use Rattle.horizons.specs.declared.ramp.Ramp.{Ramp}
use Rattle.horizons.specs.declared.horizon.Piece.{Piece}
use Rattle.horizons.specs.Horizons.{IsRampAt, IsOver, ramp_hides, hides, ramp_at}
use Rattle.sightlines.specs.Walk.{IsElevation, step_blocks}
use Rattle.sightlines.specs.declared.walk.Axis.{Axis}
use Rattle.sight.specs.declared.family.Family.{Family}

-- The coordinate of line k.
abbrev pub lead_of : Family → ℕ → ℕ
lead_of f k = if f.lines.back then f.lines.at - k else f.lines.at + k

-- The offset of cell y from the observer, along the lines.
abbrev pub offset_of : Family → ℕ → ℤ
offset_of f y = pos y -ℤ pos f.side.at

-- The coordinate across the lines, from the observer to line n.
abbrev pub lead_axis : Family → ℕ → Axis
lead_axis f n = record { from = f.lines.at; to = lead_of f n; stride = f.lines.stride }

-- The coordinate along the lines, from the observer to cell y.
abbrev pub side_axis : Family → ℕ → Axis
side_axis f y = record { from = f.side.at; to = y; stride = f.side.stride }

-- Line k blocks a target at cell y of line n, at this rise above the eye.
abbrev pub line_blocks : List (Option ℤ) → Family → ℕ → ℕ → ℤ → ℕ → Bool
line_blocks cells f n y rise k =
    step_blocks cells (lead_axis f n) (side_axis f y) f.eye (f.eye +ℤ rise) n k

-- A line before line k blocks a target at cell y of line n, at this rise above the eye.
abbrev pub is_blocked_before : List (Option ℤ) → Family → ℕ → ℕ → ℤ → ℕ → Bool
is_blocked_before cells f n y rise k =
    list_any (line_blocks cells f n y rise) (range_with_len 1 (k - 1))

-- The observer's coordinates are below 4096, and strides are at most 4096. The side has the
-- observer's cell and ends by 4096. The eye's elevation is within its limit.
pub record IsFamily (f : Family) : Type 0 where
  pub lines : f.lines.at < 4096
  pub first : f.side.first ≤ f.side.at
  pub side : f.side.at < f.side.cells
  pub cells : f.side.cells ≤ 4096
  pub strides : (f.lines.stride ≤ 4096) × (f.side.stride ≤ 4096)
  pub eye : IsElevation f.eye

-- k is from 1 to 4096. If lines count toward coordinate 0, line k is not past it.
abbrev pub IsLine : Family → ℕ → Type 0
IsLine f k = (0 < k) × (k ≤ 4096) × (f.lines.back ≡ true → k ≤ f.lines.at)

-- The coordinate of the cell at this offset is from 0 to below the side's end. On line k the cell
-- has this index in the list of cells.
abbrev pub IsCell : Family → ℕ → ℤ → ℕ → Type 0
IsCell f k offset index = (c : ℕ) × (c < f.side.cells) × (pos c ≡ pos f.side.at +ℤ offset)
    × (index ≡ lead_of f k * f.lines.stride + c * f.side.stride)

-- On line k the ray to a target passes over the cell at this offset, or between this cell and the
-- next.
pub record Passes (k : ℕ) (offset : ℤ) (t : Target) : Type 0 where
  pub low : (offset *ℤ pos t.line) ≤ℤ (t.offset *ℤ pos k)
  pub high : (t.offset *ℤ pos k) <ℤ ((offset +ℤ pos 1) *ℤ pos t.line)

-- On line k the ray to a target passes over a cell from offset `first` to `last`, or between that
-- cell and the next.
pub record PassesAmong (k : ℕ) (first last : ℤ) (t : Target) : Type 0 where
  pub low : (first *ℤ pos t.line) ≤ℤ (t.offset *ℤ pos k)
  pub high : (t.offset *ℤ pos k) <ℤ ((last +ℤ pos 1) *ℤ pos t.line)

-- On line k the ray to a target passes before the cell at this offset.
abbrev pub PassesBefore : ℕ → ℤ → Target → Type 0
PassesBefore k offset t = (t.offset *ℤ pos k) <ℤ (offset *ℤ pos t.line)

-- On line k the rays to all targets below index `end` pass before the cell at this offset.
abbrev pub AreBefore : List Target → ℕ → ℤ → ℕ → Type 0
AreBefore targets k offset end =
    (i : ℕ) (t : Target) → i < end → slice_get targets i ≡ Some t → PassesBefore k offset t

-- The target is cell y of a line of the family.
pub record IsAtCell (f : Family) (y : ℕ) (t : Target) : Type 0 where
  pub offset : t.offset ≡ offset_of f y
  pub first : f.side.first ≤ y
  pub side : y < f.side.cells
  pub line : IsLine f t.line

-- The ramp of line k's ground from the cell at `offset`, of height `near`, to the next, of `far`.
abbrev pub ramp_of : Family → ℕ → ℤ → ℤ → ℤ → Ramp
ramp_of f k offset near far =
    let step = far -ℤ near in
    record {
      gain = step *ℤ pos k;
      intercept = (near -ℤ f.eye) -ℤ (step *ℤ offset);
      lines = k;
      clear_to = 0;
    }

-- The ramp of ground of one height along line k.
abbrev pub constant_ramp : Family → ℕ → ℤ → Ramp
constant_ramp f k height =
    record { gain = pos 0; intercept = height -ℤ f.eye; lines = k; clear_to = 0 }

-- The ramp with n noted as its `clear_to`.
abbrev pub cleared_to : Ramp → ℕ → Ramp
cleared_to r n = record r { clear_to = n }

-- The rise of a target above the eye is within its limit.
abbrev pub IsRise : ℤ → Type 0
IsRise rise = unsigned_abs rise ≤ 2 ^ 51

-- The ramp is within bounds at target t (`IsRampAt`). If t is beyond line k, then at each rise
-- within the limit the ramp hides t exactly if line k blocks t.
pub record IsShadow (cells : List (Option ℤ)) (f : Family) (k : ℕ) (t : Target)
    (r : Ramp) : Type 0 where
  pub at : IsRampAt r t
  pub hides : (y : ℕ) (rise : ℤ) → IsAtCell f y t → k < t.line → IsRise rise →
      ramp_hides r t rise ≡ line_blocks cells f t.line y rise k

-- The ramp hides each target of index `from` to below `end`, beyond line k, that line k blocks.
abbrev pub IsHiddenOn : List (Option ℤ) → Family → List Target → ℕ → Ramp → ℕ → ℕ → Type 0
IsHiddenOn cells f targets k r from end =
    (i : ℕ) (t : Target) → from ≤ i → i < end → slice_get targets i ≡ Some t
    → (y : ℕ) (rise : ℤ) → IsAtCell f y t → k < t.line →
    line_blocks cells f t.line y rise k ≡ true → ramp_hides r t rise ≡ true

-- If a line from k to below the ramp's `clear_to` blocks target t, the ramp hides t.
abbrev pub IsClear : List (Option ℤ) → Family → ℕ → Target → Ramp → Type 0
IsClear cells f k t r = (j y : ℕ) (rise : ℤ) → k ≤ j → j < r.clear_to → IsAtCell f y t → j < t.line
    → line_blocks cells f t.line y rise j ≡ true → ramp_hides r t rise ≡ true

-- `IsClear` holds of each target and its ramp.
abbrev pub AreClear : List (Option ℤ) → Family → List Target → ℕ → List Piece → Type 0
AreClear cells f targets k h = (i : ℕ) (t : Target) (r : Ramp) → slice_get targets i ≡ Some t →
    ramp_at h i ≡ Some r → IsClear cells f k t r

-- The ramp is within bounds at target t, of index i, and clear beyond line k (`IsClear`). If t is
-- beyond line k, then at each rise within the limit the ramp hides t exactly if the old horizon
-- does or line k blocks t.
pub record Raises (cells : List (Option ℤ)) (f : Family) (k : ℕ) (old : List Piece) (i : ℕ)
    (t : Target) (r : Ramp) : Type 0 where
  pub at : IsRampAt r t
  pub clear : IsClear cells f (k + 1) t r
  pub hides : (y : ℕ) (rise : ℤ) → IsAtCell f y t → k < t.line → IsRise rise →
      ramp_hides r t rise ≡ (hides old i t rise || line_blocks cells f t.line y rise k)

-- The new horizon has a ramp for each target below index `end`. If the target is beyond line k, the
-- ramp hides it exactly if the old horizon does or line k blocks it (`Raises`).
abbrev pub RaisesBelow : List (Option ℤ) → Family → List Target → ℕ → List Piece → ℕ → List Piece →
    Type 0
RaisesBelow cells f targets k old end new =
    (i : ℕ) (t : Target) → i < end → slice_get targets i ≡ Some t
    → (r : Ramp) × (ramp_at new i ≡ Some r) × Raises cells f k old i t r

-- The horizon covers the targets, with a ramp within bounds at each (`IsOver`), clear from line k
-- on (`AreClear`). Take a target on line k or beyond, at a rise within the limit. The horizon hides
-- the target exactly if a line before line k blocks it.
pub record HidesBefore (cells : List (Option ℤ)) (f : Family) (targets : List Target) (k : ℕ)
    (h : List Piece) : Type 0 where
  pub over : IsOver targets h
  pub clear : AreClear cells f targets k h
  pub hides : (i : ℕ) (t : Target) (y : ℕ) (rise : ℤ) → slice_get targets i ≡ Some t →
      IsAtCell f y t → k ≤ t.line → IsRise rise
      → hides h i t rise ≡ is_blocked_before cells f t.line y rise k
