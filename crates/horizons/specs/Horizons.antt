-- A horizon has a ramp, which is a straight line over slopes, for each target of a sorted list, or
-- for the first ones. A target in the n-th row (or column) out from the observer, j cells aside,
-- has `line` n and the slope j / n. Targets are sorted by slope. A target's rise is its height
-- above the eye.
-- Public.
use Rattle.std.specs.Prelude.{◌≡◌, ℕ, ◌^◌, ◌<◌, ◌≤◌, max, nat_lt, if◌then◌else◌, Bool, false, ℤ, pos, unsigned_abs, int_lt, ◌+ℤ◌, ◌*ℤ◌, ◌≤ℤ◌, List, [], ◌∷◌, length, Option, None, Some, slice_get}
use Rattle.std.specs.Option.{option_map_or}
use Rattle.horizons.specs.declared.target.Target.{Target}
use Rattle.horizons.specs.declared.ramp.Ramp.{Ramp}
use Rattle.horizons.specs.declared.horizon.Piece.{Piece}
use Rattle.horizons.specs.declared.horizon.Cursor.{Cursor}

-- A target within bounds: 1 to 4095 rows or columns out, and at most 4096 cells aside.
pub record IsTarget (t : Target) : Type 0 where
  pub line : (0 < t.line) × (t.line < 4096)
  pub offset : unsigned_abs t.offset ≤ 4096

-- The slope of target s is at most that of target t.
abbrev pub IsSlopeUpTo : Target → Target → Type 0
IsSlopeUpTo s t = (s.offset *ℤ pos t.line) ≤ℤ (t.offset *ℤ pos s.line)

-- The targets are within bounds, and sorted by slope.
pub record AreTargets (targets : List Target) : Type 0 where
  pub each : (i : ℕ) (t : Target) → slice_get targets i ≡ Some t → IsTarget t
  pub sorted : (i j : ℕ) (s t : Target) → i < j → slice_get targets i ≡ Some s →
      slice_get targets j ≡ Some t → IsSlopeUpTo s t

-- The ramp's value at a target's slope, times the target's `line` and the ramp's `lines`.
abbrev pub ramp_value : Ramp → Target → ℤ
ramp_value r t = (r.gain *ℤ t.offset) +ℤ (r.intercept *ℤ pos t.line)

-- A ramp hides a target of this rise: its value at the target's slope is above `rise / line`.
abbrev pub ramp_hides : Ramp → Target → ℤ → Bool
ramp_hides r t rise = int_lt (rise *ℤ pos r.lines) (ramp_value r t)

-- Ramp r is above ramp s at the slope of a target.
abbrev pub is_ramp_above : Ramp → Ramp → Target → Bool
is_ramp_above r s t = int_lt (ramp_value s t *ℤ pos r.lines) (ramp_value r t *ℤ pos s.lines)

-- The ramp's `lines` is 1 to 4096, and `ramp_value` of the target fits in 64 bits.
pub record IsRampAt (r : Ramp) (t : Target) : Type 0 where
  pub lines : (0 < r.lines) × (r.lines ≤ 4096)
  pub value : unsigned_abs (ramp_value r t) < 2 ^ 63

-- A horizon's ramp at target index `i`: that of the first piece whose `end` is above `i`, if any.
unfoldable pub ramp_at : List Piece → ℕ → Option Ramp
ramp_at [] i = None
ramp_at (p ∷ ps) i = if nat_lt i p.end then Some p.ramp else ramp_at ps i

-- How many targets the pieces cover: the greatest `end` of a piece, 0 without pieces.
unfoldable pub target_count : List Piece → ℕ
target_count [] = 0
target_count (p ∷ ps) = max p.end (target_count ps)

-- A horizon hides the target of this index and rise.
abbrev pub hides : List Piece → ℕ → Target → ℤ → Bool
hides ps i t rise = option_map_or (λ r. ramp_hides r t rise) (ramp_at ps i) false

-- The horizon covers all targets, with a ramp within the bounds of `IsRampAt` at each.
pub record IsOver (targets : List Target) (ps : List Piece) : Type 0 where
  pub whole : target_count ps ≡ length targets
  pub each : (i : ℕ) (t : Target) (r : Ramp) → slice_get targets i ≡ Some t →
      ramp_at ps i ≡ Some r → IsRampAt r t

-- The horizon was extended up to `end` by this ramp, unless it covered at least `end` targets. The
-- ramps of targets that it reached before are the same.
pub record IsPushed (old : List Piece) (end : ℕ) (ramp : Ramp) (new : List Piece) : Type 0 where
  pub reach : target_count new ≡ max (target_count old) end
  pub kept : (i : ℕ) → i < target_count old → ramp_at new i ≡ ramp_at old i
  pub added : (i : ℕ) → target_count old ≤ i → i < end → ramp_at new i ≡ Some ramp

-- No piece before piece k has an `end` above `index`, a target's index.
abbrev pub AreUpTo : List Piece → ℕ → ℕ → Type 0
AreUpTo ps k index = (m : ℕ) (p : Piece) → m < k → slice_get ps m ≡ Some p → p.end ≤ index

-- The cursor may look up target `index`: no piece before its piece has an `end` above `index`.
abbrev pub IsUpTo : List Piece → Cursor → ℕ → Type 0
IsUpTo ps c index = AreUpTo ps c.piece index
