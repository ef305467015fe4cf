-- A horizon extended by the greater of two ramps at each target that it gains, up to an `end`. A
-- ramp is a straight line over targets' slopes: cells aside per row or column outward.
-- Public.
use Rattle.std.specs.Prelude.{◌≡◌, ℕ, ◌<◌, ◌≤◌, Bool, if◌then◌else◌, List, Some, slice_get}
use Rattle.horizons.specs.Horizons.{is_ramp_above, ramp_at, target_count, IsRampAt}
use Rattle.horizons.specs.declared.target.Target.{Target}
use Rattle.horizons.specs.declared.ramp.Ramp.{Ramp}
use Rattle.horizons.specs.declared.horizon.Piece.{Piece}

-- `IsRampAt` holds for the ramp at each target from index `from` on and before `end`.
abbrev pub IsRampOn : List Target → Ramp → ℕ → ℕ → Type 0
IsRampOn targets r from end =
    (i : ℕ) (t : Target) → from ≤ i → i < end → slice_get targets i ≡ Some t → IsRampAt r t

-- If b is true, ramp r is above ramp s at all targets from index `from` on and before `end`; else
-- at none of them.
abbrev pub IsAboveOn : List Target → Ramp → Ramp → Bool → ℕ → ℕ → Type 0
IsAboveOn targets r s b from end = (i : ℕ) (t : Target) → from ≤ i → i < end →
    slice_get targets i ≡ Some t → is_ramp_above r s t ≡ b

-- The greater of two ramps at the slope of a target; of equals the second.
abbrev pub greater_at : Ramp → Ramp → Target → Ramp
greater_at r s t = if is_ramp_above r s t then r else s

-- The horizon was extended up to `end`, by the greater of two ramps at each target that it gained.
pub record IsGreaterPushed (targets : List Target) (r s : Ramp) (old : List Piece) (end : ℕ)
    (new : List Piece) : Type 0 where
  pub reach : target_count new ≡ end
  pub kept : (i : ℕ) → i < target_count old → ramp_at new i ≡ ramp_at old i
  pub added : (i : ℕ) (t : Target) → target_count old ≤ i → i < end → slice_get targets i ≡ Some t →
      ramp_at new i ≡ Some (greater_at r s t)
