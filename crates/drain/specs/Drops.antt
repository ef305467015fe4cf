-- The steepest way down by the eight heights around a cell. Ways are the eight directions, from 0
-- to 7 in code order.
-- Private.
use Rattle.std.specs.Prelude.{◌≡◌, ℕ, ◌%◌, ◌<◌, ◌≤◌, ◌*◌, ℤ, ◌-ℤ◌, List, length, Option, None, Some, option_map, slice_index_or}
use Rattle.drain.specs.Steepness.{positive_part, weight}
use Rattle.drain.specs.declared.around.Around.{Around}

-- The drop from height `level` to another height; 0 if there is no other height or it is not lower.
abbrev pub drop_by : ℤ → Option ℤ → ℕ
drop_by level None = 0
drop_by level (Some height) = positive_part (level -ℤ height)

-- The surroundings have the cell's height `level` and, on the eight ways, these heights.
pub record HasHeights (a : Around) (level : ℤ) (heights : List (Option ℤ)) : Type 0 where
  pub own_level : a.level ≡ level
  pub count : length a.ways ≡ 8
  pub each : (way : ℕ) → way < 8 →
      slice_index_or heights way None ≡ option_map (λ w. w.0) (slice_index_or a.ways way None)

-- The drop from height `level` to the height on `way`; 0 if the way has no height or no lower one.
abbrev pub drop_on : ℤ → List (Option ℤ) → ℕ → ℕ
drop_on level heights way = drop_by level (slice_index_or heights way None)

-- The weight of the drop on a way.
abbrev pub weight_on : ℤ → List (Option ℤ) → ℕ → ℕ
weight_on level heights way = weight way (drop_on level heights way)

-- Of the ways of one parity below `2 * end`, `way` has the drop of the greatest weight, and is the
-- first with it if it leads down. Even ways lead along a row or column, odd ones along a diagonal.
pub record IsGreatestFall (level : ℤ) (heights : List (Option ℤ))
    (parity end way : ℕ) : Type 0 where
  pub within : way < 2 * end
  pub among : way % 2 ≡ parity
  pub bound : (other : ℕ) → other < 2 * end → other % 2 ≡ parity →
      weight_on level heights other ≤ weight_on level heights way
  pub first : 0 < weight_on level heights way → (other : ℕ) → other < way → other % 2 ≡ parity →
      weight_on level heights other < weight_on level heights way

-- No way leads down.
pub record HasNoWayDown (level : ℤ) (heights : List (Option ℤ)) : Type 0 where
  pub each : (way : ℕ) → way < 8 → drop_on level heights way ≡ 0

-- The way leads down, and is the first of those with the greatest weight.
pub record IsSteepestWay (level : ℤ) (heights : List (Option ℤ)) (way : ℕ) : Type 0 where
  pub below : way < 8
  pub down : 0 < drop_on level heights way
  pub bound : (other : ℕ) → other < 8 → weight_on level heights other ≤ weight_on level heights way
  pub first : (other : ℕ) → other < way →
      weight_on level heights other < weight_on level heights way

-- `found` is the first of the steepest ways down, or `None` if no way leads down.
abbrev pub IsFirstSteepest : ℤ → List (Option ℤ) → Option ℕ → Type 0
IsFirstSteepest level heights None = HasNoWayDown level heights
IsFirstSteepest level heights (Some way) = IsSteepestWay level heights way
