-- Flags of the places within some bounds, one for each place in row order: which places an observer
-- sees, or may see.
-- Private.
use Rattle.std.specs.Prelude.{◌≡◌, ℕ, ◌*◌, ◌<◌, Bool, false, ◌&&◌, List, length, slice_index_or}
use Rattle.terrain.specs.Raster.{Terrain}
use Rattle.terrain.specs.declared.place.Place.{Place}
use Rattle.tiles.specs.declared.bounds.Bounds.{Bounds}
use Rattle.tiles.specs.Cutting.{IsInBounds, index_in}
use Rattle.sightlines.specs.Sight.{is_seen, is_open}
use Rattle.terrain.specs.declared.observer.Observer.{Observer}
use Rattle.sight.specs.declared.flagging.Check.{Check}
use Rattle.sight.specs.declared.flagging.Check.TheVariants.{Whole, FirstCrossings}

-- The flag of a place.
abbrev pub flag_at : Bounds → List Bool → Place → Bool
flag_at b flags p = slice_index_or flags (index_in b p) false

-- Each place of the bounds has a flag. If a place's index in row order is below `end`, `Holds` is
-- true of the place and its flag.
pub record AreFlagsBelow (b : Bounds) (Holds : Place → Bool → Type 0) (end : ℕ)
    (flags : List Bool) : Type 0 where
  pub size : length flags ≡ b.rows * b.cols
  pub each : (p : Place) → IsInBounds b p → index_in b p < end → Holds p (flag_at b flags p)

-- There is a flag for each place of the bounds, and `Holds` is true of each place and flag.
abbrev pub AreFlags : Bounds → (Place → Bool → Type 0) → List Bool → Type 0
AreFlags b Holds flags = AreFlagsBelow b Holds (b.rows * b.cols) flags

-- The place is flagged exactly where the observer sees it.
abbrev pub FlagsSeen : Terrain → Observer → ℕ → ℕ → Place → Bool → Type 0
FlagsSeen t o target radius p flag = flag ≡ is_seen t o p target radius

-- The place is seen exactly where it is flagged and no crossing blocks its line of sight.
abbrev pub FlagsSeenIfOpen : Terrain → Observer → ℕ → ℕ → Place → Bool → Type 0
FlagsSeenIfOpen t o target radius p flag =
    (flag && is_open t o p target) ≡ is_seen t o p target radius

-- After a check of the whole line of sight, `FlagsSeen` is true of the flag. After a check of the
-- first crossings, `FlagsSeenIfOpen` is true of it.
abbrev pub IsFlagOf : Check → Terrain → Observer → ℕ → ℕ → Place → Bool → Type 0
IsFlagOf Whole = FlagsSeen
IsFlagOf FirstCrossings = FlagsSeenIfOpen

-- A place's new flag is set exactly if its old one is and the place passes a test.
pub record AreLeft (b : Bounds) (test : Place → Bool) (old new : List Bool) : Type 0 where
  pub size : length new ≡ length old
  pub each : (p : Place) → IsInBounds b p → flag_at b new p ≡ (flag_at b old p && test p)
