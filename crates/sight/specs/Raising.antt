-- An extent is a part of the grid, here a tile, whose cells have flags and targets. The target of a
-- flagged cell is raised to where lines (columns, or rows) no longer block its line of sight.
-- Private.
use Rattle.std.specs.Prelude.{◌≡◌, ℕ, ◌+◌, ◌-◌, ◌<◌, ◌≤◌, Bool, true, false, ◌&&◌, ℤ, List, length, Option, slice_index}
use Rattle.terrain.specs.Raster.{Terrain}
use Rattle.terrain.specs.declared.place.Place.{Place}
use Rattle.terrain.specs.declared.observer.Observer.{Observer}
use Rattle.sightlines.specs.Sight.{highest_eye, is_open, is_seen}
use Rattle.sightlines.specs.Walk.{walk_blocks}
use Rattle.sight.specs.Hiding.{AreMet, IsInRun, flag_in_extent, flag_index, lines_block_at}
use Rattle.sight.specs.Sides.{sightline_to}
use Rattle.sight.specs.Sweep.{lead_of}
use Rattle.sight.specs.declared.family.Family.{Family}
use Rattle.sight.specs.declared.extent.Extent.{Extent}

-- From the old height a target is raised to the least height at which it is not blocked, or to
-- one unit above the greatest.
pub record IsRaised (blocked : ℕ → Bool) (old new : ℕ) : Type 0 where
  pub rises : old ≤ new
  pub most : new ≤ highest_eye + 1
  pub clear : new ≤ highest_eye → blocked new ≡ false
  pub hidden : old < new → blocked (new - 1) ≡ true

-- The height of the target at coordinates x and y.
abbrev pub target_in_extent : Extent → ℕ → ℕ → List ℕ → ℕ
target_in_extent w x y targets = slice_index targets (flag_index w x y)

-- No target is more than one unit above the greatest height.
abbrev pub AreTargetHeights : List ℕ → Type 0
AreTargetHeights targets = (k : ℕ) → slice_index targets k ≤ highest_eye + 1

-- The target of cell y of line n, if flagged, is raised over the lines before line n.
abbrev pub IsRaisedIn : List (Option ℤ) → Family → Extent → List Bool → ℕ → ℕ → ℕ → ℕ → Type 0
IsRaisedIn cells f w flags n y old new =
    flag_in_extent w (lead_of f n) y flags ≡ true → IsRaised (lines_block_at cells f n y) old new

-- The target of a flagged cell on line 2 or beyond is raised over the lines before its own.
pub record AreRaised (cells : List (Option ℤ)) (f : Family) (w : Extent) (flags : List Bool)
    (old new : List ℕ) : Type 0 where
  pub most : AreTargetHeights new
  pub met : AreMet 0 (IsRaisedIn cells f w flags) f w old new

-- The target of a flagged cell is raised over the lines on either side of the observer.
pub record AreClear (cells : List (Option ℤ)) (f : Family) (w : Extent) (flags : List Bool)
    (old new : List ℕ) : Type 0 where
  pub size : length new ≡ length old
  pub most : AreTargetHeights new
  pub each : (x y : ℕ) → IsInRun w.lines x → IsInRun w.side y → flag_in_extent w x y flags ≡ true →
      IsRaised (λ h. walk_blocks cells (sightline_to cells f h x y)) (target_in_extent w x y old)
      (target_in_extent w x y new)

-- A target on the place is seen, at whatever height, exactly where the place is flagged and no
-- crossing blocks the line of sight.
abbrev pub IsCandidate : Terrain → Observer → ℕ → Place → Bool → Type 0
IsCandidate t o radius p flag = (h : ℕ) → is_seen t o p h radius ≡ (flag && is_open t o p h)
