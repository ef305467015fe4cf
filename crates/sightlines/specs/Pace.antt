-- How far a line of sight moves on a coordinate in m steps, and how its elevation rises. How the
-- index of the cell at or before the line, its near cell, changes in one step.
-- Private.
use Rattle.std.specs.Prelude.{◌≡◌, ℕ, ◌+◌, ◌*◌, ◌<◌, ◌≤◌, pos, ◌-ℤ◌, ◌*ℤ◌}
use Rattle.sightlines.specs.declared.walk.Axis.{Axis}
use Rattle.sightlines.specs.declared.walk.Leap.{Leap}
use Rattle.sightlines.specs.declared.walk.Pace.{Pace}
use Rattle.sightlines.specs.declared.walk.Sightline.{Sightline}
use Rattle.sightlines.specs.Walk.{steps_of}

-- In m of n steps a coordinate moves by `ahead` cells less `behind`, and by `part` n-ths of a cell.
pub record Gains (a : Axis) (n m ahead behind part : ℕ) : Type 0 where
  pub sum : m * a.to + behind * n ≡ m * a.from + ahead * n + part
  pub below : part < n
  pub few_ahead : ahead ≤ m * a.to
  pub few_behind : behind ≤ m * a.from

-- The leap is the move of a line on its side coordinate in m steps, and the change of its sight.
pub record IsLeap (l : Sightline) (m : ℕ) (leap : Leap) : Type 0 where
  pub gains : Gains l.side (steps_of l) m leap.ahead leap.behind leap.part
  pub rise : leap.rise ≡ (l.to_elevation *ℤ pos m) -ℤ (l.from_elevation *ℤ pos m)

-- The pace is the change, in one step, of the near cell's index and of the part past the near cell.
pub record IsPace (lead side : Axis) (n : ℕ) (pace : Pace) : Type 0 where
  pub lead_ahead : ℕ
  pub lead_behind : ℕ
  pub lead_part : ℕ
  pub side_ahead : ℕ
  pub side_behind : ℕ
  pub lead_gains : Gains lead n 1 lead_ahead lead_behind lead_part
  pub side_gains : Gains side n 1 side_ahead side_behind pace.part
  pub steps : pace.steps ≡ n
  pub ahead : pace.ahead ≡ lead_ahead * lead.stride + side_ahead * side.stride
  pub behind : pace.behind ≡ lead_behind * lead.stride + side_behind * side.stride
  pub beside : pace.beside ≡ side.stride
