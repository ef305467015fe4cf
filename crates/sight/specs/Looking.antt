-- A lookup tells which targets on a line are hidden by the lines nearer the observer; then it goes
-- on to a later line. Lines are the columns, or the rows, on one side of the observer.
-- Private.
use Rattle.std.specs.Prelude.{◌≡◌, ℕ, ℤ, List, Option}
use Rattle.horizons.specs.declared.target.Target.{Target}
use Rattle.horizons.specs.Horizons.{IsUpTo}
use Rattle.sight.specs.Sweep.{HidesBefore}
use Rattle.sight.specs.declared.family.Family.{Family}
use Rattle.sight.specs.declared.looking.SweepLookup.{SweepLookup}

-- The lookup is at line k. The lookup's horizon hides each target on line k or beyond exactly if a
-- line before line k blocks the target. The lookup's cursor may be used at rank `last`.
pub record LooksFrom (cells : List (Option ℤ)) (f : Family) (targets : List Target) (k : ℕ)
    (l : SweepLookup) : Type 0 where
  pub line : l.line ≡ k
  pub hides : HidesBefore cells f targets k l.sweep.highest
  pub cursor : IsUpTo l.sweep.highest l.cursor l.last
