use Rattle.std.proofs.Common.{◌≡◌, ◌≤◌, ◌<◌, ◌+◌, ◌-◌, ◌⊎◌, ℕ, Option}
use Rattle.terrain.specs.Ways.{code_of}
use Rattle.drain.specs.Codes.{IsFirstWay, IsOnwardWay, IsTooHigh, level_at, stored_at}
use Rattle.drain.proofs.codes.onward_code.Given as goal

-- the ways from 8 - `turn` on have been looked at
abbrev pub invariant-loop-turn : goal.invariant-loop-turn
invariant-loop-turn l = record {
  few : l.least ≤ l.own;
  each : (way : ℕ) → 8 - l.turn ≤ way → way < 8 → level_at l.cells l.at way ≡ l.level →
      l.least ≤ stored_at l.steps l.at way + 1;
  one : (l.least ≡ l.own) ⊎ IsTooHigh l.cells l.steps l.at l.level l.own l.least;
  found : Option ℕ;
  code : l.code ≡ code_of found;
  first : IsFirstWay (IsOnwardWay l.cells l.steps l.at l.level l.own) (8 - l.turn) found;
}
