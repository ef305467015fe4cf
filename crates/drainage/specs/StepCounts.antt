-- How steps, known or unknown, are stored as numbers. Source: this project.
-- Private.
use Rattle.std.specs.Prelude.{ℕ, ◌^◌, Option}
use Rattle.terrain.specs.StoredCells.{stored_count}

-- The number stored for unknown steps: greater than every cell's steps.
abbrev pub no_count : ℕ
no_count = 2 ^ 24

-- The steps stored as number n; `None` (unknown) if n is `no_count` or more.
abbrev pub known : ℕ → Option ℕ
known n = stored_count no_count n
