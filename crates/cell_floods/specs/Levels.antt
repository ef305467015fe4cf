-- Levels as numbers of 64 bits, or as numbers of 16 or 32 bits above the lowest.
-- Public.
use Rattle.std.specs.Prelude.{ℕ, ℤ, pos, ◌==◌, List, map, if◌then◌else◌}
use Rattle.std.specs.Int.{int_wrapping_add, w64}
use Rattle.floods.specs.Notes.{lack, no_label}
use Rattle.cell_floods.specs.declared.levels.StoredLevels.{StoredLevels}
use Rattle.cell_floods.specs.declared.levels.StoredLevels.TheVariants.{Near, Above, Whole}

-- The greatest number of 16 bits.
abbrev pub no_short : ℕ
no_short = 65535

-- The level stored as this number above `lowest`; for the number `none` that of no level.
abbrev pub height_above : ℕ → ℤ → ℕ → ℤ
height_above none lowest above =
    if above == none then lack else int_wrapping_add w64 lowest (pos above)

-- The levels as numbers.
abbrev pub levels_stored : ℤ → StoredLevels → List ℤ
levels_stored lowest (Near near) = map (height_above no_short lowest) near.items
levels_stored lowest (Above above) = map (height_above no_label lowest) above.items
levels_stored lowest (Whole heights) = heights.items
