-- A word among the heights means the cell that it spells, or nothing. Source: this project.
-- Private.
use Rattle.std.specs.Prelude.{ℕ, if◌then◌else◌}
use Rattle.terrain.specs.Words.{Word}
use Rattle.ascii_grid.specs.GridText.{is_cell, spelled_cell}
use Rattle.ascii_grid.specs.declared.cell.Meaning.{Meaning}
use Rattle.ascii_grid.specs.declared.cell.Meaning.TheVariants.{Cell, Nothing}

-- The meaning of a word at scale d, given the NODATA word.
abbrev pub meaning_of : ℕ → Word → Word → Meaning
meaning_of d nodata w = if is_cell d nodata w then Cell (spelled_cell d nodata w) else Nothing
