-- A map's rows are cut into parts of `each` rows, the last perhaps of fewer. One job makes the text
-- of each part. Source: this project.
-- Private.
use Rattle.std.specs.Prelude.{ℕ, ◌-◌, ◌*◌, ◌/◌, min, List, length, drop}
use Rattle.ascii_grid.specs.Text.{rows_text}

-- The lines of the part at index `part`: of `each` rows, or of the fewer that remain.
abbrev pub part_text : {X : Type 0} → (X → List ℕ) → ℕ → ℕ → List X → ℕ → List ℕ
part_text text cols each cells part =
    rows_text text cols (min each (length cells / cols - part * each))
    (drop (part * each * cols) cells)
