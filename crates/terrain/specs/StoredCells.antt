-- Defines how a number stores a cell (a height or no data) or a count (a number or none).
-- Source: this project.
-- Public.
use Rattle.std.specs.Prelude.{ℕ, ℤ, pos, nat_lt, Option, None, Some, if◌then◌else◌, option_and_then}
use Rattle.std.specs.Ordering.{int_eq}

-- The number that stores a cell without data. It is above every height.
abbrev pub no_data : ℤ
no_data = pos 9223372036854775807

-- The cell that a number stores.
abbrev pub stored_cell : ℤ → Option ℤ
stored_cell z = if int_eq z no_data then None else Some z

-- The cell of an optional height: without data for `None`, and for the number `no_data`.
abbrev pub cell_of : Option ℤ → Option ℤ
cell_of height = option_and_then stored_cell height

-- The number that stores a cell without data in a map of counts. It is above every count.
abbrev pub uncounted : ℕ
uncounted = 4294967295

-- The count that number n stores; `None` if n is `none`, the number that stores no count, or more.
abbrev pub stored_count : ℕ → ℕ → Option ℕ
stored_count none n = if nat_lt n none then Some n else None
