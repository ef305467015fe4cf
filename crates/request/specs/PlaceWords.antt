-- Words of whole numbers spell observers (`ROW,COL,EYE`), gauges and sinks (`ROW,COL`).
-- Trust base.
use Rattle.std.specs.Prelude.{ℕ, ◌^◌, Bool, ◌&&◌, ◌==◌, nat_lt, nat_le, if◌then◌else◌, List, [], ◌∷◌, length, Option, None, Some}
use Rattle.std.specs.List.{slice_split}
use Rattle.terrain.specs.Decimal.{are_digits, number_of}
use Rattle.terrain.specs.declared.place.Place.{Place}
use Rattle.terrain.specs.declared.observer.Observer.{Observer}

-- The bytes spell a whole number of 1 to 10 digits, below 2^32.
abbrev pub is_number : List ℕ → Bool
is_number bs = are_digits bs && nat_le (length bs) 10 && nat_lt (number_of bs) (2 ^ 32)

-- The observer of three parts that pass `is_number`: row, column and eye. `None` for other parts.
abbrev pub observer_of_parts : List (List ℕ) → Option Observer
observer_of_parts (row ∷ col ∷ eye ∷ []) =
    if is_number row && is_number col && is_number eye
    then Some (record { row = number_of row; col = number_of col; eye = number_of eye })
    else None
observer_of_parts parts = None

-- The observer that a word `ROW,COL,EYE` spells, or `None`.
abbrev pub observer_of : List ℕ → Option Observer
observer_of word = observer_of_parts (slice_split (λ b. b == 44) word)

-- The place of two parts that pass `is_number`: row and column. `None` for other parts.
abbrev pub place_of_parts : List (List ℕ) → Option Place
place_of_parts (row ∷ col ∷ []) =
    if is_number row && is_number col
    then Some (record { row = number_of row; col = number_of col }) else None
place_of_parts parts = None

-- The place that a gauge or sink word `ROW,COL` spells, or `None`.
abbrev pub place_of_word : List ℕ → Option Place
place_of_word word = place_of_parts (slice_split (λ b. b == 44) word)
