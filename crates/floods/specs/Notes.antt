-- How optional labels are stored as a list of numbers, and optional heights as one with flags.
-- Public.
use Rattle.std.specs.Prelude.{ℕ, ℤ, pos, Bool, ◌==◌, List, [], ◌∷◌, map, Option, None, Some, if◌then◌else◌, unwrap_or}
use Rattle.std.specs.Ordering.{int_eq}

-- The greatest signed number of 64 bits, stored for a missing height.
abbrev pub lack : ℤ
lack = pos 9223372036854775807

-- The height that the number `height` stores, or none: `lack` stores a height only if `flagged`.
abbrev pub noted : Bool → ℤ → Option ℤ
noted flagged height =
    if flagged then Some height else (if int_eq height lack then None else Some height)

-- The optional heights stored as these numbers; a flag says whether `lack` is a height there.
abbrev pub heights_where : List Bool → List ℤ → List (Option ℤ)
heights_where [] heights = []
heights_where (flagged ∷ rest) [] = []
heights_where (flagged ∷ rest) (height ∷ heights) =
    noted flagged height ∷ heights_where rest heights

-- The number that stores an optional height: `lack` for `None`.
abbrev pub height_or_lack : Option ℤ → ℤ
height_or_lack entry = unwrap_or entry lack

-- The greatest number of 32 bits, stored for no label.
abbrev pub no_label : ℕ
no_label = 4294967295

-- The label stored as this number.
abbrev pub label_of : ℕ → Option ℕ
label_of number = if number == no_label then None else Some number

-- The labels stored as these numbers.
abbrev pub numbered_labels : List ℕ → List (Option ℕ)
numbered_labels numbers = map label_of numbers
