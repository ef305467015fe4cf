-- What an observer sees. Source: the textbook line of sight over heights as read, tested where it
-- crosses the columns and the rows of cell centres.
-- Trust base.
use Rattle.std.specs.Prelude.{◌≡◌, ℕ, ◌+◌, ◌-◌, ◌*◌, ◌/◌, ◌%◌, Bool, false, not, ◌&&◌, ◌==◌, ◌<◌, ◌≤◌, nat_lt, nat_le, if◌then◌else◌, ℤ, pos, ◌+ℤ◌, ◌-ℤ◌, ◌*ℤ◌, int_lt, Option, Some, is_some, option_map, option_and_then}
use Rattle.std.specs.Int.{abs_diff}
use Rattle.std.specs.List.{list_any, range_with_len}
use Rattle.std.specs.Option.{option_map_or}
use Rattle.terrain.specs.Raster.{Terrain}
use Rattle.terrain.specs.Neighbours.{height_at, height_of}
use Rattle.terrain.specs.declared.place.Place.{Place}
use Rattle.terrain.specs.declared.observer.Observer.{Observer}

-- The greatest height of an eye or a target above its ground, in units.
abbrev pub highest_eye : ℕ
highest_eye = 1000000

-- The greatest radius, in cells.
abbrev pub longest_radius : ℕ
longest_radius = 8192

-- n times the point that is k of n steps from a toward b. This product divided by n gives
-- a whole cell. The remainder is by how many n-ths of a cell the point lies south or east of it.
abbrev pub toward : ℕ → ℕ → ℕ → ℕ → ℕ
toward a b n k = a * (n - k) + b * k

-- For n above 0 and k up to n, the point of `toward` is q cells and m n-ths of a cell from a. In
-- signed numbers (b - a) * k = q * n + m, and m is below n.
abbrev pub CrossingsAreOnTheLine : Type 0
CrossingsAreOnTheLine =
    (a b n k : ℕ) → 0 < n → k ≤ n
    → let q = pos (toward a b n k / n) -ℤ pos a in
    let m = toward a b n k % n in
    (m < n) × ((pos b -ℤ pos a) *ℤ pos k ≡ (q *ℤ pos n) +ℤ pos m)

-- The coordinate that is k cells from a toward b.
abbrev pub onward : ℕ → ℕ → ℕ → ℕ
onward a b k = if nat_lt a b then a + k else a - k

-- The two cells between which a line of sight passes, and their weights.
pub record Crossing : Type 0 where
  pub near : Place
  pub near_weight : ℕ
  pub far : Place
  pub far_weight : ℕ

-- The crossing with a column or a row of cells, x n-ths of a cell from its first. `cell` gives the
-- column's or row's cells by their indices.
abbrev pub crossing_at : (ℕ → Place) → ℕ → ℕ → Crossing
crossing_at cell n x = record {
  near = cell (x / n);
  near_weight = n - x % n;
  far = cell (x / n + 1);
  far_weight = x % n;
}

-- The crossing with the k-th of n columns from p to q.
abbrev pub column_crossing : Place → Place → ℕ → ℕ → Crossing
column_crossing p q n k =
    crossing_at (λ i. record { row = i; col = onward p.col q.col k }) n (toward p.row q.row n k)

-- The crossing with the k-th of n rows from p to q.
abbrev pub row_crossing : Place → Place → ℕ → ℕ → Crossing
row_crossing p q n k =
    crossing_at (λ i. record { row = onward p.row q.row k; col = i }) n (toward p.col q.col n k)

-- Weight times height. It is 0 for weight 0, and None for NODATA of a weight above 0.
abbrev pub weigh : Terrain → Place → ℕ → Option ℤ
weigh t p weight =
    if weight == 0 then Some (pos 0) else option_map (λ h. pos weight *ℤ h) (height_at t p)

-- The ground at a crossing times the sum of the weights, or None where NODATA takes part.
abbrev pub ground : Terrain → Crossing → Option ℤ
ground t c = option_and_then (λ x. option_map (λ y. x +ℤ y) (weigh t c.far c.far_weight))
    (weigh t c.near c.near_weight)

-- n times the elevation, at step k of n, of the line from elevation e to elevation f.
abbrev pub sight : ℤ → ℤ → ℕ → ℕ → ℤ
sight e f n k = (e *ℤ pos (n - k)) +ℤ (f *ℤ pos k)

-- The crossing blocks: its ground has data and is above the sight z.
abbrev pub blocks : Terrain → Crossing → ℤ → Bool
blocks t c z = option_map_or (λ g. int_lt z g) (ground t c) false

-- One of the n - 1 crossings between the ends of a line from elevation e to elevation f blocks.
abbrev pub any_blocks : Terrain → (ℕ → ℕ → Crossing) → ℕ → ℤ → ℤ → Bool
any_blocks t crossing n e f =
    list_any (λ k. blocks t (crossing n k) (sight e f n k)) (range_with_len 1 (n - 1))

-- A crossing with a column between the two places blocks.
abbrev pub column_blocks : Terrain → Place → Place → ℤ → ℤ → Bool
column_blocks t p q = any_blocks t (column_crossing p q) (abs_diff p.col q.col)

-- A crossing with a row between the two places blocks.
abbrev pub row_blocks : Terrain → Place → Place → ℤ → ℤ → Bool
row_blocks t p q = any_blocks t (row_crossing p q) (abs_diff p.row q.row)

-- The target is within the radius.
abbrev pub is_near : Place → Place → ℕ → Bool
is_near p q radius =
    let dr = abs_diff p.row q.row in
    let dc = abs_diff p.col q.col in
    nat_le (dr * dr + dc * dc) (radius * radius)

-- The place of an observer.
abbrev pub place_of : Observer → Place
place_of o = record { row = o.row; col = o.col }

-- No crossing blocks the line from the observer's eye to `target` units above a place. The ground
-- of a NODATA cell at an end of the line counts as 0.
abbrev pub is_open : Terrain → Observer → Place → ℕ → Bool
is_open t o q target =
    let p = place_of o in
    let e = height_of t p +ℤ pos o.eye in
    let f = height_of t q +ℤ pos target in
    not (column_blocks t p q e f) && not (row_blocks t p q e f)

-- The observer sees the target: both are data cells, the target is within the radius, and no
-- crossing blocks.
abbrev pub is_seen : Terrain → Observer → Place → ℕ → ℕ → Bool
is_seen t o q target radius =
    is_some (height_at t (place_of o)) && is_some (height_at t q) && is_near (place_of o) q radius
    && is_open t o q target
