-- If the place of a tile's bounds that is nearest to an observer is outside the radius, all places
-- of the bounds are.
use Rattle.std.proofs.Common.{arith, ◌≡◌, ◌+◌, ◌-◌, ◌*◌, ◌<◌, ◌≤◌, ℕ, false, max, min}
use Rattle.std.specs.Int.{abs_diff}
use Rattle.std.proofs.lemmas.Bool.{leb-false, lt-leb}
use Rattle.std.proofs.lemmas.Nat.{mul-le}
use Rattle.terrain.specs.declared.place.Place.{Place}
use Rattle.tiles.specs.declared.bounds.Bounds.{Bounds}
use Rattle.tiles.specs.Cutting.{IsInBounds}
use Rattle.sightlines.specs.Sight.{is_near}

-- no number of a range is nearer to `a` than `a` clamped to the range
nearest : (a from count x : ℕ) → from ≤ x → x < from + count →
    abs_diff a (max from (min a (from + count - 1))) ≤ abs_diff a x
nearest a from count x low high = omega arith

pub all_far : (eye near p : Place) (b : Bounds) (radius : ℕ) → near.row ≡ max b.top (min eye.row (b.top + b.rows - 1)) →
    near.col ≡ max b.left (min eye.col (b.left + b.cols - 1)) → is_near eye near radius ≡ false → IsInBounds b p →
    is_near eye p radius ≡ false
all_far eye near p b radius row col far inside =
    let rows : abs_diff eye.row near.row ≤ abs_diff eye.row p.row = omega (arith, row) in
    let cols : abs_diff eye.col near.col ≤ abs_diff eye.col p.col = omega (arith, col) in
    let rows_squared =
    mul-le (abs_diff eye.row near.row) (abs_diff eye.row near.row) (abs_diff eye.row p.row) (abs_diff eye.row p.row)
    rows rows in
    let cols_squared =
    mul-le (abs_diff eye.col near.col) (abs_diff eye.col near.col) (abs_diff eye.col p.col) (abs_diff eye.col p.col)
    cols cols in
    let less =
    leb-false (abs_diff eye.row near.row * abs_diff eye.row near.row +
    abs_diff eye.col near.col * abs_diff eye.col near.col) (radius * radius) far in
    lt-leb (abs_diff eye.row p.row * abs_diff eye.row p.row + abs_diff eye.col p.col * abs_diff eye.col p.col)
    (radius * radius) (omega arith)
