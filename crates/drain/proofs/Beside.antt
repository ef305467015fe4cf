-- The spots on the eight ways from a spot of a tile: they are those that touch it. Spots are the places
-- of a tile's window: the tile and a border of one cell around it.
use Rattle.std.proofs.Common.{◌≡◌, ◌≢◌, ℕ, ◌+◌, ◌-◌, ◌*◌, ◌<◌, get_or, Some, refl, sym, ◌∙◌, arith}
use Rattle.std.proofs.Math.Numerals.{unary_clauses}
use Rattle.std.proofs.lemmas.Option.{same_Some}
use Rattle.terrain.specs.Neighbours.{Touches}
use Rattle.terrain.specs.Ways.{around_index, place_on}
use Rattle.terrain.specs.declared.place.Place.{Place}
use Rattle.terrain.proofs.EightWays.{on_ways, way_to}
use Rattle.tiles.specs.declared.bounds.Bounds.{Bounds}
use Rattle.tiles.specs.Windows.{IsInner, IsSpot, spot_index}

-- q is the spot on a way from spot s
pub record IsBeside (b : Bounds) (s : Place) (way : ℕ) (q : Place) : Type 0 where
  pub on : place_on way s ≡ Some q
  pub index : get_or (around_index (b.cols + 2) (spot_index b s)) way 0 ≡ spot_index b q
  pub spot : IsSpot b q
  pub touches : Touches s q
  pub back : Touches q s
  pub apart : s ≢ q

-- an index that counts from row 0 and column 0
from_zero : (cols : ℕ) (p : Place) → p.row * cols + p.col ≡ (p.row - 0) * cols + (p.col - 0)
from_zero cols p = simp unary_clauses refl

pub beside : (b : Bounds) (s : Place) → IsInner b s → (way : ℕ) → way < 8 → (q : Place) × IsBeside b s way q
beside b s inner way below =
    let q = on_ways 0 0 (b.cols + 2) (spot_index b s) s (s.row - 1) (s.col - 1) (omega (arith, inner.first_row))
    (omega (arith, inner.first_col)) (omega arith) (omega arith) (from_zero (b.cols + 2) s) way below in
    let near = q.1.touches in (
      q.0,
      record {
        on = q.1.on;
        index = sym (from_zero (b.cols + 2) q.0 ∙ q.1.index);
        spot = (omega (arith, near.row_down, inner.last_row), omega (arith, near.col_right, inner.last_col));
        touches = near;
        back = record {
          row_down = near.row_up;
          row_up = near.row_down;
          col_right = near.col_left;
          col_left = near.col_right;
        };
        apart = q.1.different;
      },
    )

pub way_beside : (b : Bounds) (s r : Place) → IsInner b s → Touches s r → s ≢ r →
    (way : ℕ) × (way < 8) × (get_or (around_index (b.cols + 2) (spot_index b s)) way 0 ≡ spot_index b r)
way_beside b s r inner touch apart =
    let way = way_to s r touch apart in
    let q = beside b s inner way.0 way.1 in
    (way.0, way.1, rw (same_Some q.0 r (sym q.1.on ∙ way.2)) at q.1.index)
