-- Sweeps over columns clear a place's flag exactly if a crossing with a column blocks its line of
-- sight. Sweeps over rows clear it exactly if a crossing with a row does.
use Rattle.std.proofs.Common.{arith, sym, ap, ◌∙◌, ◌≡◌, ◌+◌, ◌-◌, ◌*◌, ◌<◌, ◌≤◌, ℕ, ℤ, pos, ◌+ℤ◌, Bool, true, false, not, ◌&&◌, List, Option, get_or, unwrap_or}
use Rattle.std.proofs.lemmas.Nat.{mul-add-lt}
use Rattle.terrain.specs.Raster.{Terrain}
use Rattle.terrain.specs.Neighbours.{IsInside, height_of}
use Rattle.terrain.specs.declared.place.Place.{Place}
use Rattle.tiles.specs.declared.bounds.Bounds.{Bounds}
use Rattle.tiles.specs.Cutting.{index_in}
use Rattle.sightlines.specs.Sight.{column_blocks, row_blocks}
use Rattle.sightlines.specs.Walk.{columns_of, rows_of, walk_blocks}
use Rattle.sight.specs.Flags.{flag_at, AreLeft}
use Rattle.sight.specs.Sides.{columns_at, rows_at, sightline_to, AreOpen, family_of, extent_of}
use Rattle.sightlines.specs.declared.walk.Sightline.{Sightline}
use Rattle.sightlines.proofs.Crossings.{height_is, column_blocks-walk, row_blocks-walk}

pub column_flags : (b : Bounds) (x y n : ℕ) → n ≡ b.rows * b.cols → x < b.cols → y < b.rows → x * 1 + y * b.cols < n
column_flags b x y n size in_x in_y = omega (arith, size, mul-add-lt y _ x _ in_y in_x)

pub row_flags : (b : Bounds) (x y n : ℕ) → n ≡ b.rows * b.cols → x < b.rows → y < b.cols → x * b.cols + y * 1 < n
row_flags b x y n size in_x in_y = omega (arith, size, mul-add-lt x _ y _ in_x in_y)

-- the equation of a new flag stays true, if index i is replaced by an equal j, and `walked` by an
-- equal `blocked`
reported : (new old : List Bool) (i j : ℕ) (walked blocked : Bool) → i ≡ j → walked ≡ blocked →
    get_or new i false ≡ (get_or old i false && not walked) → get_or new j false ≡ (get_or old j false && not blocked)
reported new old i j walked blocked at same is =
    ap (λ k. get_or new k false) (sym at) ∙ is ∙ ap (λ k. get_or old k false && not walked) at ∙
    ap (λ b. get_or old j false && not b) same

module _ (t : Terrain) (p : Place) (b : Bounds) (e : ℤ)
    (target : ℕ) (old new : List Bool) (observer : IsInside t p) (rows : b.top + b.rows ≤ t.rows)
    (cols : b.left + b.cols ≤ t.cols) where
  pub column_walk_is : (q : Place) → IsInside t q →
      walk_blocks t.cells (sightline_to t.cells (family_of (columns_at b p) (rows_at t b p) e) target q.col q.row) ≡
      column_blocks t p q e (height_of t q +ℤ pos target)
  column_walk_is q inside =
      let height = height_is t _ _ (q.col * 1 + q.row * t.cols) inside.0 inside.1 (omega arith) in
      let line : Option ℤ → Sightline =
      λ h. record {
        lead = columns_of p q;
        side = rows_of t p q;
        from_elevation = e;
        to_elevation = unwrap_or h (pos 0) +ℤ pos target;
      } in
      ap (λ h. walk_blocks t.cells (line h)) (sym height) ∙
      sym (column_blocks-walk t p q e (height_of t q +ℤ pos target) observer inside)

  pub row_walk_is : (q : Place) → IsInside t q →
      walk_blocks t.cells (sightline_to t.cells (family_of (rows_at t b p) (columns_at b p) e) target q.row q.col) ≡
      row_blocks t p q e (height_of t q +ℤ pos target)
  row_walk_is q inside =
      let height = height_is t _ _ (q.row * t.cols + q.col * 1) inside.0 inside.1 (omega arith) in
      let line : Option ℤ → Sightline =
      λ h. record {
        lead = rows_of t p q;
        side = columns_of p q;
        from_elevation = e;
        to_elevation = unwrap_or h (pos 0) +ℤ pos target;
      } in
      ap (λ h. walk_blocks t.cells (line h)) (sym height) ∙
      sym (row_blocks-walk t p q e (height_of t q +ℤ pos target) observer inside)

  pub columns_left :
      AreOpen t.cells (family_of (columns_at b p) (rows_at t b p) e) (extent_of (columns_at b p) (rows_at t b p)) target
      old new → AreLeft b (λ (q : Place). not (column_blocks t p q e (height_of t q +ℤ pos target))) old new
  columns_left are = record {
    size = are.size;
    each = λ q inside.
        reported new old ((q.col - b.left) * 1 + (q.row - b.top) * b.cols) (index_in b q) _ _ (omega arith)
        (column_walk_is q (omega (arith, rows), omega (arith, cols)))
        (are.each q.col q.row (inside.2, inside.3) (inside.0, inside.1));
  }

  pub rows_left :
      AreOpen t.cells (family_of (rows_at t b p) (columns_at b p) e) (extent_of (rows_at t b p) (columns_at b p)) target
      old new → AreLeft b (λ (q : Place). not (row_blocks t p q e (height_of t q +ℤ pos target))) old new
  rows_left are = record {
    size = are.size;
    each = λ q inside.
        reported new old ((q.row - b.top) * b.cols + (q.col - b.left) * 1) (index_in b q) _ _ (omega arith)
        (row_walk_is q (omega (arith, rows), omega (arith, cols)))
        (are.each q.row q.col (inside.0, inside.1) (inside.2, inside.3));
  }

and_both : (m n k a c : Bool) → n ≡ (m && a) → k ≡ (n && c) → k ≡ (m && (a && c))
and_both true n k a c one two = two ∙ ap (λ z. z && c) one
and_both false n k a c one two = two ∙ ap (λ z. z && c) one

pub left_both : (b : Bounds) (one two : Place → Bool) (old mid new : List Bool) → AreLeft b one old mid →
    AreLeft b two mid new → AreLeft b (λ p. one p && two p) old new
left_both b one two old mid new first second = record {
  size = second.size ∙ first.size;
  each = λ p inside. and_both (flag_at b old p) _ _ (one p) (two p) (first.each p inside) (second.each p inside);
}
