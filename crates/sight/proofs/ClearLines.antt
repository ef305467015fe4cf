-- If no cell of some lines near the rays to a piece's targets is above a top, ground as high as the
-- top hides what these lines block: on the nearest line, or if the top is below the eye on the
-- farthest. A ray leads from the observer to a target, seen from above. A family's lines are the
-- columns, or the rows, on one side of the observer.
use Rattle.std.proofs.Common.{arith, sym, ap, subst, ◌∙◌, ◌≡◌, ◌+◌, ◌-◌, ◌*◌, ◌/◌, ◌<◌, ◌≤◌, ◌⊎◌, ℕ, ℤ, pos, ◌+ℤ◌, ◌-ℤ◌, ◌*ℤ◌, ◌≤ℤ◌, ◌<ℤ◌, true, List, length, Option, None, Some, get_or, inl, inr}
use borrow.Author.Differences.{true_is_lt}
use Rattle.std.specs.Int.{int_div_euclid}
use Rattle.std.specs.Prelude.{slice_get, MatchOption}
use Rattle.std.proofs.lemmas.Int.{ints, by_lt_z}
use Rattle.std.proofs.lemmas.Option.{slice_get-get_or}
use Rattle.horizons.specs.declared.target.Target.{Target}
use Rattle.horizons.specs.Horizons.{AreTargets, ramp_hides, ramp_value}
use Rattle.horizons.proofs.Straight.{slope_up}
use Rattle.terrain.specs.Raster.{Terrain}
use Rattle.terrain.specs.Neighbours.{IsInside}
use Rattle.terrain.specs.declared.place.Place.{Place}
use Rattle.terrain.proofs.Places.{make_place, entry-inside}
use Rattle.tiles.specs.declared.bounds.Bounds.{Bounds}
use Rattle.sightlines.specs.Blocks.{IsTopOf, AreTops, blocks_in}
use Rattle.sight.specs.Sweep.{lead_of, offset_of, constant_ramp, line_blocks, IsAtCell, IsFamily, Passes}
use Rattle.sight.specs.Sides.{columns_at, rows_at, family_of}
use Rattle.sight.specs.LineBlocks.{AreLineTops, AreInBlocks}
use Rattle.sight.specs.declared.family.Family.{Family}
use Rattle.sight.specs.declared.line_blocks.LineBlocks.{LineBlocks}
use Rattle.sight.proofs.BlockLists.{top_over}
use Rattle.sight.proofs.Below.{smaller, IsTopNear, none_blocks, top_blocks}
use Rattle.sight.proofs.Laid.{grows}
use Rattle.sight.proofs.Rays.{low_onward, high_back}
use Rattle.sight.proofs.Spans.{floor_low, floor_high}

-- from m to k a product with z does not fall, if z is not below 0 and m at most k, or the other way
-- round
abbrev pub IsUp : ℤ → ℕ → ℕ → Type 0
IsUp z m k = ((pos 0 ≤ℤ z) × (m ≤ k)) ⊎ ((z ≤ℤ pos 0) × (k ≤ m))

products_rise : (z : ℤ) (m k : ℕ) → IsUp z m k → (z *ℤ pos m) ≤ℤ (z *ℤ pos k)
products_rise z m k (inl up) =
    let k_is : k ≡ m + (k - m) = omega (arith, up.1) in
    omega (arith, ints, grows _ z (k - m) up.0, ap (λ n. z *ℤ pos n) k_is)
products_rise z m k (inr up) =
    let m_is : m ≡ k + (m - k) = omega (arith, up.1) in
    omega (arith, ints, grows z _ (m - k) up.0, ap (λ n. z *ℤ pos n) m_is)

-- let target t have an index from `from` to below `end`, and the ray to the first of these targets
-- pass line m at offset `low`, that to the last line n at `high`. The ray to t crosses line k
-- between these offsets, if m and n are on the proper sides of k.
pub passes_within : (targets : List Target) (none : Target) (m n k from end i : ℕ) (low high : ℤ) (t : Target) →
    AreTargets targets → end ≤ length targets → Passes m low (get_or targets from none) →
    IsUp (get_or targets from none).offset m k → Passes n high (get_or targets (end - 1) none) →
    IsUp (get_or targets (end - 1) none).offset k n → from ≤ i → i < end → slice_get targets i ≡ Some t →
    (offset : ℤ) × Passes k offset t × (low ≤ℤ offset) × (offset ≤ℤ high)
passes_within targets none m n k from end i low high t are few first up last down a b at =
    let s = get_or targets from none in
    let u = get_or targets (end - 1) none in
    let at_s = slice_get-get_or targets from none (omega arith) in
    let at_u = slice_get-get_or targets (end - 1) none (omega arith) in
    let some = (are.each i t at).line.0 in
    let x = t.offset *ℤ pos k in
    let offset = int_div_euclid x (pos t.line) in
    let low_s : (low *ℤ pos s.line) ≤ℤ (s.offset *ℤ pos k) = omega (arith, ints, first.low, products_rise _ m k up) in
    let low_t =
    low_onward low s.offset t.offset _ t.line k (are.each from s at_s).line.0
    (slope_up targets from i s t are a at_s at) low_s in
    let high_u : (u.offset *ℤ pos k) <ℤ ((high +ℤ pos 1) *ℤ pos u.line) = omega (
      arith,
      ints,
      last.high,
      products_rise _ k n down,
    ) in
    let high_t =
    high_back (high +ℤ pos 1) t.offset u.offset _ u.line k some
    (slope_up targets i (end - 1) t u are (omega arith) at at_u) high_u in (
      offset,
      record { low = floor_low x _ some; high = floor_high x _ some },
      smaller low offset t.line (omega (arith, ints, low_t, floor_high x _ some)),
      smaller offset high t.line (omega (arith, ints, high_t, floor_low x _ some)),
    )

-- what the line that `line_of_low` returns says of products
pub up_from : (z : ℤ) (m near far k : ℕ) → ((pos 0 ≤ℤ z) × (m ≡ near)) ⊎ ((z <ℤ pos 0) × (m ≡ far)) → near ≤ k →
    k ≤ far → IsUp z m k
up_from z m near far k (inl up) a b = inl (up.0, omega arith)
up_from z m near far k (inr up) a b = inr (omega (arith, ints), omega arith)

pub up_to : (z : ℤ) (n near far k : ℕ) → ((pos 0 ≤ℤ z) × (n ≡ far)) ⊎ ((z <ℤ pos 0) × (n ≡ near)) → near ≤ k → k ≤ far →
    IsUp z k n
up_to z n near far k (inl up) a b = inl (up.0, omega arith)
up_to z n near far k (inr up) a b = inr (omega (arith, ints), omega arith)

-- ground of one height that hides a target from line k hides it from line n too, if n is the nearer
-- one, or the farther one for ground below the eye
pub hides_from : (f : Family) (n k : ℕ) (top rise : ℤ) (t : Target) → 0 < n → 0 < t.line →
    ((f.eye ≤ℤ top) × (n ≤ k)) ⊎ ((top <ℤ f.eye) × (k ≤ n)) → ramp_hides (constant_ramp f k top) t rise ≡ true →
    ramp_hides (constant_ramp f n top) t rise ≡ true
hides_from f n k top rise t some line (inl high) hides =
    let value = ramp_value (constant_ramp f k top) t in
    let up : pos 0 ≤ℤ value = omega (arith, ints, grows (pos 0) (top -ℤ f.eye) t.line (omega (arith, ints, high.0))) in
    sym (true_is_lt (rise *ℤ pos n) value (by_lt_z rise (pos 0) (λ below. omega (
      arith,
      ints,
      up,
      below,
      products_rise rise n 1 (inr (omega (arith, ints, below), some)),
    )) (λ above. omega (arith, ints, hides, products_rise rise n k (inl (above, high.1))))))
hides_from f n k top rise t some line (inr low) hides =
    let value = ramp_value (constant_ramp f k top) t in
    let down : value <ℤ pos 0 = omega (
      arith,
      ints,
      line,
      grows (top -ℤ f.eye) (pos 0 -ℤ pos 1) t.line (omega (arith, ints, low.0)),
    ) in
    sym (true_is_lt (rise *ℤ pos n) value (by_lt_z rise (pos 0)
    (λ below. omega (arith, ints, hides, products_rise rise n k (inr (omega (arith, ints, below), low.1))))
    (λ above. absurd (omega (arith, ints, hides, down, grows _ rise k above)))))

-- no cell of line k near the rays is above a top that no block of a line beside it exceeds
pub none_near :
    (cells : List (Option ℤ)) (f : Family) (tops : List (Option ℤ)) (b : LineBlocks) (line last k : ℕ) (low high : ℤ)
    (top : Option ℤ) → AreLineTops cells f tops b → AreInBlocks f b line last → line ≤ k → k ≤ last →
    ((c : ℕ) (h : ℤ) → c < f.side.cells → low ≤ℤ offset_of f c → offset_of f c ≤ℤ (high +ℤ pos 1) →
    get_or tops (lead_of f line / 16 * b.across + c / 16 * b.along) None ≡ Some h → IsTopOf top h) →
    IsTopNear cells f k low high top
none_near cells f tops b line last k low high top are blocks from to over c h inside left right is =
    let here = blocks k from to in
    let above =
    subst (λ n. IsTopOf (get_or tops (n * b.across + c / 16 * b.along) None) h) here.1
    (are.above (lead_of f k) c h here.0 inside is) in
    top_over _ top h (λ m at. over c m inside left right at) above

-- a target that one of the lines blocks is hidden by ground as high as the top, on this line
pub hidden_by_top : (cells : List (Option ℤ)) (f : Family) (k y : ℕ) (low high rise : ℤ) (top : Option ℤ) (t : Target) →
    IsFamily f → IsAtCell f y t → k < t.line → (offset : ℤ) × Passes k offset t × (low ≤ℤ offset) × (offset ≤ℤ high) →
    IsTopNear cells f k low high top → line_blocks cells f t.line y rise k ≡ true →
    MatchOption top ⊥ (λ h. ramp_hides (constant_ramp f k h) t rise ≡ true)
hidden_by_top cells f k y low high rise None t is stands later ray near blocks =
    none_blocks cells f k y low high ray.0 rise t is stands later ray.1 ray.2 ray.3 near blocks
hidden_by_top cells f k y low high rise (Some top) t is stands later ray near blocks =
    top_blocks cells f k y low high ray.0 rise top t is stands later ray.1 ray.2 ray.3 near blocks

module _ (t : Terrain) (b : Bounds) (p : Place) (e : ℤ) (tops : List (Option ℤ))
    (cols : t.cols ≤ 4096) (rows : t.rows ≤ 4096) (observer : IsInside t p)
    (in_rows : b.top + b.rows ≤ t.rows) (in_cols : b.left + b.cols ≤ t.cols)
    (are : AreTops 16 t tops) where
  few : blocks_in 16 t.cols ≤ 4096
  few = omega arith

  -- the height of a place is not above the entry of its block
  above_at : (x y i j : ℕ) (h : ℤ) → y < t.rows → x < t.cols → i ≡ y * t.cols + x →
      j ≡ y / 16 * blocks_in 16 t.cols + x / 16 → get_or t.cells i None ≡ Some h → IsTopOf (get_or tops j None) h
  above_at x y i j h row col i_is j_is is =
      subst (λ n. IsTopOf (get_or tops n None) h) (sym j_is) (are.above (make_place y x) h
      (entry-inside _ _ t.cells (make_place y x) row col ∙ ap (λ n. get_or t.cells n None) (sym i_is) ∙ is))

  pub column_tops :
      AreLineTops t.cells (family_of (columns_at b p) (rows_at t b p) e) tops
      (record { across = 1; along = blocks_in 16 t.cols; end = t.cols })
  column_tops = record {
    heights = are.heights;
    blocks = record { strides = (omega arith, few); end = cols };
    above =
        λ x y h in_x in_y. above_at x y _ _ h (omega (arith, in_y, observer, in_rows)) in_x (omega arith) (omega arith);
  }

  pub row_tops :
      AreLineTops t.cells (family_of (rows_at t b p) (columns_at b p) e) tops
      (record { across = blocks_in 16 t.cols; along = 1; end = t.rows })
  row_tops = record {
    heights = are.heights;
    blocks = record { strides = (few, omega arith); end = rows };
    above =
        λ x y h in_x in_y. above_at y x _ _ h in_x (omega (arith, in_y, observer, in_cols)) (omega arith) (omega arith);
  }
