-- A far block, of 128 by 128 cells, holds up to 8 by 8 near blocks. An upper bound of the entries
-- of these is an upper bound of the far block's heights. A near block begins in one tile.
use Rattle.std.proofs.Common.{arith, refl, ap, subst, ◌∙◌, ◌≡◌, ◌+◌, ◌-◌, ◌*◌, ◌/◌, ◌<◌, ◌≤◌, ℕ, ℤ, List, length, get_or, get_or-take, get_or-drop, drop, slice_range, Option, None, Some, inl, inr}
use Rattle.std.proofs.lemmas.Bool.{cases_lt}
use Rattle.std.proofs.lemmas.List.{get_or_past}
use Rattle.std.proofs.lemmas.Int.{ints}
use Rattle.std.proofs.lemmas.Nat.{div-add-mod', mod_below, mul-le}
use Rattle.std.proofs.lemmas.Option.{slice_get-get_or}
use Rattle.terrain.specs.Raster.{Terrain}
use Rattle.terrain.specs.declared.place.Place.{Place}
use Rattle.terrain.proofs.Places.{make_place, inside_from_entry, entry-inside}
use Rattle.sightlines.specs.Blocks.{blocks_in, block_of, IsTopOf, AreTops}
use Rattle.tiles.specs.Cutting.{IsInBounds, index_in, place_in}
use Rattle.tiles.specs.declared.bounds.Bounds.{Bounds}
use Rattle.tiles.proofs.TileOrder.{index_in_below, index_in-place_in}
use Rattle.sight.proofs.Indexed.{place_inside}
use Rattle.tile_maps.specs.Maps.{IsMadeUpTo}
use Rattle.sight.specs.BlockTops.{ground_of, IsGround, IsBlockTop, all_blocks, blocks_begun}
use Rattle.sightlines.proofs.LowBlocks.{block_before}

pub swapped : (a b : ℕ) → a * b ≡ b * a
swapped a b = omega arith

-- height h is not above `result`, if it is not above `top` and `top` is not above `result`
pub top_over : (top result : Option ℤ) (h : ℤ) → ((m : ℤ) → top ≡ Some m → IsTopOf result m) → IsTopOf top h →
    IsTopOf result h
top_over None result h over is = absurd is
top_over (Some m) None h over is = over m refl
top_over (Some m) (Some r) h over is =
    let above = over m refl in
    omega (arith, ints, is, above)

pub run_at : (cells : List (Option ℤ)) (a b i : ℕ) → i < b - a →
    get_or (slice_range cells a b) i None ≡ get_or cells (a + i) None
run_at cells a b i below = get_or-take (b - a) (drop a cells) i None below ∙ get_or-drop a cells i None

pub in_block : (size r block : ℕ) → 0 < size → r / size ≡ block → (block * size ≤ r) × (r < block * size + size)
in_block size r block some is =
    let parts = div-add-mod' r size in
    let begun = ap (λ n. n * size) is in
    (omega (arith, parts, begun), omega (arith, parts, begun, mod_below r size some))

pub few_blocks : (size cells : ℕ) → 0 < size → blocks_in size cells ≤ cells
few_blocks size cells some = elim (cases_lt cells (blocks_in size cells)) [
  | inl more ↦ absurd (omega (
    arith,
    more,
    div-add-mod' (cells + (size - 1)) size,
    mul-le (cells + 1) size (blocks_in size cells) size (omega arith) (omega arith),
    mul-le cells 1 cells size (omega arith) (omega arith),
  ))
  | inr few ↦ few
]

-- the entries of a terrain's blocks, as the cells of a grid, are within the limits
pub ground_of_tops : (size : ℕ) (t : Terrain) (tops : List (Option ℤ)) → 0 < size → (1 ≤ t.cols) × (t.cols ≤ 4096) →
    (1 ≤ t.rows) × (t.rows ≤ 4096) → AreTops size t tops → IsGround (blocks_in size t.cols) (blocks_in size t.rows) tops
ground_of_tops size t tops some cols rows are = record {
  cols_in = (omega (arith, block_before size 0 t.cols some (omega arith)), omega (arith, few_blocks size t.cols some));
  rows_in = (omega (arith, block_before size 0 t.rows some (omega arith)), omega (arith, few_blocks size t.rows some));
  size = are.count ∙ swapped (blocks_in size t.rows) (blocks_in size t.cols);
  heights = are.heights;
}

-- entries that bound the blocks of a terrain without its sinks bound the blocks of the terrain
pub tops_of_ground : (size : ℕ) (t : Terrain) (tops : List (Option ℤ)) →
    AreTops size (ground_of t.cols t.rows t.cells) tops → AreTops size t tops
tops_of_ground size t tops are = record { count = are.count; heights = are.heights; above = are.above }

-- a row of cells needs as many groups of 8 near blocks as far blocks
in_blocks : (cells : ℕ) → blocks_in 8 (blocks_in 16 cells) ≡ blocks_in 128 cells
in_blocks cells = omega arith

in_block_of_blocks : (n : ℕ) → n / 16 / 8 ≡ n / 128
in_block_of_blocks n = omega arith

pub tops_of_tops : (t : Terrain) (near far : List (Option ℤ)) → AreTops 16 t near →
    AreTops 8 (ground_of (blocks_in 16 t.cols) (blocks_in 16 t.rows) near) far → AreTops 128 t far
tops_of_tops t near far low high = record {
  count = high.count ∙ ap (λ n. n * blocks_in 8 (blocks_in 16 t.cols)) (in_blocks t.rows) ∙
      ap (λ n. blocks_in 128 t.rows * n) (in_blocks t.cols);
  heights = high.heights;
  above = λ p h is.
      let inside = inside_from_entry t.cols t.rows t.cells p h is in
      let q = make_place (p.row / 16) (p.col / 16) in
      let row = block_before 16 _ _ (omega arith) inside.0 in
      let col = block_before 16 _ _ (omega arith) inside.1 in
      let at =
      ap (λ n. n * blocks_in 8 (blocks_in 16 t.cols) + q.col / 8) (in_block_of_blocks p.row) ∙
      ap (λ n. p.row / 128 * n + q.col / 8) (in_blocks t.cols) ∙
      ap (λ n. p.row / 128 * blocks_in 128 t.cols + n) (in_block_of_blocks p.col) in
      let over : (m : ℤ) → get_or near (block_of 16 t p) None ≡ Some m →
      IsTopOf (get_or far (block_of 128 t p) None) m =
      λ m top.
      subst (λ n. IsTopOf (get_or far n None) m) at (high.above q m (entry-inside _ _ near q row col ∙ top)) in
      top_over _ _ h over (low.above p h is);
}

-- a list with an upper bound for each block, made in row order, bounds all heights
pub made_tops : (size : ℕ) (t : Terrain) (tops : List (Option ℤ)) → 0 < size →
    IsMadeUpTo (all_blocks size t.rows t.cols) (IsBlockTop size t) (blocks_in size t.rows * blocks_in size t.cols)
    tops → AreTops size t tops
made_tops size t tops some made =
    let b = all_blocks size t.rows t.cols in
    let top : (q : Place) → IsInBounds b q → IsBlockTop size t q (get_or tops (index_in b q) None) =
    λ q inside.
    let below = index_in_below b q inside in
    made.each q inside below (get_or tops (index_in b q) None)
    (slice_get-get_or tops (index_in b q) None (omega (arith, below))) in
    record {
      count = made.size;
      heights = λ i h is. elim (cases_lt i (length tops)) [
        | inl within ↦
            let below : i < b.rows * b.cols = omega arith in
            let inside = place_inside b i below in
            (top (place_in b i) inside).height h (ap (λ n. get_or tops n None) (index_in-place_in b i) ∙ is)
        | inr past ↦
            let none = get_or_past tops i None past in
            absurd cc
      ];
      above = λ p h is.
          let at = inside_from_entry t.cols t.rows t.cells p h is in
          let q = make_place (p.row / size) (p.col / size) in
          let row = block_before size _ _ some at.0 in
          let own = ap (λ n. n * b.cols + (q.col - 0)) (whole q.row) ∙ ap (λ n. q.row * b.cols + n) (whole q.col) in
          let within = block_before size _ _ some at.1 in
          subst (λ n. IsTopOf (get_or tops n None) h) own
          ((top q (omega arith, omega (arith, row), omega arith, omega (arith, within))).above p h refl refl is);
    }
  where
    whole : (n : ℕ) → n - 0 ≡ n
    whole n = omega arith

-- a block whose first cell lies in the bounds is among the blocks that begin there
pub begins_there : (b : Bounds) (block : Place) → IsInBounds b (make_place (block.row * 16) (block.col * 16)) →
    IsInBounds (blocks_begun b) block
begins_there b block first = (omega (arith, first), omega (arith, first), omega (arith, first), omega (arith, first))
