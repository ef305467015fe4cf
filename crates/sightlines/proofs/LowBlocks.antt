-- If each block that a line can meet between two steps is low at both, no crossing between them
-- blocks. A block or a cell is low if it is not above the line. No block's entry is above the peak.
-- If a line is at or above the peak at a step and at its end, no crossing from that step on blocks.
use Rattle.std.proofs.Common.{arith, refl, sym, ap, subst, ◌∙◌, ◌≡◌, ◌+◌, ◌-◌, ◌*◌, ◌/◌, ◌<◌, ◌≤◌, ℕ, ℤ, pos, ◌+ℤ◌, ◌*ℤ◌, ◌≤ℤ◌, false, int_lt, List, Option, None, Some, get_or, min, max, inl, inr}
use borrow.Author.Differences.{up, down}
use Rattle.std.proofs.lemmas.Int.{ints}
use Rattle.std.proofs.lemmas.Bool.{cases_lt}
use Rattle.std.proofs.lemmas.Nat.{mul-le, div-add-mod', mod_below, mul-add-lt}
use Rattle.std.proofs.Math.Nat.{add-div_left}
use Rattle.sightlines.specs.Sight.{toward, sight}
use Rattle.sightlines.specs.Walk.{whole_at, part_at, index_at, is_above, step_blocks, steps_of, IsAt, over_columns, over_rows}
use Rattle.sightlines.specs.Blocks.{IsTopOf, IsPeak, IsLow, AreTopsAlong, AreLowBetween, blocks_in, AreTops}
use Rattle.sightlines.specs.declared.walk.Axis.{Axis}
use Rattle.sightlines.specs.declared.walk.Step.{Step}
use Rattle.sightlines.specs.declared.walk.Sightline.{Sightline}
use Rattle.sightlines.specs.declared.passing.BlockStrides.{BlockStrides}
use Rattle.sightlines.proofs.Ground.{above_both, weighed_height-some}
use Rattle.sightlines.proofs.Steps.{whole_le, whole_lt}
use Rattle.terrain.specs.Raster.{Terrain}
use Rattle.terrain.specs.Neighbours.{IsInside}
use Rattle.terrain.specs.declared.place.Place.{Place}
use Rattle.sightlines.proofs.Crossings.{height_is}

-- if a is at most b, their weighted sum does not fall as weight moves from a to b
rising : (a b i p q r : ℕ) → a ≤ b →
    (a * (p + (q + r)) + b * i ≤ a * (q + r) + b * (i + p)) × (a * (q + r) + b * (i + p) ≤ a * r + b * (i + p + q))
rising a b i p q r h = (omega (arith, mul-le a p b p h (omega arith)), omega (arith, mul-le a q b q h (omega arith)))

falling : (a b i p q r : ℕ) → b ≤ a →
    (a * (q + r) + b * (i + p) ≤ a * (p + (q + r)) + b * i) × (a * r + b * (i + p + q) ≤ a * (q + r) + b * (i + p))
falling a b i p q r h = (omega (arith, mul-le b p a p h (omega arith)), omega (arith, mul-le b q a q h (omega arith)))

between_parts : (a b i p q r : ℕ) →
    let x = a * (p + (q + r)) + b * i in
    let y = a * (q + r) + b * (i + p) in
    let z = a * r + b * (i + p + q) in
    (min x z ≤ y) × (y ≤ max x z)
between_parts a b i p q r = elim (cases_lt a b) [
  | inl low ↦
      let is = rising a b i p q r (omega arith) in
      (omega (arith, is), omega (arith, is))
  | inr high ↦
      let is = falling a b i p q r high in
      (omega (arith, is), omega (arith, is))
]

-- at a step k from i to j, a line's coordinate is between those at steps i and j
pub toward_between : (a b n i j k : ℕ) → i ≤ k → k ≤ j → j ≤ n →
    (min (toward a b n i) (toward a b n j) ≤ toward a b n k) × (toward a b n k ≤ max (toward a b n i) (toward a b n j))
toward_between a b n i j k low high few =
    let k_is : k ≡ i + (k - i) = omega arith in
    let j_is : j ≡ i + (k - i) + (j - k) = omega arith in
    let left_i : n - i ≡ (k - i) + ((j - k) + (n - j)) = omega arith in
    let left_k : n - k ≡ (j - k) + (n - j) = omega arith in
    let is = between_parts a b i (k - i) (j - k) (n - j) in
    let one = ap (λ z. a * z + b * i) left_i in
    let two = ap (λ z. a * z + b * k) left_k ∙ ap (λ z. a * ((j - k) + (n - j)) + b * z) k_is in
    let three = ap (λ z. a * (n - j) + b * z) j_is in
    (omega (arith, is, one, two, three), omega (arith, is, one, two, three))

pub div_le : (x y n : ℕ) → 0 < n → x ≤ y → x / n ≤ y / n
div_le x y n some h = elim (cases_lt (y / n) (x / n)) [
  | inl past ↦ absurd (omega (
    arith,
    h,
    div-add-mod' x n,
    div-add-mod' y n,
    mod_below y n some,
    mul-le (y / n + 1) n (x / n) n (omega arith) (omega arith),
  ))
  | inr low ↦ low
]

div_min : (x y n : ℕ) → 0 < n → min (x / n) (y / n) ≤ min x y / n
div_min x y n some = elim (cases_lt x y) [
  | inl low ↦
      let e : min x y ≡ x = omega arith in
      rw e (omega arith)
  | inr high ↦
      let e : min x y ≡ y = omega arith in
      rw e (omega arith)
]

div_max : (x y n : ℕ) → 0 < n → max x y / n ≤ max (x / n) (y / n)
div_max x y n some = elim (cases_lt x y) [
  | inl low ↦
      let e : max x y ≡ y = omega arith in
      rw e (omega arith)
  | inr high ↦
      let e : max x y ≡ x = omega arith in
      rw e (omega arith)
]

pub whole_between : (a : Axis) (n i j k : ℕ) → 0 < n → i ≤ k → k ≤ j → j ≤ n →
    (min (whole_at a n i) (whole_at a n j) ≤ whole_at a n k) × (whole_at a n k ≤ max (whole_at a n i) (whole_at a n j))
whole_between a n i j k some low high few =
    let is = toward_between a.from a.to n i j k low high few in
    let ti = toward a.from a.to n i in
    let tj = toward a.from a.to n j in
    let tk = toward a.from a.to n k in (
      omega (arith, div_min ti tj n some, div_le _ tk n some is.0),
      omega (arith, div_max ti tj n some, div_le tk _ n some is.1),
    )

-- a sight of at least z at an earlier and a later step is at least z at each step between
sight_parts : (e f z : ℤ) (i p q r : ℕ) → z ≤ℤ ((e *ℤ pos (p + (q + r))) +ℤ (f *ℤ pos i)) →
    z ≤ℤ ((e *ℤ pos r) +ℤ (f *ℤ pos (i + p + q))) → z ≤ℤ ((e *ℤ pos (q + r)) +ℤ (f *ℤ pos (i + p)))
sight_parts e f z i p q r one two = elim (cases_lt (up e + down f) (up f + down e)) [
  | inl rises ↦ omega (arith, ints, one, mul-le (up e + down f) p (up f + down e) p (omega arith) (omega arith))
  | inr falls ↦ omega (arith, ints, two, mul-le (up f + down e) q (up e + down f) q falls (omega arith))
]

pub sight_between : (e f z : ℤ) (n i j k : ℕ) → i ≤ k → k ≤ j → j ≤ n → z ≤ℤ sight e f n i → z ≤ℤ sight e f n j →
    z ≤ℤ sight e f n k
sight_between e f z n i j k low high few one two =
    let k_is : k ≡ i + (k - i) = omega arith in
    let j_is : j ≡ i + (k - i) + (j - k) = omega arith in
    let left_i : n - i ≡ (k - i) + ((j - k) + (n - j)) = omega arith in
    let left_k : n - k ≡ (j - k) + (n - j) = omega arith in
    let at_i = ap (λ x. (e *ℤ pos x) +ℤ (f *ℤ pos i)) left_i in
    let at_k =
    ap (λ x. (e *ℤ pos x) +ℤ (f *ℤ pos k)) left_k ∙ ap (λ x. (e *ℤ pos ((j - k) + (n - j))) +ℤ (f *ℤ pos x)) k_is in
    let at_j = ap (λ x. (e *ℤ pos (n - j)) +ℤ (f *ℤ pos x)) j_is in
    rw at_k (sight_parts e f z i (k - i) (j - k) (n - j) (rw at_i at one) (rw at_j at two))

mixed : (g h z : ℤ) (v w : ℕ) → (pos (v + w) *ℤ g) ≤ℤ z → (pos (v + w) *ℤ h) ≤ℤ z → (pos v *ℤ g +ℤ pos w *ℤ h) ≤ℤ z
mixed g h z v w one two = elim (cases_lt (up g + down h) (up h + down g)) [
  | inl rises ↦ omega (arith, ints, two, mul-le v (up g + down h) v (up h + down g) (omega arith) (omega arith))
  | inr falls ↦ omega (arith, ints, one, mul-le w (up h + down g) w (up g + down h) (omega arith) falls)
]

not_above : (z g : ℤ) → g ≤ℤ z → int_lt z g ≡ false
not_above z g h = grind (arith, ints)

-- a crossing between two low cells does not block
pub low_not_above : (near far : Option ℤ) (v w : ℕ) (z : ℤ) → 0 < v →
    ((h : ℤ) → near ≡ Some h → (pos (v + w) *ℤ h) ≤ℤ z) → (0 < w → (h : ℤ) → far ≡ Some h → (pos (v + w) *ℤ h) ≤ℤ z) →
    is_above near v far w z ≡ false
low_not_above None far v w z some one two = rw (weighed_height-some None v some) refl
low_not_above (Some g) far v w z some one two = elim (cases_lt 0 w) [
  | inl part ↦ both far part (two part)
  | inr none ↦
      let w_is : w ≡ 0 = omega arith in
      let sum : v + 0 ≡ v = omega arith in
      let low : (pos v *ℤ g +ℤ pos 0) ≤ℤ z = omega (arith, ints, rw (w_is, sum) at (one g refl)) in
      rw (w_is, weighed_height-some (Some g) v some) (not_above z _ low)
]
  where
    both : (far : Option ℤ) → 0 < w → ((h : ℤ) → far ≡ Some h → (pos (v + w) *ℤ h) ≤ℤ z) →
        is_above (Some g) v far w z ≡ false
    both None part low = rw (weighed_height-some (Some g) v some, weighed_height-some None w part) refl
    both (Some h) part low =
        above_both g h v w z some part ∙
        not_above z (pos v *ℤ g +ℤ pos w *ℤ h) (mixed g h z v w (one g refl) (low h refl))

low_height : (top : Option ℤ) (n : ℕ) (z h : ℤ) → IsTopOf top h → IsLow top n z → (pos n *ℤ h) ≤ℤ z
low_height None n z h above low = absurd above
low_height (Some m) n z h above low = omega (
  arith,
  ints,
  above,
  low,
  mul-le n (up h + down m) n (up m + down h) (omega arith) (omega (arith, ints, above)),
)

pub low_more : (top : Option ℤ) (n : ℕ) (z w : ℤ) → z ≤ℤ w → IsLow top n z → IsLow top n w
low_more None n z w h low = tt
low_more (Some m) n z w h low = omega (arith, ints, h, low)

-- a step does not block if the cells that the line passes between are low
not_blocked : (cells : List (Option ℤ)) (line : Sightline) (k : ℕ) → 0 < steps_of line → k < steps_of line →
    (let n = steps_of line in
    let b = whole_at line.side n k in
    (cell : ℕ) → b ≤ cell → cell ≤ b + 1 → cell ≤ max line.side.from line.side.to → (h : ℤ) →
    get_or cells (whole_at line.lead n k * line.lead.stride + cell * line.side.stride) None ≡ Some h →
    (pos n *ℤ h) ≤ℤ sight line.from_elevation line.to_elevation n k) →
    step_blocks cells line.lead line.side line.from_elevation line.to_elevation (steps_of line) k ≡ false
not_blocked cells line k some inside low_at =
    let n = steps_of line in
    let b = whole_at line.side n k in
    let m = part_at line.side n k in
    let index = index_at line.lead line.side n k in
    let next = whole_at line.lead n k * line.lead.stride + (b + 1) * line.side.stride in
    let part_below = mod_below (toward line.side.from line.side.to n k) n some in
    let all : (n - m) + m ≡ n = omega (arith, part_below) in
    let beside : next ≡ index + line.side.stride = omega arith in
    low_not_above (get_or cells index None) (get_or cells (index + line.side.stride) None) (n - m) m
    (sight line.from_elevation line.to_elevation n k) (omega (arith, part_below))
    (λ h is. rw all (low_at b (omega arith) (omega arith) (whole_le line.side n k some (omega arith)) h is))
    (λ part h is.
    rw all (low_at (b + 1) (omega arith) (omega arith) (whole_lt line.side n k some (omega arith) part) h
    (ap (λ x. get_or cells x None) beside ∙ is)))

-- a step from i to before j does not block, if all blocks between steps i and j are low at both
pub step_passed :
    (size : ℕ) (cells tops : List (Option ℤ)) (line : Sightline) (s : BlockStrides) (i j k block : ℕ)
    (start end : Step) → 0 < steps_of line → i ≤ k → k < j → j ≤ steps_of line → IsAt line i start → IsAt line j end →
    AreTopsAlong size cells tops line s → whole_at line.lead (steps_of line) k / size ≡ block →
    AreLowBetween size tops s line block start end →
    step_blocks cells line.lead line.side line.from_elevation line.to_elevation (steps_of line) k ≡ false
step_passed size cells tops line s i j k block start end some low high few at_start at_end is_top in_block is_low =
    let n = steps_of line in
    let between = whole_between line.side n i j k some low (omega arith) few in
    not_blocked cells line k some (omega arith) (λ cell above below inside h is.
    let top = get_or tops (block * s.lead + cell / size * s.side) None in
    let is_under =
    rw in_block at (is_top.above (whole_at line.lead n k) cell h (whole_le line.lead n k some (omega arith))
    inside is) in
    let lows = is_low cell (omega (arith, between)) (omega (arith, between)) inside in
    sight_between line.from_elevation line.to_elevation _ n i j k low (omega arith) few
    (rw at_start.sight at (low_height top n _ h is_under lows.0))
    (rw at_end.sight at (low_height top n _ h is_under lows.1)))

-- a line at or above the peak at a step and at its end is not blocked from that step on
pub step_above :
    (size : ℕ) (cells tops : List (Option ℤ)) (line : Sightline) (s : BlockStrides) (peak : ℤ) (i k : ℕ)
    (start : Step) → 0 < steps_of line → i ≤ k → k < steps_of line → IsAt line i start →
    AreTopsAlong size cells tops line s → IsPeak tops peak → (pos (steps_of line) *ℤ peak) ≤ℤ start.sight →
    peak ≤ℤ line.to_elevation →
    step_blocks cells line.lead line.side line.from_elevation line.to_elevation (steps_of line) k ≡ false
step_above size cells tops line s peak i k start some low high at_start is_top is_peak above ends =
    let n = steps_of line in
    let a = whole_at line.lead n k in
    let e = line.from_elevation in
    let f = line.to_elevation in
    let none_left : n - n ≡ 0 = omega arith in
    let end : (pos n *ℤ peak) ≤ℤ sight e f n n = rw none_left (at_end e f peak n ends) in
    let a_in = whole_le line.lead n k some (omega arith) in
    not_blocked cells line k some high (λ cell from to inside h is.
    let under =
    below_peak (get_or tops (a / size * s.lead + cell / size * s.side) None) peak h
    (is_top.above a cell h a_in inside is) (is_peak (a / size * s.lead + cell / size * s.side)) in
    let lower = times_le n h peak under in
    let before = rw at_start.sight at above in
    sight_between e f _ n i n k low (omega arith) (omega arith) (omega (arith, ints, lower, before))
    (omega (arith, ints, lower, end)))
  where
    times_le : (n : ℕ) (h p : ℤ) → h ≤ℤ p → (pos n *ℤ h) ≤ℤ (pos n *ℤ p)
    times_le n h p le = omega (
      arith,
      ints,
      mul-le n (up h + down p) n (up p + down h) (omega arith) (omega (arith, ints, le)),
    )

    at_end : (e f p : ℤ) (n : ℕ) → p ≤ℤ f → (pos n *ℤ p) ≤ℤ ((e *ℤ pos 0) +ℤ (f *ℤ pos n))
    at_end e f p n le = omega (arith, ints, times_le n p f le)

    below_peak : (top : Option ℤ) (p h : ℤ) → IsTopOf top h → ((x : ℤ) → top ≡ Some x → x ≤ℤ p) → h ≤ℤ p
    below_peak None p h is all = absurd is
    below_peak (Some x) p h is all = omega (arith, ints, is, all x refl)

pub block_before : (size r rows : ℕ) → 0 < size → r < rows → r / size < blocks_in size rows
block_before size r rows some below =
    let next = add-div_left r some in
    let low = div_le (size + r) (rows + (size - 1)) size some (omega arith) in
    omega (arith, next, low)

pub block_below : (size cols rows r c : ℕ) → 0 < size → r < rows → c < cols →
    r / size * blocks_in size cols + c / size < blocks_in size rows * blocks_in size cols
block_below size cols rows r c some a b = omega (
  arith,
  mul-add-lt _ _ _ _ (block_before size r rows some a) (block_before size c cols some b),
)

-- the entry of a block, at index j, is no less than the height of a place in it, at index i
top_at : (size : ℕ) (t : Terrain) (tops : List (Option ℤ)) (r c i j : ℕ) (h : ℤ) → AreTops size t tops → r < t.rows →
    c < t.cols → i ≡ r * t.cols + c → j ≡ r / size * blocks_in size t.cols + c / size → get_or t.cells i None ≡ Some h →
    IsTopOf (get_or tops j None) h
top_at size t tops r c i j h are a b i_is j_is is =
    let P : ℕ → Type 0 = λ n. IsTopOf (get_or tops n None) h in
    subst P (sym j_is) (are.above (record { row = r; col = c }) h (height_is t r c i a b i_is ∙ is))

pub tops_along_columns : (size : ℕ) {t : Terrain} {tops : List (Option ℤ)} {p q : Place} {e f : ℤ} {line : Sightline} →
    line ≡ over_columns t p q e f → 0 < size → AreTops size t tops → IsInside t p → IsInside t q →
    AreTopsAlong size t.cells tops line (record { lead = 1; side = blocks_in size t.cols })
tops_along_columns size {t} {tops} {p} {q} is some are a b =
    subst (λ (l : Sightline). AreTopsAlong size t.cells tops l (record { lead = 1; side = blocks_in size t.cols }))
    (sym is) (record {
      heights = are.heights;
      over = omega (
        arith,
        are.count,
        block_below size t.cols t.rows (max p.row q.row) (max p.col q.col) some (omega arith) (omega arith),
      );
      above = λ col row h c_in r_in is.
          top_at size t tops row col (col * 1 + row * t.cols) (col / size * 1 + row / size * blocks_in size t.cols)
          h are (omega arith) (omega arith) (omega arith) (omega arith) is;
    })

pub tops_along_rows : (size : ℕ) {t : Terrain} {tops : List (Option ℤ)} {p q : Place} {e f : ℤ} {line : Sightline} →
    line ≡ over_rows t p q e f → 0 < size → AreTops size t tops → IsInside t p → IsInside t q →
    AreTopsAlong size t.cells tops line (record { lead = blocks_in size t.cols; side = 1 })
tops_along_rows size {t} {tops} {p} {q} is some are a b =
    subst (λ (l : Sightline). AreTopsAlong size t.cells tops l (record { lead = blocks_in size t.cols; side = 1 }))
    (sym is) (record {
      heights = are.heights;
      over = omega (
        arith,
        are.count,
        block_below size t.cols t.rows (max p.row q.row) (max p.col q.col) some (omega arith) (omega arith),
      );
      above = λ row col h r_in c_in is.
          top_at size t tops row col (row * t.cols + col * 1) (row / size * blocks_in size t.cols + col / size * 1)
          h are (omega arith) (omega arith) (omega arith) (omega arith) is;
    })
