-- Lines are the columns, or the rows, on one side of an observer. A ray leads from the observer to
-- a target, seen from above. A ray crosses a line at a cell, or between a cell and the next. The
-- ramp of the ground there hides the target exactly if the line blocks the target.
use Rattle.std.proofs.Common.{arith, refl, sym, ap, ◌∙◌, ◌≡◌, ◌+◌, ◌-◌, ◌*◌, ◌/◌, ◌^◌, ◌<◌, ◌≤◌, ℕ, ℤ, pos, negsuc, ◌+ℤ◌, ◌-ℤ◌, ◌*ℤ◌, ◌≤ℤ◌, ◌<ℤ◌, unsigned_abs, false, List, Option, None, Some, get_or, inl, inr}
use borrow.Author.Differences.{up, down}
use Rattle.std.specs.Int.{int_div_euclid}
use Rattle.std.proofs.lemmas.Int.{ints}
use Rattle.std.proofs.lemmas.Bool.{cases_Bool}
use Rattle.std.proofs.lemmas.Nat.{div-add-mod', mod_below}
use Rattle.terrain.specs.Raster.{IsHeight}
use Rattle.horizons.specs.declared.target.Target.{Target}
use Rattle.horizons.specs.Horizons.{IsTarget, IsRampAt, ramp_hides, ramp_value}
use Rattle.sightlines.specs.Sight.{sight}
use Rattle.sightlines.specs.Walk.{is_above, whole_at, IsElevation}
use Rattle.sight.specs.Sweep.{lead_of, lead_axis, line_blocks, ramp_of, IsFamily, IsLine, Passes, IsAtCell}
use Rattle.sight.specs.declared.family.Family.{Family}
use Rattle.sight.proofs.Products.{sum_times, rest_times}
use Rattle.sightlines.proofs.Elevations.{times_small, between_small}
use Rattle.sightlines.proofs.Toward.{lead_up_is, lead_down_is}
use Rattle.sight.proofs.Rays.{ramp_gains, shown_between, not_shown_near, not_shown_far, cell_is, stays_inside}

pub floor_low : (z : ℤ) (n : ℕ) → 0 < n → (int_div_euclid z (pos n) *ℤ pos n) ≤ℤ z
floor_low (pos a) n some = omega (arith, ints)
floor_low (negsuc a) n some = omega (arith, ints)

pub floor_high : (z : ℤ) (n : ℕ) → 0 < n → z <ℤ ((int_div_euclid z (pos n) +ℤ pos 1) *ℤ pos n)
floor_high (pos a) n some = omega (
  arith,
  ints,
  div-add-mod' a n,
  mod_below a n some,
  sum_times (pos (a / n)) (pos 1) (pos n),
)
floor_high (negsuc a) n some = omega (arith, ints, div-add-mod' a n, sum_times (negsuc (a / n)) (pos 1) (pos n))

pub floor_small : (z : ℤ) (n : ℕ) → 0 < n → unsigned_abs z ≤ 2 ^ 24 → unsigned_abs (int_div_euclid z (pos n)) ≤ 2 ^ 25
floor_small (pos a) n some h = omega (arith, ints)
floor_small (negsuc a) n some h = omega (arith, ints)

-- let the ray to a target on line n cross line k at the cell at `offset`, or between this cell and
-- the next. Then the ray crosses m n-ths past the cell at `offset`, for an m below n.
pub past : (k : ℕ) (offset : ℤ) (t : Target) → Passes k offset t →
    (m : ℕ) × (m < t.line) × ((t.offset *ℤ pos k) ≡ (offset *ℤ pos t.line) +ℤ pos m)
past k offset t p =
    let x = t.offset *ℤ pos k in
    let y = offset *ℤ pos t.line in (
      (up x + down y) - (down x + up y),
      omega (arith, ints, p.low, p.high, sum_times offset (pos 1) (pos t.line)),
      omega (arith, ints),
    )

lead_is : (f : Family) (n k : ℕ) → IsLine f n → k ≤ n → whole_at (lead_axis f n) n k ≡ lead_of f k
lead_is f n k is few = elim (cases_Bool f.lines.back) [
  | inl back ↦
      let there = lead_down_is f.lines.at (f.lines.at - n) n k (omega arith) is.0 few in
      rw back (omega (arith, there))
  | inr ahead ↦
      let there = lead_up_is f.lines.at (f.lines.at + n) n k refl is.0 few in
      rw ahead (omega (arith, there))
]

abbrev pub near_index : Family → ℕ → ℕ → ℕ
near_index f k c = lead_of f k * f.lines.stride + c * f.side.stride

pub at_cell_past : (f : Family) (k m y : ℕ) (offset : ℤ) (t : Target) → IsAtCell f y t →
    (t.offset *ℤ pos k) ≡ (offset *ℤ pos t.line) +ℤ pos m →
    (pos y -ℤ pos f.side.at) *ℤ pos k ≡ (offset *ℤ pos t.line) +ℤ pos m
at_cell_past f k m y offset t stands is = ap (λ z. z *ℤ pos k) (sym stands.offset) ∙ is

pub crossing_is : (cells : List (Option ℤ)) (f : Family) (k c m y : ℕ) (offset rise : ℤ) (t : Target) → IsAtCell f y t →
    k < t.line → m < t.line → (t.offset *ℤ pos k) ≡ (offset *ℤ pos t.line) +ℤ pos m → pos c ≡ pos f.side.at +ℤ offset →
    line_blocks cells f t.line y rise k ≡
    is_above (get_or cells (near_index f k c) None) (t.line - m) (get_or cells (near_index f k c + f.side.stride) None)
    m (sight f.eye (f.eye +ℤ rise) t.line k)
crossing_is cells f k c m y offset rise t stands later below is at =
    let cell = cell_is f.side.at y c _ k m offset (omega arith) below (at_cell_past f k m y offset t stands is) at in
    rw (cell.0, cell.1, lead_is f _ k stands.line (omega arith)) refl

-- before its target's line, a ray crosses line k at a cell c, or between c and the next cell. The
-- coordinate of c along the line is below `side.cells`, the end of the side.
pub none_outside : (f : Family) (k y : ℕ) (offset : ℤ) (t : Target) → IsFamily f → IsAtCell f y t → k < t.line →
    Passes k offset t → (c : ℕ) × (pos c ≡ pos f.side.at +ℤ offset) × (c < f.side.cells)
none_outside f k y offset t is stands later passes =
    let m = past k offset t passes in
    let in_side =
    stays_inside _ y _ _ k _ offset is.side stands.side (omega arith) m.1
    (at_cell_past f k m.0 y offset t stands m.2) in
    let is_natural = natural (pos f.side.at +ℤ offset) f.side.cells in_side.0 in_side.1 in
    (up (pos f.side.at +ℤ offset), is_natural.0, is_natural.1)
  where
    natural : (z : ℤ) (n : ℕ) → pos 0 ≤ℤ z → z <ℤ pos n → (pos (up z) ≡ z) × (up z < n)
    natural (pos m) n low high = (refl, omega (arith, ints, high))
    natural (negsuc m) n low high = absurd (omega (arith, ints, low))

pub nothing_near : (cells : List (Option ℤ)) (f : Family) (k c y : ℕ) (offset rise : ℤ) (t : Target) → IsAtCell f y t →
    k < t.line → Passes k offset t → pos c ≡ pos f.side.at +ℤ offset → get_or cells (near_index f k c) None ≡ None →
    line_blocks cells f t.line y rise k ≡ false
nothing_near cells f k c y offset rise t stands later passes at none =
    let m = past k offset t passes in
    crossing_is cells f k c _ y offset rise t stands later m.1 m.2 at ∙
    (rw none (not_shown_near (get_or cells (near_index f k c + f.side.stride) None) _ _
    (sight f.eye (f.eye +ℤ rise) t.line k) m.1))

pub nothing_far : (cells : List (Option ℤ)) (f : Family) (k c y : ℕ) (offset rise near : ℤ) (t : Target) →
    IsAtCell f y t → k < t.line → Passes k offset t → pos c ≡ pos f.side.at +ℤ offset →
    get_or cells (near_index f k c) None ≡ Some near → get_or cells (near_index f k c + f.side.stride) None ≡ None →
    (offset *ℤ pos t.line) <ℤ (t.offset *ℤ pos k) → line_blocks cells f t.line y rise k ≡ false
nothing_far cells f k c y offset rise near t stands later passes at some none beyond =
    let m = past k offset t passes in
    let part : 0 < m.0 = omega (arith, ints, beyond) in
    crossing_is cells f k c _ y offset rise t stands later m.1 m.2 at ∙
    (rw (some, none) (not_shown_far near _ _ (sight f.eye (f.eye +ℤ rise) t.line k) m.1 part))

pub step_small : (near far : ℤ) → IsHeight near → IsHeight far → unsigned_abs (far -ℤ near) ≤ 2 * 10 ^ 15
step_small near far a b = omega (arith, ints, a, b)

pub base_small : (near e : ℤ) → IsHeight near → IsElevation e → unsigned_abs (near -ℤ e) ≤ 10 ^ 15 + 2 ^ 50
base_small near e a b = omega (arith, ints, a, b)

pub gain_small : (near far : ℤ) (k : ℕ) → IsHeight near → IsHeight far → k ≤ 4096 →
    unsigned_abs ((far -ℤ near) *ℤ pos k) < 2 ^ 63
gain_small near far k a b few = omega (arith, times_small (far -ℤ near) (pos k) _ 4096 (step_small near far a b) few)

tilt_within : (near far offset : ℤ) → IsHeight near → IsHeight far → unsigned_abs offset ≤ 4096 →
    unsigned_abs ((far -ℤ near) *ℤ offset) ≤ 8192 * 10 ^ 15
tilt_within near far offset a b few = omega (
  arith,
  times_small (far -ℤ near) offset _ 4096 (step_small near far a b) few,
)

pub tilt_small : (near far offset : ℤ) → IsHeight near → IsHeight far → unsigned_abs offset ≤ 4096 →
    unsigned_abs ((far -ℤ near) *ℤ offset) < 2 ^ 63
tilt_small near far offset a b few = omega (arith, tilt_within near far offset a b few)

rest_small : (a b : ℤ) → unsigned_abs a ≤ 10 ^ 15 + 2 ^ 50 → unsigned_abs b ≤ 8192 * 10 ^ 15 →
    unsigned_abs (a -ℤ b) < 2 ^ 63
rest_small a b p q = omega (arith, ints)

pub intercept_small : (near far e offset : ℤ) → IsHeight near → IsHeight far → IsElevation e →
    unsigned_abs offset ≤ 4096 → unsigned_abs ((near -ℤ e) -ℤ ((far -ℤ near) *ℤ offset)) < 2 ^ 63
intercept_small near far e offset a b is few =
    rest_small (near -ℤ e) ((far -ℤ near) *ℤ offset) (base_small near e a is) (tilt_within near far offset a b few)

-- two forms of a ramp's value; the second is a weighted sum of two cells' heights above the eye
mixed : (near far e : ℤ) (r m : ℕ) →
    ((near -ℤ e) *ℤ pos (r + m)) +ℤ (pos m *ℤ (far -ℤ near)) ≡ ((near -ℤ e) *ℤ pos r) +ℤ ((far -ℤ e) *ℤ pos m)
mixed near far e r m = omega (
  arith,
  ints,
  rest_times near e (pos (r + m)),
  rest_times near e (pos r),
  rest_times far e (pos m),
  rest_times far near (pos m),
)

pub ramp_between : (f : Family) (k m : ℕ) (offset near far : ℤ) (t : Target) → m < t.line →
    (t.offset *ℤ pos k) ≡ (offset *ℤ pos t.line) +ℤ pos m →
    ramp_value (ramp_of f k offset near far) t ≡ ((near -ℤ f.eye) *ℤ pos (t.line - m)) +ℤ ((far -ℤ f.eye) *ℤ pos m)
ramp_between f k m offset near far t below is =
    let n_is : t.line ≡ (t.line - m) + m = omega arith in
    let gains = ramp_gains (near -ℤ f.eye) (far -ℤ near) offset t.offset t.line k m is in
    gains ∙ ap (λ n. ((near -ℤ f.eye) *ℤ pos n) +ℤ (pos m *ℤ (far -ℤ near))) n_is ∙ mixed near far f.eye (t.line - m) m

pub ramp_is : (f : Family) (k : ℕ) (offset near far : ℤ) (t : Target) → IsFamily f → IsLine f k → IsHeight near →
    IsHeight far → IsTarget t → Passes k offset t → IsRampAt (ramp_of f k offset near far) t
ramp_is f k offset near far t is line a b is_t passes =
    let m = past k offset t passes in
    let small =
    between_small (near -ℤ f.eye) (far -ℤ f.eye) _ (t.line - m.0) m.0 4096 (base_small near _ a is.eye)
    (base_small far _ b is.eye) (omega (arith, m.1, is_t.line)) in
    record {
      lines = (line.0, line.1);
      value = rw (ramp_between f k _ offset near far t m.1 m.2) (omega (arith, small));
    }

-- let a target's ray cross line k at cell c, or between c and the next cell. If both have data, the
-- ramp of the ground between them hides the target exactly if line k blocks the target.
pub shows_ramp : (cells : List (Option ℤ)) (f : Family) (k c y : ℕ) (offset near far rise : ℤ) (t : Target) →
    IsAtCell f y t → k < t.line → Passes k offset t → pos c ≡ pos f.side.at +ℤ offset →
    get_or cells (near_index f k c) None ≡ Some near → get_or cells (near_index f k c + f.side.stride) None ≡ Some far →
    ramp_hides (ramp_of f k offset near far) t rise ≡ line_blocks cells f t.line y rise k
shows_ramp cells f k c y offset near far rise t stands later passes at some also =
    let m = past k offset t passes in
    let here = crossing_is cells f k c _ y offset rise t stands later m.1 m.2 at in
    shown_between near far f.eye rise offset t.offset _ k _ m.1 (omega arith) m.2 ∙ sym (here ∙ rw (some, also) refl)

-- let a target's ray cross line k at the centre of cell c. Ground of this cell's height hides the
-- target exactly if line k blocks the target.
pub shows_centre : (cells : List (Option ℤ)) (f : Family) (k c y : ℕ) (offset near rise : ℤ) (t : Target) →
    IsAtCell f y t → k < t.line → (t.offset *ℤ pos k) ≡ offset *ℤ pos t.line → pos c ≡ pos f.side.at +ℤ offset →
    get_or cells (near_index f k c) None ≡ Some near →
    ramp_hides (ramp_of f k offset near near) t rise ≡ line_blocks cells f t.line y rise k
shows_centre cells f k c y offset near rise t stands later centre at some =
    let is : (t.offset *ℤ pos k) ≡ (offset *ℤ pos t.line) +ℤ pos 0 = omega (arith, ints, centre) in
    let here = crossing_is cells f k c 0 y offset rise t stands later (omega arith) is at in
    shown_between near near f.eye rise offset t.offset t.line k 0 (omega arith) (omega arith) is ∙
    sym (here ∙ rw some refl)
