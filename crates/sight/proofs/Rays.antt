-- Of the targets whose rays pass between two cells, the ramp of the ground there hides just those
-- that this ground blocks. A ray leads from the observer to a target, seen from above. Line k is
-- the k-th column or row of cell centres from the observer. Up to its target, a ray crosses lines
-- only at, or between, cells that exist.
use Rattle.std.proofs.Common.{arith, refl, sym, ap, ◌∙◌, ◌≡◌, ◌+◌, ◌-◌, ◌*◌, ◌/◌, ◌%◌, ◌<◌, ◌≤◌, ℕ, ℤ, pos, negsuc, ◌+ℤ◌, ◌-ℤ◌, ◌*ℤ◌, ◌≤ℤ◌, ◌<ℤ◌, int_lt, false, Option, None, Some, inl, inr}
use borrow.Author.Differences.{up, down}
use Rattle.std.proofs.lemmas.Int.{ints}
use Rattle.std.proofs.lemmas.Bool.{cases_lt}
use Rattle.std.proofs.lemmas.Nat.{div-mul-add, mod-mul-add, mul-le}
use Rattle.sightlines.specs.Sight.{toward, sight}
use Rattle.sightlines.specs.Walk.{is_above}
use Rattle.sightlines.proofs.Ground.{above_both, weighed_height-some}
use Rattle.sight.proofs.Products.{sum_times, rest_times, times_between}

moved : (a b d : ℤ) → int_lt (a +ℤ d) (b +ℤ d) ≡ int_lt a b
moved a b d = grind (arith, ints)

lt_moved : (x y a b d : ℤ) → x ≡ a +ℤ d → y ≡ b +ℤ d → int_lt x y ≡ int_lt a b
lt_moved x y a b d p q = rw (p, q) (moved a b d)

ground_gains : (near far : ℤ) (r m : ℕ) →
    ((pos r *ℤ near) +ℤ (pos m *ℤ far)) ≡ (near *ℤ pos (r + m)) +ℤ ((far -ℤ near) *ℤ pos m)
ground_gains near far r m = omega (arith, ints, rest_times far near (pos m))

sight_rises : (e rise : ℤ) (k r : ℕ) → ((e *ℤ pos r) +ℤ ((e +ℤ rise) *ℤ pos k)) ≡ (rise *ℤ pos k) +ℤ (e *ℤ pos (r + k))
sight_rises e rise k r = omega (arith, ints, sum_times e rise (pos k))

-- let a ramp rise by `step` a cell from `base`, its height above the eye at the cell at `offset`.
-- Where a ray passes m n-ths of a cell beyond that, `ramp_value` is n * base + m * step.
pub ramp_gains : (base step offset j : ℤ) (n k m : ℕ) → j *ℤ pos k ≡ (offset *ℤ pos n) +ℤ pos m →
    ((step *ℤ pos k) *ℤ j) +ℤ ((base -ℤ (step *ℤ offset)) *ℤ pos n) ≡ (base *ℤ pos n) +ℤ (pos m *ℤ step)
ramp_gains base step offset j n k m is =
    let first =
    times_between step (pos k) j ∙ turned step (j *ℤ pos k) ∙ ap (λ z. z *ℤ step) is ∙
    sum_times (offset *ℤ pos n) (pos m) step in
    let second =
    times_between step offset (pos n) ∙ ap (λ z. step *ℤ z) (turned (pos n) offset) ∙
    turned step (offset *ℤ pos n) in
    omega (arith, ints, first, second, rest_times base (step *ℤ offset) (pos n))
  where
    turned : (a b : ℤ) → a *ℤ b ≡ b *ℤ a
    turned a b = omega (arith, ints)

no_part : (far : ℤ) → pos 0 *ℤ far ≡ pos 0
no_part far = omega (arith, ints)

above_between : (near far z : ℤ) (n m : ℕ) → m < n →
    is_above (Some near) (n - m) (Some far) m z ≡ int_lt z ((pos (n - m) *ℤ near) +ℤ (pos m *ℤ far))
above_between near far z n m h = elim (cases_lt 0 m) [
  | inl part ↦ above_both near far (n - m) m z (omega arith) part
  | inr none ↦
      let m_is : m ≡ 0 = omega arith in
      rw (m_is, weighed_height-some (Some near) (n - 0) (omega arith), no_part far) refl
]

-- if a target's ray passes between two cells, their ramp hides the target exactly if the ground at
-- that crossing is above the line of sight
pub shown_between : (near far e rise offset j : ℤ) (n k m : ℕ) → m < n → k ≤ n →
    j *ℤ pos k ≡ (offset *ℤ pos n) +ℤ pos m →
    int_lt (rise *ℤ pos k) ((((far -ℤ near) *ℤ pos k) *ℤ j) +ℤ (((near -ℤ e) -ℤ ((far -ℤ near) *ℤ offset)) *ℤ pos n)) ≡
    is_above (Some near) (n - m) (Some far) m (sight e (e +ℤ rise) n k)
shown_between near far e rise offset j n k m below few is =
    let step = far -ℤ near in
    let ramp = ((step *ℤ pos k) *ℤ j) +ℤ (((near -ℤ e) -ℤ (step *ℤ offset)) *ℤ pos n) in
    let n_is : (n - k) + k ≡ n = omega arith in
    let parts : (n - m) + m ≡ n = omega arith in
    let low = sight_rises e rise k (n - k) ∙ ap (λ z. (rise *ℤ pos k) +ℤ (e *ℤ pos z)) n_is in
    let ground = ground_gains near far (n - m) m ∙ ap (λ z. (near *ℤ pos z) +ℤ (step *ℤ pos m)) parts in
    let high =
    ground ∙ raised near e step n m ∙
    ap (λ z. z +ℤ (e *ℤ pos n)) (sym (ramp_gains (near -ℤ e) step offset j n k m is)) in
    sym (above_between near far (sight e (e +ℤ rise) n k) n m below ∙
    lt_moved _ _ (rise *ℤ pos k) ramp (e *ℤ pos n) low high)
  where
    raised : (near e step : ℤ) (n m : ℕ) →
        ((near *ℤ pos n) +ℤ (step *ℤ pos m)) ≡ (((near -ℤ e) *ℤ pos n) +ℤ (pos m *ℤ step)) +ℤ (e *ℤ pos n)
    raised near e step n m = omega (arith, ints, rest_times near e (pos n))

pub not_shown_near : (far : Option ℤ) (n m : ℕ) (z : ℤ) → m < n → is_above None (n - m) far m z ≡ false
not_shown_near far n m z h = rw (weighed_height-some None (n - m) (omega arith)) refl

pub not_shown_far : (near : ℤ) (n m : ℕ) (z : ℤ) → m < n → 0 < m → is_above (Some near) (n - m) None m z ≡ false
not_shown_far near n m z h part =
    rw (weighed_height-some (Some near) (n - m) (omega arith), weighed_height-some None m part) refl

-- let a ray from o reach y on line r + k, and cross line k at m / (r + k) of a cell past cell c.
-- Then o * r + y * k is c * (r + k) + m.
located : (o y c r k m : ℕ) (offset : ℤ) → (pos y -ℤ pos o) *ℤ pos k ≡ (offset *ℤ pos (r + k)) +ℤ pos m →
    pos c ≡ pos o +ℤ offset → o * r + y * k ≡ c * (r + k) + m
located o y c r k m offset is at = omega (
  arith,
  ints,
  is,
  rest_times (pos y) (pos o) (pos k),
  ap (λ z. z *ℤ pos (r + k)) at,
  sum_times (pos o) offset (pos (r + k)),
)

pub cell_is : (o y c n k m : ℕ) (offset : ℤ) → k ≤ n → m < n → (pos y -ℤ pos o) *ℤ pos k ≡ (offset *ℤ pos n) +ℤ pos m →
    pos c ≡ pos o +ℤ offset → (toward o y n k / n ≡ c) × (toward o y n k % n ≡ m)
cell_is o y c n k m offset few below is at =
    let n_is : n ≡ (n - k) + k = omega arith in
    let there = located o y c (n - k) k m offset (is ∙ ap (λ z. (offset *ℤ pos z) +ℤ pos m) n_is) at in
    let t_is = there ∙ ap (λ z. c * z + m) (sym n_is) in
    (rw t_is (div-mul-add c n m below), rw t_is (mod-mul-add c n m below))

-- if a ray leads from cell o to cell y, both below the number `cells`, and crosses a line at or
-- past cell c, then c too is below `cells`
at_most : (o y cells r k c m : ℕ) → o < cells → y < cells → 0 < r + k → o * r + y * k ≡ c * (r + k) + m → c < cells
at_most o y cells r k c m a b some is = elim (cases_lt c cells) [
  | inl h ↦ h
  | inr past ↦ absurd (omega (
    arith,
    mul-le o r (cells - 1) r (omega arith) (omega arith),
    mul-le y k (cells - 1) k (omega arith) (omega arith),
    mul-le (cells - 1 + 1) (r + k) c (r + k) (omega arith) (omega arith),
  ))
]

within : (o y cells r k m : ℕ) (c : ℤ) → o < cells → y < cells → m < r + k →
    (pos o *ℤ pos r) +ℤ (pos y *ℤ pos k) ≡ (c *ℤ pos (r + k)) +ℤ pos m → (pos 0 ≤ℤ c) × (c <ℤ pos cells)
within o y cells r k m (pos c) a b below is =
    let top = at_most o y cells r k c m a b (omega arith) (omega (arith, ints, is)) in
    (omega (arith, ints), omega (arith, ints))
within o y cells r k m (negsuc c) a b below is = absurd (omega (arith, ints, is))

pub stays_inside : (o y cells n k m : ℕ) (offset : ℤ) → o < cells → y < cells → k ≤ n → m < n →
    (pos y -ℤ pos o) *ℤ pos k ≡ (offset *ℤ pos n) +ℤ pos m →
    (pos 0 ≤ℤ (pos o +ℤ offset)) × ((pos o +ℤ offset) <ℤ pos cells)
stays_inside o y cells n k m offset a b few below is =
    let n_is : n ≡ (n - k) + k = omega arith in
    within o y cells (n - k) k m _ a b (omega arith)
    (brought o y k m offset (n - k) (is ∙ ap (λ z. (offset *ℤ pos z) +ℤ pos m) n_is))
  where
    brought : (o y k m : ℕ) (offset : ℤ) (r : ℕ) → (pos y -ℤ pos o) *ℤ pos k ≡ (offset *ℤ pos (r + k)) +ℤ pos m →
        (pos o *ℤ pos r) +ℤ (pos y *ℤ pos k) ≡ ((pos o +ℤ offset) *ℤ pos (r + k)) +ℤ pos m
    brought o y k m offset r e = omega (
      arith,
      ints,
      e,
      rest_times (pos y) (pos o) (pos k),
      sum_times (pos o) offset (pos (r + k)),
    )

-- where a ray crosses a line past the centre of cell c, cell c + 1 exists
pub next_inside : (o y cells c n k m : ℕ) (offset : ℤ) → o < cells → y < cells → k ≤ n → 0 < m →
    (pos y -ℤ pos o) *ℤ pos k ≡ (offset *ℤ pos n) +ℤ pos m → pos c ≡ pos o +ℤ offset → c + 1 < cells
next_inside o y cells c n k m offset a b few part is at =
    let r = n - k in
    let n_is : n ≡ r + k = omega arith in
    let there = located o y c r k m offset (is ∙ ap (λ z. (offset *ℤ pos z) +ℤ pos m) n_is) at in
    elim (cases_lt (c + 1) cells) [
      | inl h ↦ h
      | inr past ↦ absurd (omega (
        arith,
        there,
        mul-le o r (cells - 1) r (omega arith) (omega arith),
        mul-le y k (cells - 1) k (omega arith) (omega arith),
        mul-le (cells - 1) (r + k) c (r + k) (omega arith) (omega arith),
      ))
    ]

-- `low_onward` in natural numbers: offset a - b, slopes (j - l) / n and (i - h) / m
onward : (a b j l i h n m k : ℕ) → 0 < n → j * m + h * n ≤ i * n + l * m → a * n + l * k ≤ j * k + b * n →
    a * m + h * k ≤ i * k + b * m
onward a b j l i h n m k some slope low = elim (cases_lt (i * k + b * m) (a * m + h * k)) [
  | inl past ↦ absurd (omega (
    arith,
    mul-le (i * k + b * m + 1) n (a * m + h * k) n (omega arith) (omega arith),
    mul-le (a * n + l * k) m (j * k + b * n) m low (omega arith),
    mul-le (j * m + h * n) k (i * n + l * m) k slope (omega arith),
  ))
  | inr is ↦ is
]

onward_past : (a b j l i h n m k : ℕ) → 0 < m → j * m + h * n ≤ i * n + l * m → a * n + l * k < j * k + b * n →
    a * m + h * k < i * k + b * m
onward_past a b j l i h n m k some slope low = elim (cases_lt (a * m + h * k) (i * k + b * m)) [
  | inl is ↦ is
  | inr not ↦ absurd (omega (
    arith,
    mul-le (i * k + b * m) n (a * m + h * k) n not (omega arith),
    mul-le (a * n + l * k + 1) m (j * k + b * n) m (omega arith) (omega arith),
    mul-le (j * m + h * n) k (i * n + l * m) k slope (omega arith),
  ))
]

back_from : (a b j l i h n m k : ℕ) → 0 < n → j * m + h * n ≤ i * n + l * m → i * k + b * m < a * m + h * k →
    j * k + b * n < a * n + l * k
back_from a b j l i h n m k some slope high = elim (cases_lt (j * k + b * n) (a * n + l * k)) [
  | inl is ↦ is
  | inr not ↦ absurd (omega (
    arith,
    mul-le (i * k + b * m + 1) n (a * m + h * k) n (omega arith) (omega arith),
    mul-le (a * n + l * k) m (j * k + b * n) m not (omega arith),
    mul-le (j * m + h * n) k (i * n + l * m) k slope (omega arith),
  ))
]

-- let slope i / m be no less than j / n. If the ray of slope j / n crosses line k at `offset` or
-- beyond, so does the ray of slope i / m.
pub low_onward : (offset j i : ℤ) (n m k : ℕ) → 0 < n → (j *ℤ pos m) ≤ℤ (i *ℤ pos n) →
    (offset *ℤ pos n) ≤ℤ (j *ℤ pos k) → (offset *ℤ pos m) ≤ℤ (i *ℤ pos k)
low_onward offset j i n m k some slope low =
    let is =
    onward (up offset) (down offset) (up j) (down j) (up i) (down i) n m k some (omega (arith, ints, slope))
    (omega (arith, ints, low)) in
    omega (arith, ints, is)

pub past_onward : (offset j i : ℤ) (n m k : ℕ) → 0 < m → (j *ℤ pos m) ≤ℤ (i *ℤ pos n) →
    (offset *ℤ pos n) <ℤ (j *ℤ pos k) → (offset *ℤ pos m) <ℤ (i *ℤ pos k)
past_onward offset j i n m k some slope low =
    let is =
    onward_past (up offset) (down offset) (up j) (down j) (up i) (down i) n m k some (omega (arith, ints, slope))
    (omega (arith, ints, low)) in
    omega (arith, ints, is)

pub high_back : (offset j i : ℤ) (n m k : ℕ) → 0 < n → (j *ℤ pos m) ≤ℤ (i *ℤ pos n) →
    (i *ℤ pos k) <ℤ (offset *ℤ pos m) → (j *ℤ pos k) <ℤ (offset *ℤ pos n)
high_back offset j i n m k some slope high =
    let is =
    back_from (up offset) (down offset) (up j) (down j) (up i) (down i) n m k some (omega (arith, ints, slope))
    (omega (arith, ints, high)) in
    omega (arith, ints, is)
