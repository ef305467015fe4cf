-- Laws of sums of a function over the numbers below n: comparing them term by term, splitting one,
-- and exchanging the order of two nested sums.
use Rattle.std.proofs.Common.{◌≡◌, ◌≢◌, ℕ, zero, suc, ◌+◌, ◌-◌, ◌<◌, ◌≤◌, Bool, true, false, cond, inl, inr, sym, ap, subst, refl, ◌∙◌, arith, add-one, add-zero}
use Rattle.std.proofs.lemmas.Bool.{cases_eq, cases_lt}
use Rattle.tile_jobs.specs.Sums.{sum_below}

pub sum_below-same : (f g : ℕ → ℕ) (n : ℕ) → ((i : ℕ) → i < n → f i ≡ g i) → sum_below f n ≡ sum_below g n
sum_below-same f g zero same = refl
sum_below-same f g (suc n) same =
    omega (arith, sum_below-same f g n (λ i h. same i (omega arith)), same n (omega arith))

pub sum_below-add : (f g : ℕ → ℕ) (n : ℕ) → sum_below (λ i. f i + g i) n ≡ sum_below f n + sum_below g n
sum_below-add f g zero = refl
sum_below-add f g (suc n) = omega (arith, sum_below-add f g n)

pub sum_below-le : (f g : ℕ → ℕ) (n : ℕ) → ((i : ℕ) → i < n → f i ≤ g i) → sum_below f n ≤ sum_below g n
sum_below-le f g zero le = omega arith
sum_below-le f g (suc n) le = omega (arith, sum_below-le f g n (λ i h. le i (omega arith)), le n (omega arith))

pub cond_same : (b : Bool) → cond {A = ℕ} b 0 0 ≡ 0
cond_same true = refl
cond_same false = refl

pub bit_le : (b : Bool) → cond {A = ℕ} b 1 0 ≤ 1
bit_le true = omega arith
bit_le false = omega arith

pub sum_below-none : (f : ℕ → ℕ) (n : ℕ) → ((i : ℕ) → i < n → f i ≡ 0) → sum_below f n ≡ 0
sum_below-none f zero none = refl
sum_below-none f (suc n) none = omega (arith, sum_below-none f n (λ i h. none i (omega arith)), none n (omega arith))

pub sum_below-few : (f : ℕ → ℕ) (n : ℕ) → ((i : ℕ) → i < n → f i ≤ 1) → sum_below f n ≤ n
sum_below-few f zero le = omega arith
sum_below-few f (suc n) le = omega (arith, sum_below-few f n (λ i h. le i (omega arith)), le n (omega arith))

pub term-le-sum_below : (f : ℕ → ℕ) (n i : ℕ) → i < n → f i ≤ sum_below f n
term-le-sum_below f zero i h = absurd (omega arith)
term-le-sum_below f (suc n) i h = elim (cases_eq i n) [
  | inl e ↦ (let same = ap f e in omega arith)
  | inr ne ↦ omega (arith, term-le-sum_below f n i (omega arith))
]

-- If no term is greater, and term i is less, the sum is less.
pub sum_below-less : (f g : ℕ → ℕ) (n i : ℕ) → i < n → ((j : ℕ) → j < n → f j ≤ g j) → f i < g i →
    sum_below f n < sum_below g n
sum_below-less f g zero i h le less = absurd (omega arith)
sum_below-less f g (suc n) i h le less = elim (cases_eq i n) [
  | inl e ↦ (let here : f n < g n = subst (λ (j : ℕ). f j < g j) e less in
      omega (arith, here, sum_below-le f g n (λ j l. le j (omega arith))))
  | inr ne ↦ omega (arith, le n (omega arith), sum_below-less f g n i (omega arith) (λ j l. le j (omega arith)) less)
]

-- If only term i changes, the sum changes by as much.
pub sum_below-except : (f g : ℕ → ℕ) (n i : ℕ) → i < n → ((j : ℕ) → j < n → j ≢ i → f j ≡ g j) →
    sum_below f n + g i ≡ sum_below g n + f i
sum_below-except f g zero i h same = absurd (omega arith)
sum_below-except f g (suc n) i h same = elim (cases_eq i n) [
  | inl e ↦
      (let rest : sum_below f n ≡ sum_below g n = sum_below-same f g n (λ j l. same j (omega arith) (omega arith)) in
      let here : f i ≡ f n = ap f e in let there : g i ≡ g n = ap g e in omega arith)
  | inr ne ↦ omega (
    arith,
    sum_below-except f g n i (omega arith) (λ j l m. same j (omega arith) m),
    same n (omega arith) (λ e. ne (sym e)),
  )
]

pub some_term : (f : ℕ → ℕ) (n : ℕ) → 0 < sum_below f n → (i : ℕ) × (i < n) × (0 < f i)
some_term f zero h = absurd (omega arith)
some_term f (suc n) h = elim (cases_lt 0 _) [
  | inl l ↦ (n, omega arith, l)
  | inr none ↦ (let r = some_term f n (omega arith) in (r.0, omega arith, r.2))
]

pub sum_more : (f : ℕ → ℕ) (n : ℕ) → sum_below f (n + 1) ≡ sum_below f n + f n
sum_more f n = rw add-one

pub sum_below-split : (f : ℕ → ℕ) (a n : ℕ) → sum_below f (a + n) ≡ sum_below f a + sum_below (λ i. f (a + i)) n
sum_below-split f a zero = rw (add-zero a) (omega arith)
sum_below-split f a (suc n) =
    let next : a + suc n ≡ suc (a + n) = omega arith in
    let rest = sum_below-split f a n in
    rw next (omega arith)

pub sum_below-part : (f : ℕ → ℕ) (k n : ℕ) → k ≤ n → sum_below f k ≤ sum_below f n
sum_below-part f k n le =
    let whole : k + (n - k) ≡ n = omega arith in
    omega (arith, sum_below-split f k (n - k), ap (sum_below f) whole)

pub exchange : (f : ℕ → ℕ → ℕ) (n m : ℕ) →
    sum_below (λ i. sum_below (f i) m) n ≡ sum_below (λ j. sum_below (λ i. f i j) n) m
exchange f zero m = sym (sum_below-none (λ j. 0) m (λ j h. refl))
exchange f (suc n) m =
    ap (λ k. k + sum_below (f n) m) (exchange f n m) ∙ sym (sum_below-add (λ j. sum_below (λ i. f i j) n) (f n) m)

pub one_term : (f : ℕ → ℕ) (n i : ℕ) → i < n → ((j : ℕ) → j < n → j ≢ i → f j ≡ 0) → sum_below f n ≡ f i
one_term f n i h none = omega (arith, sum_below-except f (λ _. 0) n i h none, sum_below-none (λ _. 0) n (λ j l. refl))

pub cond-sum : (b : Bool) (f : ℕ → ℕ) (n : ℕ) →
    cond {A = ℕ} b (sum_below f n) 0 ≡ sum_below (λ c. cond {A = ℕ} b (f c) 0) n
cond-sum true f n = refl
cond-sum false f n = sym (sum_below-none (λ c. 0) n (λ c h. refl))
