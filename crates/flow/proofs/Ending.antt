-- If a path along links ends, it ends after fewer moves than there are nodes, and each move leaves
-- fewer (`moves_left`). A list of known numbers stays right as numbers are written along a path.
use Rattle.std.proofs.Common.{◌≡◌, ℕ, zero, suc, ◌+◌, ◌-◌, ◌<◌, ◌≤◌, ◌⊎◌, inl, inr, cond, eqb, List, length, sym, ap, ◌∙◌, arith, add-zero, ◌≢◌, get_or, set, refl}
use Rattle.std.proofs.lemmas.Bool.{cases_eq, cases_lt, cond-true, cond-false, eq-eqb, ne_eqb}
use Rattle.std.proofs.lemmas.List.{get_or-set_same, get_or-set_other}
use Rattle.std.proofs.Math.ListN.{length-set}
use Rattle.drainage.proofs.Pigeonhole.{pigeonhole}
use Rattle.tile_jobs.specs.Sums.{sum_below}
use Rattle.flow.specs.Streams.{AreStreams, next_node, node_after, end_of}
use Rattle.terrain.specs.StoredCells.{uncounted}
use Rattle.flow.specs.Finding.{AreKnown, IsKnown}
use Rattle.tile_jobs.proofs.Sums.{bit_le, sum_below-same}

-- A sequence whose next value depends on the last alone stays where it stops.
pub stays_from : {X : Type 0} (x : ℕ → X) → ((a b : ℕ) → x a ≡ x b → x (suc a) ≡ x (suc b)) → (k m : ℕ) → k ≤ m →
    x (suc k) ≡ x k → x m ≡ x k
stays_from {X} x step k zero le stop = let z : 0 ≡ k = omega arith in cc
stays_from {X} x step k (suc m) le stop = elim (cases_eq k (suc m)) [
  | inl e ↦ cc
  | inr ne ↦ step m k (stays_from x step k m (omega arith) stop) ∙ stop
]

module _ (x : ℕ → ℕ) (step : (a b : ℕ) → x a ≡ x b → x (suc a) ≡ x (suc b)) where
  again : (a b : ℕ) → x a ≡ x b → (t : ℕ) → x (a + t) ≡ x (b + t)
  again a b same zero = cc (add-zero a, add-zero b)
  again a b same (suc t) =
      let p : a + suc t ≡ suc (a + t) = omega arith in let q : b + suc t ≡ suc (b + t) = omega arith in
      cc (step (a + t) (b + t) (again a b same t))

  -- A sequence that repeats a value by index n, and does not stop before n, never stops.
  never : (n a b : ℕ) → a < b → b ≤ n → x a ≡ x b → ((k : ℕ) → k < n → x (suc k) ≡ x k → ⊥) → (fuel m : ℕ) → m ≤ fuel →
      x (suc m) ≡ x m → ⊥
  never n a b lt le same none zero m few stop = none m (omega arith) stop
  never n a b lt le same none (suc fuel) m few stop = elim (cases_lt m n) [
    | inl l ↦ none m l stop
    | inr far ↦ (let z : b + (m - b) ≡ m = omega arith in
        let back = again a b same _ ∙ ap x z in
        never n a b lt le same none fuel _ (omega arith) (step _ m back ∙ stop ∙ sym back))
  ]

  cases_stop : (n : ℕ) → ((k : ℕ) × (k < n) × (x (suc k) ≡ x k)) ⊎ ((k : ℕ) → k < n → x (suc k) ≡ x k → ⊥)
  cases_stop zero = inr (λ k h _. omega arith)
  cases_stop (suc n) = elim (cases_stop n) [
    | inl r ↦ inl (r.0, omega arith, r.2)
    | inr none ↦ elim (cases_eq (x (suc n)) (x n)) [
      | inl e ↦ inl (n, omega arith, e)
      | inr ne ↦ inr (λ k h. elim (cases_eq k n) [
        | inl e ↦ λ stop. ne (rw e at stop)
        | inr other ↦ none k (omega arith)
      ])
    ]
  ]

  -- A sequence of values below n that stops at all stops within n values.
  pub early_stop : (n : ℕ) → ((k : ℕ) → x k < n) → (m : ℕ) → x (suc m) ≡ x m → (k : ℕ) × (k < n) × (x (suc k) ≡ x k)
  early_stop n below m stop = elim (cases_stop n) [
    | inl r ↦ r
    | inr none ↦ (let count = pigeonhole n (n + 1) x (λ k l. below k) (λ a b lt le same. never n a b lt (omega arith)
        same none m m (omega arith) stop) in
        absurd (omega arith))
  ]

abbrev pub IsStop : List ℕ → ℕ → ℕ → Type 0
IsStop links i k = next_node links (node_after links i k) ≡ node_after links i k

pub inside_along : (links : List ℕ) → ((i : ℕ) → i < length links → next_node links i < length links) → (i : ℕ) →
    i < length links → (k : ℕ) → node_after links i k < length links
inside_along links inside i h zero = h
inside_along links inside i h (suc k) = inside _ (inside_along links inside i h k)

pub node_stays : (links : List ℕ) (i k m : ℕ) → k ≤ m → IsStop links i k → node_after links i m ≡ node_after links i k
node_stays links i = stays_from _ (λ a b e. cc)

pub early_end : (links : List ℕ) → ((i : ℕ) → i < length links → next_node links i < length links) → (i : ℕ) →
    i < length links → (m : ℕ) → IsStop links i m → (k : ℕ) × (k < length links) × IsStop links i k
early_end links inside i h m stop = early_stop _ (λ a b e. cc) _ (inside_along links inside i h) m stop

pub streams_from : (links : List ℕ) → ((i : ℕ) → i < length links → next_node links i < length links) →
    ((i : ℕ) → i < length links → (m : ℕ) × IsStop links i m) → AreStreams links
streams_from links inside stops = record {
  inside = inside;
  ends = λ i h. let s = stops i h in
      let r = early_end links inside i h s.0 s.1 in
      let last = node_stays links i r.0 (length links) (omega arith) r.2 in
      cc;
}

pub node_after-inside : {links : List ℕ} → AreStreams links → (i : ℕ) → i < length links → (k : ℕ) →
    node_after links i k < length links
node_after-inside {links} s = inside_along links s.inside

pub node_after-first : (links : List ℕ) (i k : ℕ) → node_after links (next_node links i) k ≡ node_after links i (suc k)
node_after-first links i zero = refl
node_after-first links i (suc k) = cc (node_after-first links i k)

pub node_after-stays : (links : List ℕ) {i : ℕ} → next_node links i ≡ i → (k : ℕ) → node_after links i k ≡ i
node_after-stays links e zero = refl
node_after-stays links {i} e (suc k) = cc (node_after-stays links e k)

pub end-onward : {links : List ℕ} → AreStreams links → (i : ℕ) → i < length links →
    end_of links (next_node links i) ≡ end_of links i
end-onward {links} s i h = node_after-first links i _ ∙ s.ends i h

-- The path of `node` ends where the path of `from` ends.
abbrev pub SharesEnd : List ℕ → ℕ → ℕ → Type 0
SharesEnd links from node = (node < length links) × (end_of links node ≡ end_of links from)

pub next_on_path : {links : List ℕ} → AreStreams links → (from node : ℕ) {next : ℕ} → next ≡ next_node links node →
    SharesEnd links from node → SharesEnd links from next
next_on_path {links} s from node is on = (omega arith, cc (end-onward s node on.0))

pub end-inside : {links : List ℕ} → AreStreams links → (i : ℕ) → i < length links → end_of links i < length links
end-inside {links} s i h = node_after-inside s i h _

-- The number of moves left on a path.
abbrev pub moves_left : List ℕ → ℕ → ℕ
moves_left links i = sum_below (λ k. cond {A = ℕ} (eqb (node_after links i k) (end_of links i)) 0 1) (length links)

sum_of_next : (f : ℕ → ℕ) (n : ℕ) → sum_below (λ k. f (suc k)) n + f zero ≡ sum_below f n + f n
sum_of_next f zero = refl
sum_of_next f (suc n) = omega (arith, sum_of_next f n)

pub moves_fall : {links : List ℕ} → AreStreams links → (i : ℕ) → i < length links → next_node links i ≢ i →
    moves_left links (next_node links i) + 1 ≡ moves_left links i
moves_fall {links} s i h on =
    let left : ℕ → ℕ = λ k. cond {A = ℕ} (eqb (node_after links i k) (end_of links i)) 0 1 in
    let here : left zero ≡ 1 = cond-false {A =
    ℕ} _ 0 1 (ne_eqb i (end_of links i) (λ e. on (ap (next_node links) e ∙ s.ends i h ∙ sym e))) in
    let last : left (length links) ≡ 0 = cond-true {A = ℕ} _ 0 1 (eq-eqb _ _ refl) in
    let next : moves_left links (next_node links i) ≡ sum_below (λ k. left (suc k)) (length links) =
    sum_below-same _ (λ k. left (suc k)) (length links)
    (λ k _. ap (λ a. cond {A = ℕ} (eqb a (end_of links (next_node links i))) 0 1) (node_after-first links i k) ∙
    ap (λ b. cond {A = ℕ} (eqb (node_after links i (suc k)) b) 0 1) (end-onward s i h)) in
    omega (arith, sum_of_next)

-- one move on a path leaves fewer moves, unless it stays
pub moves_less : {links : List ℕ} → AreStreams links → (node : ℕ) {next : ℕ} → next ≡ next_node links node →
    (next ≡ node → ⊥) → node < length links → moves_left links next < moves_left links node
moves_less {links} s node is on inside =
    omega (arith, ap (moves_left links) is, moves_fall s node inside (λ e. on (cc)))

-- a path ends at the node that is linked to itself
pub ends_here : (links : List ℕ) (from : ℕ) {node next : ℕ} → next ≡ next_node links node → next ≡ node →
    SharesEnd links from node → next ≡ end_of links from
ends_here links from is same on = cc (node_after-stays links (sym is ∙ same) (length links))

-- The moves left, plus 1 while the node's number is unknown. The sum falls as numbers are written
-- along a path.
abbrev pub writes_left : List ℕ → List ℕ → ℕ → ℕ
writes_left links ends i = moves_left links i + cond {A = ℕ} (eqb (get_or ends i 0) uncounted) 1 0

pub writes_fall : {links ends : List ℕ} {number : ℕ → ℕ} (i last : ℕ) → AreStreams links → AreKnown links number ends →
    i < length links → get_or ends i 0 ≡ uncounted → last ≢ uncounted →
    writes_left links (set ends i last) (next_node links i) < writes_left links ends i
writes_fall {links} {ends} i last s f h unknown known =
    let was : cond {A = ℕ} (eqb (get_or ends i 0) uncounted) 1 0 ≡ 1 = cond-true {A = ℕ} _ 1 0 (eq-eqb _ _ unknown) in
    elim (cases_eq (next_node links i) i) [
      | inl e ↦ (let now : cond {A = ℕ} (eqb (get_or (set ends i last) (next_node links i) 0) uncounted) 1 0 ≡
          0 = cond-false {A = ℕ} _ 1 0
          (ne_eqb _ _ (λ u. known (sym (ap (λ n. get_or (set ends i last) n 0) e ∙
          get_or-set_same ends i last 0 (omega arith)) ∙ u))) in
          omega (arith, ap (moves_left links) e))
      | inr on ↦ omega (arith, moves_fall s i h on, bit_le)
    ]

pub known_more : {links ends : List ℕ} {number : ℕ → ℕ} (node end : ℕ) → AreKnown links number ends →
    node < length links → end ≡ number (end_of links node) → AreKnown links number (set ends node end)
known_more {links} {ends} {number} node end f h e = record {
  size = cc (length-set ends node end);
  right = λ i l known. elim (cases_eq i node) [
    | inl s ↦ cc (get_or-set_same ends node end 0 (omega arith))
    | inr ne ↦ let same = get_or-set_other ends node i end 0 ne in same ∙ f.right i l (λ u. known (cc))
  ];
}

-- A node's number is that of the next node on its path.
pub next_number : {links ends : List ℕ} {number : ℕ → ℕ} (node : ℕ) {next : ℕ} → AreStreams links →
    AreKnown links number ends → node < length links → next ≡ next_node links node → IsKnown ends next →
    get_or ends next 0 ≡ number (end_of links node)
next_number {links} {number = number} node {next} s f h is known =
    cc (f.right next (omega arith) known, end-onward s node h)

pub known_same : (ends : List ℕ) (node end : ℕ) → node < length ends → end ≢ uncounted →
    IsKnown (set ends node end) node
known_same ends node end h ne e = ne (cc (get_or-set_same ends node end 0 h))

pub known_still : (ends : List ℕ) (node end : ℕ) → node < length ends → end ≢ uncounted → (i : ℕ) → IsKnown ends i →
    IsKnown (set ends node end) i
known_still ends node end h ne i known = elim (cases_eq i node) [
  | inl s ↦ λ e. known_same ends node end h ne (cc)
  | inr other ↦ λ e. known (cc (get_or-set_other ends node i end 0 other))
]
