-- If a node has a property whenever its donors, the other nodes linked to it, have the property,
-- then every node has it. This bounds a node's total: its weight plus all weights upstream.
use Rattle.std.proofs.Common.{◌≡◌, ◌≢◌, ℕ, zero, suc, ◌+◌, ◌<◌, ◌≤◌, Bool, true, false, cond, inl, inr, List, length, get_or, sym, ap, refl, ◌∙◌, arith}
use Rattle.std.proofs.lemmas.Bool.{cases_eq, cases_Bool, cond-true, cond-false, and_from, and_parts, and_right, eq-eqb, ne_eqb, eqb-true, not-true, not_from_true, not_from_false, false_from_ne_true, false≢true}
use Rattle.flow.specs.Streams.{AreStreams, total_within, total, next_node, node_after, leads_to, upstream_sum}
use Rattle.tile_jobs.proofs.Sums.{sum_below-le, sum_below-same, sum_below-add}
use Rattle.flow.proofs.Ending.{IsStop, early_end}

-- n if node j is a donor of node i, that is another node linked to i; else 0.
abbrev pub upstream : List ℕ → ℕ → ℕ → ℕ → ℕ
upstream links j i n = cond (leads_to links j i) n 0

pub leads_parts : (links : List ℕ) (j i : ℕ) → leads_to links j i ≡ true → (next_node links j ≡ i) × (j ≢ i)
leads_parts links j i y = let w = and_parts _ _ y in
    (eqb-true _ _ w.0, λ e. false≢true (sym (not-true _ w.1) ∙ eq-eqb _ _ e))

pub leads_from : (links : List ℕ) (j : ℕ) {i : ℕ} → next_node links j ≡ i → j ≢ i → leads_to links j i ≡ true
leads_from links j e ne = and_from _ _ (eq-eqb _ _ e) (not_from_false _ (ne_eqb _ _ ne))

pub leads_end : (links : List ℕ) {node : ℕ} (i : ℕ) → next_node links node ≡ node → leads_to links node i ≡ false
leads_end links {node} i e = false_from_ne_true _ (λ y. let w = leads_parts links node i y in w.1 (cc))

pub leads_self : (links : List ℕ) (i : ℕ) → leads_to links i i ≡ false
leads_self links i = and_right _ _ (not_from_true _ (eq-eqb i i refl))

module _ {links : List ℕ} (streams : AreStreams links) (P : ℕ → ℕ → Type 0) (step : (k i : ℕ) → i < length links →
    ((j : ℕ) → j < length links → leads_to links j i ≡ true → P k j) → P (suc k) i) where
  -- k moves along links from `from` lead to node i, and none of them begins at an end.
  record Chain (k i : ℕ) : Type 0 where
    pub from : ℕ
    pub inside : from < length links
    pub leads : node_after links from k ≡ i
    pub goes : (m : ℕ) → m < k → IsStop links from m → ⊥

  chain_on : (k j i : ℕ) → leads_to links j i ≡ true → Chain k j → Chain (suc k) i
  chain_on k j i on c =
      let l = leads_parts links j i on in
      let there = ap (next_node links) c.leads ∙ l.0 in
      record {
        from = c.from;
        inside = c.inside;
        leads = there;
        goes = λ m lt stop. elim (cases_eq m k) [
          | inl e ↦ l.1 (sym c.leads ∙ sym (rw e at stop) ∙ there)
          | inr ne ↦ c.goes m (omega arith) stop
        ];
      }

  by_chains : (k i : ℕ) → i < length links → (Chain k i → ⊥) → P k i
  by_chains zero i h none = absurd (none (record { from = i; inside = h; leads = refl; goes = λ m lt _. omega arith }))
  by_chains (suc k) i h none = step k i h (λ j l on. by_chains k j l (λ c. none (chain_on k j i on c)))

  -- If P (k + 1) of a node follows from P k of its donors, P (length links) holds of every node.
  pub each_downstream : (i : ℕ) → i < length links → P (length links) i
  each_downstream i h = by_chains _ i h (λ c. let r = early_end links streams.inside _ c.inside _
      (streams.ends _ c.inside) in c.goes _ r.1 r.2)

pub sums_le : (links : List ℕ) (i : ℕ) (f g : ℕ → ℕ) →
    ((j : ℕ) → j < length links → leads_to links j i ≡ true → f j ≤ g j) →
    upstream_sum links f i ≤ upstream_sum links g i
sums_le links i f g le =
    sum_below-le (λ j. upstream links j i (f j)) (λ j. upstream links j i (g j)) (length links)
    (λ j l. elim (cases_Bool (leads_to links j i)) [
      | inl on ↦ omega (arith, cond-true _ (f j) 0 on, cond-true _ (g j) 0 on)
      | inr off ↦ omega (arith, cond-false _ (f j) 0 off, cond-false)
    ])

pub sums_same : (links : List ℕ) (i : ℕ) (f g : ℕ → ℕ) →
    ((j : ℕ) → j < length links → leads_to links j i ≡ true → f j ≡ g j) →
    upstream_sum links f i ≡ upstream_sum links g i
sums_same links i f g same = omega (
  arith,
  sums_le links i f g (λ j l on. omega arith),
  sums_le links i g f (λ j l on. omega arith),
)

-- Let f be at most w plus the sum of f over the donors, and g at least w plus the sum of g over the
-- donors, at each node. Then f ≤ g at each node.
pub totals_le : {links : List ℕ} → AreStreams links → (w f g : ℕ → ℕ) →
    ((i : ℕ) → i < length links → f i ≤ w i + upstream_sum links f i) →
    ((i : ℕ) → i < length links → w i + upstream_sum links g i ≤ g i) → (i : ℕ) → i < length links → f i ≤ g i
totals_le {links} streams w f g low high = each_downstream streams (λ _ i. f i ≤ g i)
    (λ _ i h before. omega (arith, sums_le links i f g before))

-- f of each node is the node's weight plus the sum of f over its donors.
pub record AreTotals (links weights : List ℕ) (f : ℕ → ℕ) : Type 0 where
  pub each : (i : ℕ) → i < length links → f i ≡ get_or weights i 0 + upstream_sum links f i

pub totals_are : {links : List ℕ} (weights : List ℕ) → AreStreams links → AreTotals links weights (total links weights)
totals_are {links} weights streams = record {
  each = each_downstream streams (λ k i. total_within links weights k i ≡ total_within links weights (suc k) i)
      (λ k i h before. omega (arith, sums_same links i _ _ before));
}

pub total_is : {links weights : List ℕ} {f : ℕ → ℕ} → AreStreams links → AreTotals links weights f → (i : ℕ) →
    i < length links → total links weights i ≡ f i
total_is {links} {weights} {f} streams are i h = omega (
  arith,
  totals_le streams (λ j. get_or weights j 0) f (total links weights) (λ j l. omega arith)
      (λ j l. omega (arith, (totals_are weights streams).each j l)) i h,
  totals_le streams (λ j. get_or weights j 0) (total links weights) f
      (λ j l. omega (arith, (totals_are weights streams).each j l)) (λ j l. omega arith) i h,
)

cond_add : (b : Bool) (m n : ℕ) → cond b (m + n) 0 ≡ cond b m 0 + cond b n 0
cond_add true m n = refl
cond_add false m n = refl

-- Totals are linear: those of two weights at each node add up.
pub totals_add : (links v w both : List ℕ) → AreStreams links →
    ((i : ℕ) → i < length links → get_or both i 0 ≡ get_or v i 0 + get_or w i 0) → (i : ℕ) → i < length links →
    total links both i ≡ total links v i + total links w i
totals_add links v w both streams sum = total_is streams (record {
  each = λ i h. omega (
    arith,
    (totals_are v streams).each i h,
    (totals_are w streams).each i h,
    sum_below-same (λ j. upstream links j i (total links v j + total links w j))
        (λ j. upstream links j i (total links v j) + upstream links j i (total links w j)) (length links)
        (λ j l. cond_add _ _ _),
    sum_below-add (λ j. upstream links j i (total links v j)) (λ j. upstream links j i (total links w j))
        (length links),
  );
})
