-- In a list of joins sorted by labels and then by height, the first join of each pair of labels is
-- its lowest.
use Rattle.terrain.proofs.Orders.{trans}
use Rattle.std.proofs.Common.{◌≡◌, ℕ, ◌+◌, ◌-◌, ◌<◌, ◌≤◌, ◌⊎◌, inl, inr, ◌≤ℤ◌, false, List, [], ◌∷◌, ◌++◌, length, get_or, ◌∙◌, sym, subst, refl, arith}
use Rattle.std.specs.Ordering.{nat_cmp, int_cmp, ordering_then, is_lt}
use Rattle.std.specs.declared.cmp.Ordering.{Ordering}
use Rattle.std.specs.List.{Contains}
use Rattle.std.specs.List.Sorted.{IsSorted, IsPermutation}
use Rattle.std.proofs.lemmas.Int.{ints, by_lt_z}
use Rattle.std.proofs.lemmas.Bool.{cases_eq, cases_lt, cases_order}
use Rattle.std.proofs.lemmas.List.{get_or_append_left, get_or_push, length_push, get_or_default}
use Rattle.std.proofs.lemmas.List.Elements.{Contains-append_left, Contains-push, Contains-push_cases, Contains-get_or}
use Rattle.std.proofs.lemmas.List.Sorted.{Contains-permutation, IsPermutation-sym, ranks_by, sorted_far}
use Rattle.std.proofs.lemmas.Cmp.{nat_cmp_total, int_cmp_total, on_total, then_total}
use Rattle.std.specs.Cmp.{IsTotalOrder}
use Rattle.fill.specs.Gathering.{Covered, IsBefore, AreLowest, IsRepeat}
use Rattle.fill.specs.declared.spill_graph.Join.{Join}

abbrev pub join_order : Join → Join → Ordering
join_order x y = ordering_then (nat_cmp x.from y.from) (ordering_then (nat_cmp x.to y.to) (int_cmp x.height y.height))

abbrev pub NotAbove : Join → Join → Type 0
NotAbove x y = (x.from < y.from) ⊎ ((x.from ≡ y.from) × ((x.to < y.to) ⊎ ((x.to ≡ y.to) × (x.height ≤ℤ y.height))))

module _ (x y : Join) where
  pub not_above : is_lt (join_order y x) ≡ false → NotAbove x y
  not_above e = elim (cases_order _ _) [
    | inr other ↦ elim other [ inl less ↦ inl less | inr more ↦ absurd (grind arith) ]
    | inl same ↦ inr (
      same,
      elim (cases_order _ _) [
        | inr other ↦ elim other [ inl less ↦ inl less | inr more ↦ absurd (grind arith) ]
        | inl same_to ↦ inr (same_to, by_lt_z _ _ (λ less. absurd (grind arith)) (λ h. h))
      ],
    )
  ]

  before_trans : (z : Join) → NotAbove x y → IsBefore y z → IsBefore x z
  before_trans z (inl a) (inl b) = inl (omega arith)
  before_trans z (inl a) (inr b) = inl (omega arith)
  before_trans z (inr a) (inl b) = inl (omega arith)
  before_trans z (inr (e, inl a)) (inr (f, b)) = inr (e ∙ f, omega arith)
  before_trans z (inr (e, inr a)) (inr (f, b)) = inr (e ∙ f, omega arith)

  -- Sorted joins with different labels are in the order of their labels.
  before_from : NotAbove x y → (x.from ≡ y.from → x.to ≡ y.to → ⊥) → IsBefore x y
  before_from (inl a) differ = inl a
  before_from (inr (e, inl a)) differ = inr (e, a)
  before_from (inr (e, inr a)) differ = absurd (differ e a.0)

abbrev pub AreOrdered : List Join → Type 0
AreOrdered joins = (m n : ℕ) (d : Join) → m ≤ n → n < length joins → NotAbove (get_or joins m d) (get_or joins n d)

join_order_total : IsTotalOrder join_order
join_order_total =
    then_total (on_total (λ j. j.from) nat_cmp_total)
    (then_total (on_total (λ j. j.to) nat_cmp_total) (on_total (λ j. j.height) int_cmp_total))

pub ordered : (joins : List Join) → IsSorted join_order joins → AreOrdered joins
ordered joins sorted m n d low below =
    not_above _ _
    (sorted_far (λ x y. is_lt (join_order x y)) (ranks_by join_order_total (λ j. j)) joins sorted m n d low below)

-- Of each pair of labels in the first i joins, the lowest join is kept, in the order of the labels.
pub record HasKept (joins : List Join) (i : ℕ) (lowest : List Join) : Type 0 where
  pub only : (j : Join) → Contains lowest j → (k : ℕ) × (k < i) × (get_or joins k j ≡ j)
  pub every : (k : ℕ) (d : Join) → k < i → Covered lowest (get_or joins k d)
  pub rising : (m n : ℕ) (d : Join) → m < n → n < length lowest →
      IsBefore (get_or lowest m d) (get_or lowest n d)

module _ {joins lowest : List Join} where
  -- If join i has the labels of the join before it, the joins kept do not change.
  pub kept_same : {i : ℕ} → AreOrdered joins → i < length joins → HasKept joins i lowest → IsRepeat joins i →
      HasKept joins (i + 1) lowest
  kept_same {i} order below s repeat = record {
    only = λ j h. let was = s.only j h in (was.0, omega arith, was.2);
    every = λ k d low. elim (cases_eq k i) [
      | inr other ↦ s.every k d (omega arith)
      | inl same ↦
          let was = s.every (i - 1) d (omega arith) in
          let ends = repeat.1 d in
          subst (λ n. Covered lowest (get_or joins n d)) (sym same) (
            was.0,
            was.1,
            was.2 ∙ ends.0,
            was.3 ∙ ends.1,
            trans _ _ _ was.4 (height_up (get_or joins (i - 1) d) (get_or joins i d)
                (order (i - 1) i d (omega arith) below) ends.0 ends.1),
          )
    ];
    rising = s.rising;
  } where
    height_up : (x y : Join) → NotAbove x y → x.from ≡ y.from → x.to ≡ y.to → x.height ≤ℤ y.height
    height_up x y (inl a) e f = absurd (omega arith)
    height_up x y (inr (g, inl a)) e f = absurd (omega arith)
    height_up x y (inr (g, inr a)) e f = a.1

  -- If join i does not have the labels of the join before it, join i is kept too.
  pub kept_more : {i : ℕ} {x : Join} → AreOrdered joins → i < length joins → x ≡ get_or joins i x →
      HasKept joins i lowest → (IsRepeat joins i → ⊥) → HasKept joins (i + 1) (lowest ++ x ∷ [])
  kept_more {i} {x} order below is s fresh = record {
    only = λ j h. elim (Contains-push_cases lowest x j h) [
      | inl was ↦ let at = s.only j was in (at.0, omega arith, at.2)
      | inr same ↦ (i, omega arith, sym (at_i j) ∙ same)
    ];
    every = λ k d low. elim (cases_eq k i) [
      | inr other ↦ let was = s.every k d (omega arith) in
          (was.0, Contains-append_left lowest _ was.0 was.1, was.2, was.3, was.4)
      | inl same ↦
          subst (λ n. Covered (lowest ++ x ∷ []) (get_or joins n d)) (sym same)
          (subst (Covered (lowest ++ x ∷ [])) (at_i d) (x, Contains-push lowest x, refl, refl, omega (arith, ints)))
    ];
    rising = λ m n d low high. elim (cases_lt n (length lowest)) [
      | inl inside ↦
          rw (get_or_append_left lowest _ d m (omega (arith, low, inside)))
          (subst (IsBefore (get_or lowest m d)) (sym (get_or_append_left lowest _ d n inside))
          (s.rising m n d low inside))
      | inr last ↦
          let end : length lowest ≡ n = omega (arith, high, last, length_push lowest x) in
          rw (get_or_append_left lowest _ d m (omega (arith, low, end)))
          (subst (IsBefore (get_or lowest m d)) (sym (get_or_push lowest x d n end))
          (earlier _ (Contains-get_or lowest m d (omega (arith, low, end)))))
    ];
  } where
    at_i : (d : Join) → x ≡ get_or joins i d
    at_i d = is ∙ get_or_default joins i x d below

    move : (k : ℕ) (j d : Join) → (get_or joins (i - 1) j).from ≡ (get_or joins i j).from →
        (get_or joins (i - 1) d).from ≡ (get_or joins i d).from
    move k j d e = cc (get_or_default joins (i - 1) d j (omega (arith, below)), get_or_default joins i j d below)

    move_to : (k : ℕ) (j d : Join) → (get_or joins (i - 1) j).to ≡ (get_or joins i j).to →
        (get_or joins (i - 1) d).to ≡ (get_or joins i d).to
    move_to k j d e = cc (get_or_default joins (i - 1) d j (omega (arith, below)), get_or_default joins i j d below)

    earlier : (j : Join) → Contains lowest j → IsBefore j x
    earlier j h =
        let at = s.only j h in
        let before_x : (0 < i) → IsBefore (get_or joins (i - 1) j) x =
        λ pos. rw (at_i j) (before_from (get_or joins (i - 1) j) (get_or joins i j)
        (order (i - 1) i j (omega arith) below)
        (λ e f. fresh (pos, λ d. (move (i - 1) j d e, move_to (i - 1) j d f)))) in
        before_trans j (get_or joins (i - 1) j) x
        (subst (λ y. NotAbove y (get_or joins (i - 1) j)) at.2 (order at.0 (i - 1) j (omega arith) (omega arith)))
        (before_x (omega arith))

  pub all_kept : {given : List Join} → IsPermutation given joins → HasKept joins (length joins) lowest →
      AreLowest given lowest
  all_kept {given} perm s = record {
    only = λ j h. let at = s.only j h in
        Contains-permutation joins given j (IsPermutation-sym given joins perm) (at.0, at.1, at.2);
    every = λ j h. let there = Contains-permutation given joins j perm h in
        rw there.2 at (s.every there.0 j there.1);
    rising = s.rising;
  }
