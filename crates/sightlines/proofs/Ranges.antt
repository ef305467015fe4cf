-- If a number passes a test, some number passes in each range that has it. If none passes in a
-- range, none does in its parts; if none passes in two adjoining ranges, none does in both joined.
-- Let two tests agree on a range (`any_same`), or on one from 1 that one of them counts backward
-- (`any_back`). Then some number in it passes the one exactly if some number passes the other.
use Rattle.std.proofs.Common.{arith, refl, sym, ap, ◌∙◌, ◌≡◌, ◌+◌, ◌-◌, ◌<◌, ◌≤◌, ℕ, zero, suc, Bool, true, false, get_or, inl, inr}
use Rattle.std.specs.List.{list_any, range_with_len}
use Rattle.std.proofs.lemmas.Bool.{or_from, cases_lt, false_from_ne_true, true_from_ne_false}
use Rattle.std.proofs.lemmas.List.Folds.{list_any_at}
use Rattle.std.proofs.lemmas.List.FromFn.{length-range_with_len, get_or-range_with_len}

pub any_at : (p : ℕ → Bool) (a n k : ℕ) → k < n → p (a + k) ≡ true → list_any p (range_with_len a n) ≡ true
any_at p a n k h here =
    let at : p (get_or (range_with_len a n) k 0) ≡ true = ap p (get_or-range_with_len a n k 0 h) ∙ here in
    list_any_at p (range_with_len a n) k 0 (omega (arith, length-range_with_len a n)) at

pub none_at : (p : ℕ → Bool) (a n k : ℕ) → list_any p (range_with_len a n) ≡ false → a ≤ k → k < a + n → p k ≡ false
none_at p a n k none low high =
    let at : a + (k - a) ≡ k = omega arith in
    false_from_ne_true _ (λ yes.
    absurd (let any = any_at p a n (k - a) (omega arith) (ap p at ∙ yes) in
    cc))

pub none_from : (p : ℕ → Bool) (a n : ℕ) → ((k : ℕ) → a ≤ k → k < a + n → p k ≡ false) →
    list_any p (range_with_len a n) ≡ false
none_from p a zero none = refl
none_from p a (suc n) none =
    or_from _ _ (none a (omega arith) (omega arith))
    (none_from p (a + 1) n (λ k low high. none k (omega arith) (omega arith)))

pub none_joined : (p : ℕ → Bool) (a m b n : ℕ) → b ≡ a + m → list_any p (range_with_len a m) ≡ false →
    list_any p (range_with_len b n) ≡ false → list_any p (range_with_len a (m + n)) ≡ false
none_joined p a m b n e one two =
    none_from p a (m + n) (λ k low high. elim (cases_lt k b) [
      | inl before ↦ none_at p a m k one low (omega arith)
      | inr after ↦ none_at p b n k two after (omega arith)
    ])

pub any_more : (p : ℕ → Bool) (a n : ℕ) → list_any p (range_with_len a n) ≡ false → p (a + n) ≡ false →
    list_any p (range_with_len a (n + 1)) ≡ false
any_more p a n none next = none_joined p a n (a + n) 1 refl none (or_from _ _ next refl)

pub any_within : (p : ℕ → Bool) (a m b n : ℕ) → a ≤ b → b + n ≤ a + m → list_any p (range_with_len b n) ≡ true →
    list_any p (range_with_len a m) ≡ true
any_within p a m b n low high any =
    elim (list_any p (range_with_len a m)) as (λ v. list_any p (range_with_len a m) ≡ v → v ≡ true) [
      | true ↦ λ e. refl
      | false ↦
          λ e.
          let none = none_from p b n (λ k above below. none_at p a m k e (omega arith) (omega arith)) in
          absurd cc
    ] refl

-- for k from 1 to below n, let p k be q (n - k). Some such k passes p exactly if some passes q.
pub any_back : (p q : ℕ → Bool) (n : ℕ) → ((k : ℕ) → 1 ≤ k → k < n → p k ≡ q (n - k)) →
    list_any p (range_with_len 1 (n - 1)) ≡ list_any q (range_with_len 1 (n - 1))
any_back p q n same =
    elim (list_any q (range_with_len 1 (n - 1))) as
    (λ v. list_any q (range_with_len 1 (n - 1)) ≡ v → list_any p (range_with_len 1 (n - 1)) ≡ v) [
      | false ↦ λ e.
          none_from p 1 (n - 1)
          (λ k low high. same k low (omega arith) ∙ none_at q 1 (n - 1) (n - k) e (omega arith) (omega arith))
      | true ↦ λ e.
          true_from_ne_false _ (λ none.
          let never =
          none_from q 1 (n - 1) (λ k low high.
          let back : n - (n - k) ≡ k = omega arith in
          ap q (sym back) ∙ sym (same (n - k) (omega arith) (omega arith)) ∙
          none_at p 1 (n - 1) (n - k) none (omega arith) (omega arith)) in
          absurd cc)
    ] refl

pub any_same : (p q : ℕ → Bool) (a n : ℕ) → ((k : ℕ) → a ≤ k → k < a + n → p k ≡ q k) →
    list_any p (range_with_len a n) ≡ list_any q (range_with_len a n)
any_same p q a zero same = refl
any_same p q a (suc n) same =
    let rest = any_same p q (a + 1) n (λ k low high. same k (omega arith) (omega arith)) in
    rw (same a (omega arith) (omega arith), rest) refl
