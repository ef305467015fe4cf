-- The numbers below n are cut into `div_ceil n s` pieces. Piece k has the numbers from k * s to
-- (k + 1) * s - 1, the last piece perhaps fewer. So number x is in piece x / s.
use Rattle.std.proofs.Common.{◌≡◌, ℕ, ◌+◌, ◌-◌, ◌*◌, ◌/◌, ◌<◌, ◌≤◌, sym, ap, ◌∙◌, arith, inl, inr}
use Rattle.std.specs.Int.{div_ceil}
use Rattle.std.proofs.lemmas.Bool.{cases_lt}
use Rattle.std.proofs.lemmas.Grind.{div_ceil_times}
use Rattle.std.proofs.lemmas.Nat.{mul-le, div-mul-add, mod_below, div-add-mod'}

pub piece_begins : (n s k : ℕ) → 0 < s → k < div_ceil n s → k * s < n
piece_begins n s k p h =
    let a = div_ceil_times n s p in
    let b = mul-le (k + 1) s (div_ceil n s) s (omega arith) (omega arith) in
    grind (arith, a.1, b)

pub piece_counts : (n s k : ℕ) → 0 < s → k * s < n → k < div_ceil n s
piece_counts n s k p h =
    elim (cases_lt k (div_ceil n s)) [
      | inl l ↦ l
      | inr g ↦
          let a = div_ceil_times n s p in let b = mul-le (div_ceil n s) s k s g (omega arith) in
          absurd (omega (arith, a.0, b))
    ]

pub piece_of : (n s x : ℕ) → 0 < s → x < n → x / s < div_ceil n s
piece_of n s x p h = piece_counts n s (x / s) p (omega (arith, div-add-mod' x s))

pub pieces_some : (n s : ℕ) → 0 < s → 0 < n → 0 < div_ceil n s
pieces_some n s p h = piece_counts n s 0 p (omega arith)

pub piece_is : (s k x : ℕ) → k * s ≤ x → x < k * s + s → x / s ≡ k
piece_is s k x a b =
    let e : k * s + (x - k * s) ≡ x = omega arith in
    ap (λ n. n / s) (sym e) ∙ div-mul-add k s (x - k * s) (omega arith)

pub piece_from : (s x : ℕ) → 0 < s → (x / s * s ≤ x) × (x < x / s * s + s)
piece_from s x p =
    (omega (arith, div-add-mod' x s), omega (arith, div-add-mod' x s, mod_below x s p))
