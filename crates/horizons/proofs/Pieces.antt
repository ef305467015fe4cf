-- If a target's index is below the target count, some piece ends above the index; the first such
-- piece has the target's ramp. A piece pushed to a horizon is appended, or replaces the last piece
-- if their ramps are equal. Targets covered before keep their ramps; those from there to the new
-- end get the pushed ramp.
use Rattle.std.proofs.Common.{◌≡◌, ℕ, zero, suc, ◌+◌, ◌<◌, ◌≤◌, max, List, [], ◌∷◌, ◌++◌, length, get_or, set, Some, refl, sym, ap, ◌∙◌, arith, inl, inr}
use Rattle.std.specs.Prelude.{slice_get}
use Rattle.std.proofs.lemmas.Bool.{cases_lt}
use Rattle.std.proofs.lemmas.Option.{same_Some, get_or_from_slice_get}
use Rattle.horizons.specs.Horizons.{ramp_at, target_count, IsPushed, AreUpTo}
use Rattle.horizons.specs.declared.horizon.Piece.{Piece}

ramp_at-here : (p : Piece) (ps : List Piece) (i : ℕ) → i < p.end → ramp_at (p ∷ ps) i ≡ Some p.ramp
unfolding ramp_at
ramp_at-here p ps i h = grind arith

ramp_at-later : (p : Piece) (ps : List Piece) (i : ℕ) → p.end ≤ i → ramp_at (p ∷ ps) i ≡ ramp_at ps i
unfolding ramp_at
ramp_at-later p ps i h = grind arith

-- The ramp at target index i is that of the first piece whose `end` is above i.
pub ramp_of_piece : (ps : List Piece) (k : ℕ) (p : Piece) (i : ℕ) → slice_get ps k ≡ Some p →
    ((m : ℕ) (q : Piece) → m < k → slice_get ps m ≡ Some q → q.end ≤ i) → i < p.end → ramp_at ps i ≡ Some p.ramp
ramp_of_piece [] k p i e before h = cc
ramp_of_piece (q ∷ ps) zero p i e before h =
    let same = same_Some q p e in
    ramp_at-here q ps i (rw same h) ∙ ap (λ (z : Piece). Some z.ramp) same
ramp_of_piece (q ∷ ps) (suc k) p i e before h =
    ramp_at-later q ps i (before 0 q (omega arith) refl) ∙
    ramp_of_piece ps k p i e (λ m z less is. before (suc m) z (omega arith) is) h

pub within_count : (ps : List Piece) (k : ℕ) (p : Piece) → slice_get ps k ≡ Some p → p.end ≤ target_count ps
unfolding target_count
within_count [] k p e = cc
within_count (q ∷ ps) zero p e =
    let same : q ≡ p = same_Some q p e in
    rw (← same) (omega arith)
within_count (q ∷ ps) (suc k) p e = omega (arith, within_count ps k p e)

-- If no piece has an `end` above i, the target count is at most i.
pub count_up_to : (ps : List Piece) (k i : ℕ) → length ps ≤ k →
    ((m : ℕ) (q : Piece) → m < k → slice_get ps m ≡ Some q → q.end ≤ i) → target_count ps ≤ i
unfolding target_count
count_up_to [] k i few before = omega arith
count_up_to (q ∷ ps) zero i few before = absurd (omega (arith, few))
count_up_to (q ∷ ps) (suc k) i few before = omega (
  arith,
  before 0 q (omega arith) refl,
  count_up_to ps k i (omega arith) (λ m z less is. before (suc m) z (omega arith) is),
)

-- If no piece before piece k has an `end` above i, and i is below the target count, piece k
-- exists.
pub inside : (ps : List Piece) (k i : ℕ) → AreUpTo ps k i → i < target_count ps → k < length ps
inside ps k i before h = elim (cases_lt k _) [
  | inl is ↦ is
  | inr past ↦ absurd (omega (arith, count_up_to ps k i past before))
]

pub passed : (ps : List Piece) (k i : ℕ) (d : Piece) → AreUpTo ps k i → k < length ps → (get_or ps k d).end ≤ i →
    AreUpTo ps (k + 1) i
passed ps k i d before h ends m p less at = elim (cases_lt m k) [
  | inl first ↦ before m p first at
  | inr not ↦
      let m_is : m ≡ k = omega arith in
      let is = get_or_from_slice_get ps k p d (ap (slice_get ps) (sym m_is) ∙ at) in
      rw is at ends
]

pub ends_above : (ps : List Piece) (k i : ℕ) (d p : Piece) → i < (get_or ps k d).end → slice_get ps k ≡ Some p →
    i < p.end
ends_above ps k i d p h at = rw (get_or_from_slice_get ps k p d at) at h

pub later : (ps : List Piece) (k i j : ℕ) → AreUpTo ps k i → i ≤ j → AreUpTo ps k j
later ps k i j before h m p less at = omega (arith, before m p less at)

added_count : (ps : List Piece) (p : Piece) → target_count (ps ++ p ∷ []) ≡ max (target_count ps) p.end
unfolding target_count
added_count [] p = omega arith
added_count (q ∷ ps) p = omega (arith, added_count ps p)

added_kept : (ps : List Piece) (p : Piece) (i : ℕ) → i < target_count ps → ramp_at (ps ++ p ∷ []) i ≡ ramp_at ps i
unfolding target_count
added_kept [] p i h = absurd (omega arith)
added_kept (q ∷ ps) p i h = elim (cases_lt i _) [
  | inl here ↦ ramp_at-here q _ i here ∙ sym (ramp_at-here q ps i here)
  | inr later ↦ ramp_at-later q _ i later ∙ added_kept ps p i (omega arith) ∙ sym (ramp_at-later q ps i later)
]

added_new : (ps : List Piece) (p : Piece) (i : ℕ) → target_count ps ≤ i → i < p.end →
    ramp_at (ps ++ p ∷ []) i ≡ Some p.ramp
unfolding target_count
added_new [] p i past h = ramp_at-here p [] i h
added_new (q ∷ ps) p i past h = ramp_at-later q _ i (omega arith) ∙ added_new ps p i (omega arith) h

pub pushed : (ps : List Piece) (p : Piece) → IsPushed ps p.end p.ramp (ps ++ p ∷ [])
pushed ps p = record { reach = added_count ps p; kept = added_kept ps p; added = added_new ps p }

-- If piece p replaces a last piece that ends no later, the target count is max (old count) p.end.
longer_count : (ps : List Piece) (k : ℕ) (p q : Piece) → k + 1 ≡ length ps → slice_get ps k ≡ Some q → q.end ≤ p.end →
    target_count (set ps k p) ≡ max (target_count ps) p.end
unfolding target_count
longer_count [] k p q last e h = absurd (omega arith)
longer_count (z ∷ []) zero p q last e h =
    let same : z ≡ q = same_Some z q e in
    rw same (omega arith)
longer_count (z ∷ y ∷ ps) zero p q last e h = absurd (omega arith)
longer_count (z ∷ ps) (suc k) p q last e h = omega (arith, longer_count ps k p q (omega arith) e h)

longer_kept : (ps : List Piece) (k : ℕ) (p q : Piece) (i : ℕ) → k + 1 ≡ length ps → slice_get ps k ≡ Some q →
    q.end ≤ p.end → q.ramp ≡ p.ramp → i < target_count ps → ramp_at (set ps k p) i ≡ ramp_at ps i
unfolding target_count
longer_kept [] k p q i last e h same h_i = absurd (omega arith)
longer_kept (z ∷ []) zero p q i last e h same h_i =
    let z_is = same_Some z q e in
    let z_end = ap (λ (y : Piece). y.end) z_is in
    ramp_at-here p [] i (omega arith) ∙ ap Some (sym same) ∙ ap (λ (y : Piece). Some y.ramp) (sym z_is) ∙
    sym (ramp_at-here z [] i (omega arith))
longer_kept (z ∷ y ∷ ps) zero p q i last e h same h_i = absurd (omega arith)
longer_kept (z ∷ ps) (suc k) p q i last e h same h_i = elim (cases_lt i _) [
  | inl here ↦ ramp_at-here z _ i here ∙ sym (ramp_at-here z ps i here)
  | inr later ↦ ramp_at-later z _ i later ∙ longer_kept ps k p q i (omega arith) e h same (omega arith) ∙
      sym (ramp_at-later z ps i later)
]

longer_new : (ps : List Piece) (k : ℕ) (p q : Piece) (i : ℕ) → k + 1 ≡ length ps → slice_get ps k ≡ Some q →
    target_count ps ≤ i → i < p.end → ramp_at (set ps k p) i ≡ Some p.ramp
unfolding target_count
longer_new [] k p q i last e past h = absurd (omega arith)
longer_new (z ∷ []) zero p q i last e past h = ramp_at-here p [] i h
longer_new (z ∷ y ∷ ps) zero p q i last e past h = absurd (omega arith)
longer_new (z ∷ ps) (suc k) p q i last e past h =
    ramp_at-later z _ i (omega arith) ∙ longer_new ps k p q i (omega arith) e (omega arith) h

pub lengthened : (ps : List Piece) (k : ℕ) (p q : Piece) → k + 1 ≡ length ps → slice_get ps k ≡ Some q → q.end ≤ p.end →
    q.ramp ≡ p.ramp → IsPushed ps p.end p.ramp (set ps k p)
lengthened ps k p q last e h same = record {
  reach = longer_count ps k p q last e h;
  kept = λ i. longer_kept ps k p q i last e h same;
  added = λ i. longer_new ps k p q i last e;
}
