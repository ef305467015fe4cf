-- For targets beyond a line, the pieces that the code pushes make the old horizon, raised to the
-- line's ground. A piece is one ramp for successive targets; a line is a column or row on one side
-- of the observer. A ray leads from the observer to a target, seen from above.
use Rattle.std.proofs.Common.{arith, refl, ap, negsuc, ◌∙◌, ◌≡◌, ℕ, ◌+◌, ◌-◌, ◌*◌, ◌<◌, ◌≤◌, ℤ, pos, ◌+ℤ◌, ◌-ℤ◌, ◌*ℤ◌, ◌≤ℤ◌, ◌<ℤ◌, subst, true, false, if◌then◌else◌, List, [], Option, Some, inl, inr}
use Rattle.std.specs.Prelude.{slice_get}
use Rattle.std.proofs.lemmas.Bool.{cases_lt}
use Rattle.std.proofs.lemmas.Int.{ints}
use Rattle.std.proofs.lemmas.Nat.{mul-le}
use Rattle.horizons.specs.declared.target.Target.{Target}
use Rattle.horizons.specs.declared.ramp.Ramp.{Ramp}
use Rattle.horizons.specs.declared.horizon.Piece.{Piece}
use Rattle.horizons.specs.Horizons.{AreTargets, IsTarget, IsSlopeUpTo, IsPushed, IsOver, IsRampAt, target_count, ramp_at, is_ramp_above}
use Rattle.horizons.specs.Merging.{IsGreaterPushed, greater_at}
use Rattle.horizons.proofs.Hiding.{greater_hides, greater_is_ramp, either_hides}
use Rattle.horizons.proofs.Straight.{slope_up}
use Rattle.sight.specs.Sweep.{PassesBefore, AreBefore, Passes, PassesAmong, IsShadow, IsHiddenOn, IsClear, AreClear, Raises, RaisesBelow, cleared_to, IsFamily, IsAtCell}
use Rattle.sight.specs.declared.family.Family.{Family}
use Rattle.sight.specs.declared.family.Span.{Span}
use Rattle.sight.proofs.Products.{rest_times}
use Rattle.sight.proofs.Rays.{low_onward, high_back}

pub grows : (a b : ℤ) (n : ℕ) → a ≤ℤ b → (a *ℤ pos n) ≤ℤ (b *ℤ pos n)
grows a b n h = by (b -ℤ a) refl
  where
    by : (d : ℤ) → d ≡ b -ℤ a → (a *ℤ pos n) ≤ℤ (b *ℤ pos n)
    by (pos m) e = omega (arith, ints, rest_times b a (pos n), ap (λ z. z *ℤ pos n) e)
    by (negsuc m) e = absurd (omega (arith, ints, e, h))

-- if the ray to target m passes line k before the cell at `offset`, so do the rays to all targets
-- of lower index
pub before_to : (targets : List Target) (k m : ℕ) (offset : ℤ) (u : Target) → AreTargets targets →
    slice_get targets m ≡ Some u → PassesBefore k offset u → AreBefore targets k offset (m + 1)
before_to targets k m offset u are at_m before i t below at_i =
    high_back offset t.offset u.offset _ u.line k (are.each i t at_i).line.0
    (slope_up targets i m t u are (omega arith) at_i at_m) before

-- let the ray to target `from` pass the cell at `offset`. If this ray or a later one crosses line k
-- before the cell at `last + 1`, the ray passes among cells `offset` to `last`.
pub passes_onward : (targets : List Target) (k from end i : ℕ) (offset last : ℤ) (u t : Target) → AreTargets targets →
    slice_get targets from ≡ Some u → Passes k offset u → AreBefore targets k (last +ℤ pos 1) end → from ≤ i → i < end →
    slice_get targets i ≡ Some t → PassesAmong k offset last t
passes_onward targets k from end i offset last u t are at_u passes before low high at_t = record {
  low = low_onward offset u.offset t.offset _ t.line k (are.each from u at_u).line.0
      (slope_up targets from i u t are low at_u at_t) passes.low;
  high = before i t high at_t;
}

-- a ray that passes the cell at `offset` passes among the cells from `offset` to `last`, if `last`
-- is not below `offset`
pub passes_before : (k : ℕ) (offset last : ℤ) (t : Target) → offset ≤ℤ last → Passes k offset t →
    PassesAmong k offset last t
passes_before k offset last t up passes = record {
  low = passes.low;
  high = omega (arith, ints, passes.high, grows (offset +ℤ pos 1) (last +ℤ pos 1) t.line (omega (arith, ints, up)));
}

pub none_raised : (cells : List (Option ℤ)) (f : Family) (targets : List Target) (k : ℕ) (highest h : List Piece) →
    h ≡ [] → (target_count h ≡ 0) × RaisesBelow cells f targets k highest 0 h
unfolding target_count
none_raised cells f targets k highest h e = (rw e refl, λ i t below at. absurd (omega arith))

pub more_raised :
    (cells : List (Option ℤ)) (f : Family) (targets : List Target) (k from end : ℕ) (highest : List Piece) (ramp : Ramp)
    (old new : List Piece) → target_count old ≡ from → from < end → IsPushed old end ramp new →
    RaisesBelow cells f targets k highest from old →
    ((i : ℕ) (t : Target) → from ≤ i → i < end → slice_get targets i ≡ Some t → Raises cells f k highest i t ramp) →
    (target_count new ≡ end) × RaisesBelow cells f targets k highest end new
more_raised cells f targets k from end highest ramp old new reach more pushed raised here = (
  omega arith,
  λ i t below at. elim (cases_lt i from) [
    | inl before ↦
        let was = raised i t before at in
        (was.0, pushed.kept i (omega arith) ∙ was.1, was.2)
    | inr after ↦ (ramp, pushed.added i (omega arith) below, here i t after below at)
  ],
)

-- a span's ramp hides, of the span's targets beyond line k, exactly those that line k blocks
pub shown_over :
    (cells : List (Option ℤ)) (f : Family) (targets : List Target) (k from end : ℕ) (span : Span) (u : Target) →
    AreTargets targets → slice_get targets from ≡ Some u →
    ((t : Target) → IsTarget t → IsSlopeUpTo u t → PassesAmong k span.offset span.last t → (span.alone ≡ true → t ≡ u) →
    IsShadow cells f k t span.ramp) →
    ((i : ℕ) (t : Target) → from ≤ i → i < end → slice_get targets i ≡ Some t →
    PassesAmong k span.offset span.last t × (span.alone ≡ true → t ≡ u)) → (i : ℕ) (t : Target) → from ≤ i →
    i < end → slice_get targets i ≡ Some t → IsShadow cells f k t span.ramp
shown_over cells f targets k from end span u are at_u shows over i t low high at =
    let here = over i t low high at in
    shows t (are.each i t at) (slope_up targets from i u t are low at_u at) here.0 here.1

-- the greater of the ground's ramp and the old horizon's ramp at target i raises the horizon there
raised_to : (cells : List (Option ℤ)) (f : Family) (k i : ℕ) (highest : List Piece) (ground ramp : Ramp) (t : Target) →
    ramp_at highest i ≡ Some ramp → IsRampAt ramp t → IsClear cells f k t ramp → ground.clear_to ≡ 0 →
    IsShadow cells f k t ground → Raises cells f k highest i t (greater_at ground ramp t)
raised_to cells f k i highest ground ramp t is is_ramp clear fresh shows = record {
  at = greater_is_ramp ramp ground t is_ramp shows.at;
  clear = elim (is_ramp_above ground ramp t) as (λ b. IsClear cells f (k + 1) t (if b then ground else ramp)) [
    | true ↦ λ j y rise past below. absurd (omega arith)
    | false ↦ λ j y rise past. clear j y rise (omega arith)
  ];
  hides = λ y rise stands later small.
      greater_hides ramp ground t rise is_ramp shows.at ∙ (rw (is, shows.hides y rise stands later small) refl);
}

pub greater_raised :
    (cells : List (Option ℤ)) (f : Family) (targets : List Target) (k from end : ℕ) (highest : List Piece)
    (ground ramp : Ramp) (old new : List Piece) → target_count old ≡ from → from < end → IsOver targets highest →
    AreClear cells f targets k highest → ((i : ℕ) → from ≤ i → i < end → ramp_at highest i ≡ Some ramp) →
    ground.clear_to ≡ 0 → IsGreaterPushed targets ground ramp old end new →
    RaisesBelow cells f targets k highest from old →
    ((i : ℕ) (t : Target) → from ≤ i → i < end → slice_get targets i ≡ Some t → IsShadow cells f k t ground) →
    (target_count new ≡ end) × RaisesBelow cells f targets k highest end new
greater_raised cells f targets k from end highest ground ramp old new reach more over clear is fresh pushed raised shows
    = (
      pushed.reach,
      λ i t below at. elim (cases_lt i from) [
        | inl before ↦
            let was = raised i t before at in
            (was.0, pushed.kept i (omega arith) ∙ was.1, was.2)
        | inr after ↦
            let here = is i after below in (
              greater_at ground ramp t,
              pushed.added i t (omega arith) below at,
              raised_to cells f k i highest ground ramp t here (over.each i t ramp at here) (clear i t ramp at here)
                  fresh (shows i t after below at),
            )
      ],
    )

-- if a ramp of the old horizon hides all that the lines from k to below n block, the raised horizon
-- may keep this ramp, and note n
pub hidden_raised :
    (cells : List (Option ℤ)) (f : Family) (targets : List Target) (k n i from end : ℕ) (highest : List Piece)
    (ramp : Ramp) (t : Target) → IsOver targets highest → ramp_at highest i ≡ Some ramp → k < n →
    ((j : ℕ) → k ≤ j → j < n → IsHiddenOn cells f targets j ramp from end) → from ≤ i → i < end →
    slice_get targets i ≡ Some t → Raises cells f k highest i t (cleared_to ramp n)
hidden_raised cells f targets k n i from end highest ramp t over is some hidden low high at = record {
  at = record { lines = (over.each i t ramp at is).lines; value = (over.each i t ramp at is).value };
  clear = λ j y rise past below. hidden j (omega arith) below i t low high at y rise;
  hides = λ y rise stands later small.
      either_hides _ _ (hidden k (omega arith) some i t low high at y rise stands later) ∙ (rw is refl);
}

-- a ray from cell `at` to cell y, both at least `first`, crosses each line at `first` or beyond
low_side : (first at y k r : ℕ) → first ≤ at → first ≤ y → y * k + at * (r + k) < first * (r + k) + at * k → ⊥
low_side first at y k r a b less = omega (
  arith,
  less,
  mul-le first k y k b (omega arith),
  mul-le first r at r a (omega arith),
)

high_side : (cells at y k r : ℕ) → 0 < k → at < cells → y < cells → cells * (r + k) + at * k ≤ y * k + at * (r + k) → ⊥
high_side cells at y k r some a b more = omega (
  arith,
  more,
  mul-le (y + 1) k cells k (omega arith) (omega arith),
  mul-le (at + 1) r cells r (omega arith) (omega arith),
)

-- a ray that crosses line k before the side's first cell leads to a target not beyond line k
pub passed_low : (f : Family) (k y : ℕ) (t : Target) → IsFamily f → IsAtCell f y t → k < t.line →
    PassesBefore k (pos f.side.first -ℤ pos f.side.at) t → ⊥
passed_low f k y t is stands later before =
    let r = t.line - k in
    let n_is : t.line ≡ r + k = omega arith in
    let left =
    subst (λ (n : ℕ). ((pos y -ℤ pos f.side.at) *ℤ pos k) <ℤ ((pos f.side.first -ℤ pos f.side.at) *ℤ pos n)) n_is
    (subst (λ (a : ℤ). (a *ℤ pos k) <ℤ ((pos f.side.first -ℤ pos f.side.at) *ℤ pos t.line)) stands.offset
    before) in
    low_side _ _ y k r is.first stands.first (omega (
      arith,
      ints,
      left,
      rest_times (pos y) (pos f.side.at) (pos k),
      rest_times (pos f.side.first) (pos f.side.at) (pos (r + k)),
    ))

pub passed_high : (f : Family) (k y : ℕ) (t : Target) → IsFamily f → IsAtCell f y t → 0 < k → k < t.line →
    ((pos f.side.cells -ℤ pos f.side.at) *ℤ pos t.line) ≤ℤ (t.offset *ℤ pos k) → ⊥
passed_high f k y t is stands some later past =
    let r = t.line - k in
    let n_is : t.line ≡ r + k = omega arith in
    let left =
    subst (λ (n : ℕ). ((pos f.side.cells -ℤ pos f.side.at) *ℤ pos n) ≤ℤ ((pos y -ℤ pos f.side.at) *ℤ pos k)) n_is
    (subst (λ (a : ℤ). ((pos f.side.cells -ℤ pos f.side.at) *ℤ pos t.line) ≤ℤ (a *ℤ pos k)) stands.offset
    past) in
    high_side _ _ y k r some is.side stands.side (omega (
      arith,
      ints,
      left,
      rest_times (pos y) (pos f.side.at) (pos k),
      rest_times (pos f.side.cells) (pos f.side.at) (pos (r + k)),
    ))

-- over targets whose rays cross line k before the side's first cell, the raised horizon may begin
-- with any ramp within bounds
pub low_raised :
    (cells : List (Option ℤ)) (f : Family) (targets : List Target) (k end : ℕ) (highest : List Piece) (ramp : Ramp)
    (old new : List Piece) → old ≡ [] → IsFamily f → AreTargets targets → IsPushed old end ramp new →
    AreBefore targets k (pos f.side.first -ℤ pos f.side.at) end → ((t : Target) → IsTarget t → IsRampAt ramp t) →
    ramp.clear_to ≡ 0 → (target_count new ≡ end) × RaisesBelow cells f targets k highest end new
low_raised cells f targets k end highest ramp old new e is are pushed before at fresh =
    let none = none_raised cells f targets k highest old e in (
      omega arith,
      λ i t below at_t. (
        ramp,
        pushed.added i (omega arith) below,
        record {
          at = at t (are.each i t at_t);
          clear = λ j y rise past below. absurd (omega arith);
          hides = λ y rise stands later _. absurd (passed_low f k y t is stands later (before i t below at_t));
        },
      ),
    )

-- over targets whose rays cross line k past the side's last cell, any ramp within bounds may extend
-- the raised horizon
pub high_raised :
    (cells : List (Option ℤ)) (f : Family) (targets : List Target) (k from end : ℕ) (highest : List Piece) (offset : ℤ)
    (u : Target) (ramp : Ramp) (old new : List Piece) → 0 < k → IsFamily f → AreTargets targets →
    slice_get targets from ≡ Some u → Passes k offset u → (pos f.side.cells -ℤ pos f.side.at) ≤ℤ offset →
    target_count old ≡ from → from < end → ((t : Target) → IsTarget t → IsRampAt ramp t) → ramp.clear_to ≡ 0 →
    RaisesBelow cells f targets k highest from old → IsPushed old end ramp new →
    (target_count new ≡ end) × RaisesBelow cells f targets k highest end new
high_raised cells f targets k from end highest offset u ramp old new some is are at_u passes past reach more at fresh
    raised pushed =
    more_raised cells f targets k from end highest ramp old new reach more pushed raised
    (λ i t low high at_t. record {
      at = at t (are.each i t at_t);
      clear = λ j y rise past below. absurd (omega arith);
      hides = λ y rise stands later _.
          let last = pos f.side.cells -ℤ pos f.side.at in
          let here : (last *ℤ pos u.line) ≤ℤ (u.offset *ℤ pos k) = omega (
            arith,
            ints,
            grows last offset u.line past,
          ) in
          let on =
          low_onward last u.offset t.offset _ t.line k (are.each from u at_u).line.0
          (slope_up targets from i u t are low at_u at_t) here in
          absurd (passed_high f k y t is stands some later on);
    })
