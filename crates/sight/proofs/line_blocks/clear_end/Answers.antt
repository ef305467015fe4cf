use Rattle.std.proofs.Common.{arith, refl, ap, inl, inr, ◌∙◌, ◌⊎◌, ◌-◌, ◌≤◌, ◌≤ℤ◌, ◌<ℤ◌, pos, None, Some, w64}
use Rattle.std.proofs.lemmas.Bool.{OnTrue_at}
use Rattle.std.proofs.lemmas.Int.{to_z-of_z}
use Rattle.std.proofs.lemmas.Option.{slice_get-get_or}
use Rattle.horizons.specs.Horizons.{ramp_hides}
use Rattle.horizons.proofs.Hiding.{hides_if_not_above}
use Rattle.horizons.proofs.Sizes.{back_short}
use Rattle.sightlines.proofs.Heights.{kept, height_fits}
use Rattle.sight.proofs.ClearLines.{passes_within, up_from, up_to, hides_from, none_near, hidden_by_top}
use Rattle.sight.proofs.line_blocks.clear_end.Goals as goal

pub offset_at-low-requires-clause-target : goal.offset_at-low-requires-clause-target
offset_at-low-requires-clause-target c =
    c.requires.targets.each c.args.from _
    (slice_get-get_or c.args.targets.now c.args.from (record { offset = pos 0; line = 0 }) (omega arith))

pub offset_at-high-requires-clause-target : goal.offset_at-high-requires-clause-target
offset_at-high-requires-clause-target c =
    c.requires.targets.each (c.args.piece.end - 1) _
    (slice_get-get_or c.args.targets.now (c.args.piece.end - 1) (record { offset = pos 0; line = 0 }) (omega arith))

pub constant_ramp-ground-requires-clause-height : goal.constant_ramp-ground-requires-clause-height
constant_ramp-ground-requires-clause-height c = kept _ (c.in-Some.ensures.height c.in-Some.top refl)

pub is_never_above-requires-clause-one : goal.is_never_above-requires-clause-one
is_never_above-requires-clause-one c i t low high at =
    c.constant_ramp-ground.ensures.at t (c.requires.targets.each i t at)

pub returns-in_default : goal.returns-in_default
returns-in_default c = (
  omega arith,
  λ cells are k from to i t low high at y rise stands later blocks.
      let f = c.args.family in
      let last = c.in_ok-last.last in
      let low_o = c.offset_at-low.result in
      let high_o = c.offset_at-high.result in
      let below : k ≤ last = omega arith in
      let ray =
      passes_within _ (record { offset = pos 0; line = 0 }) _ _ k _ _ i low_o high_o t c.requires.targets
      c.requires.range.1 c.offset_at-low.ensures.passes
      (up_from _ _ _ last k c.line_of_low.ensures from below) c.offset_at-high.ensures.passes
      (up_to _ _ _ last k c.line_of_low-2.ensures from below) low high at in
      let near =
      none_near cells f _ _ _ last k low_o high_o None are c.in_ok-last.ensures.2 from below
      (rw (
        back_short low_o (omega (arith, c.offset_at-low.ensures.small)),
        back_short high_o (omega (arith, c.offset_at-high.ensures.small)),
      ) at
      c.in_default.ensures.top) in
      absurd (hidden_by_top cells f k y low_o high_o rise None t c.requires.family stands later ray near blocks),
)

pub returns-then-is_never_above : goal.returns-then-is_never_above
returns-then-is_never_above c = (
  omega arith,
  λ cells are k from to i t low high at y rise stands later blocks.
      let f = c.args.family in
      let last = c.in_ok-last.last in
      let low_o = c.offset_at-low.result in
      let high_o = c.offset_at-high.result in
      let below : k ≤ last = omega arith in
      let ray =
      passes_within _ (record { offset = pos 0; line = 0 }) _ _ k _ _ i low_o high_o t c.requires.targets
      c.requires.range.1 c.offset_at-low.ensures.passes
      (up_from _ _ _ last k c.line_of_low.ensures from below) c.offset_at-high.ensures.passes
      (up_to _ _ _ last k c.line_of_low-2.ensures from below) low high at in
      let top = c.in-Some.top in
      let near =
      none_near cells f _ _ _ last k low_o high_o (Some top) are c.in_ok-last.ensures.2 from below
      (rw (
        back_short low_o (omega (arith, c.offset_at-low.ensures.small)),
        back_short high_o (omega (arith, c.offset_at-high.ensures.small)),
      ) at c.in-Some.ensures.top) in
      let hides =
      hidden_by_top cells f k y low_o high_o rise (Some top) t c.requires.family stands later ray near
      blocks in
      let is_t = c.requires.targets.each i t at in
      let top_back = to_z-of_z w64 top (height_fits top (c.in-Some.ensures.height top refl)) in
      let n = c.line_of_high.result in
      let side : ((f.eye ≤ℤ top) × (n ≤ k)) ⊎ ((top <ℤ f.eye) × (k ≤ n)) =
      elim (rw top_back at c.line_of_high.ensures.value) [
        | inl high ↦ inl (high.0, omega (arith, high.1))
        | inr low ↦ inr (low.0, omega (arith, low.1))
      ] in
      let ground = rw top_back at c.constant_ramp-ground.ensures.ramp in
      hides_if_not_above _ _ t rise (c.constant_ramp-ground.ensures.at t is_t) (c.requires.ramp i t low high at)
      (OnTrue_at c.if-is_never_above.true c.is_never_above.ensures i t low high at)
      (ap (λ r. ramp_hides r t rise) ground ∙
      hides_from f n k top rise t c.line_of_high.ensures.line.0 is_t.line.0 side hides),
)
