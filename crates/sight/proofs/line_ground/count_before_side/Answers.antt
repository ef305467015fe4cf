use Rattle.std.proofs.Common.{◌≡◌, ◌∙◌, ◌<◌, ℕ, zero, suc, pos, false, sym, arith, List, length, get_or, Some}
use Rattle.std.specs.Prelude.{◌==◌, slice_get}
use Rattle.std.proofs.lemmas.Option.{slice_get-get_or}
use Rattle.horizons.specs.declared.target.Target.{Target}
use Rattle.horizons.proofs.Sizes.{back_short}
use Rattle.sight.proofs.Laid.{before_to}
use Rattle.sight.proofs.line_ground.count_before_side.Goals as goal

some : (n : ℕ) → (n == 0) ≡ false → 0 < n
some zero e = absurd cc
some (suc n) e = omega arith

first_is : (targets : List Target) → (length targets == 0) ≡ false →
    slice_get targets 0 ≡ Some (get_or targets 0 (record { offset = pos 0; line = 0 }))
first_is targets e = slice_get-get_or targets 0 (record { offset = pos 0; line = 0 }) (some _ e)

pub is_before-requires-clause-target : goal.is_before-requires-clause-target
is_before-requires-clause-target c =
    c.requires.targets.each 0 _ (first_is c.args.targets.now (sym c.is_empty.ensures ∙ c.if-is_empty.false))

pub end_before-requires-clause-before : goal.end_before-requires-clause-before
end_before-requires-clause-before c =
    let first = c.first_offset-first.result in
    let back = back_short first (omega arith) in
    rw back (before_to _ _ 0 first _ c.requires.targets
    (first_is c.args.targets.now (sym c.is_empty.ensures ∙ c.if-is_empty.false))
    ((rw back at c.is_before.ensures).0 c.if-not-is_before.false))

pub returns-clause-before : goal.returns-clause-before
returns-clause-before c =
    let back = back_short c.first_offset-first.result (omega (arith, c.first_offset-first.ensures.small)) in
    rw (back, c.first_offset-first.ensures.value) at c.end_before.ensures.before
