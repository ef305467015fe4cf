use Rattle.std.proofs.Common.{arith, sym, ap, subst, ◌∙◌, ◌≡◌, pos, ◌+ℤ◌}
use Rattle.std.specs.Prelude.{slice_get}
use Rattle.std.proofs.lemmas.Int.{ints}
use Rattle.std.proofs.lemmas.Option.{slice_get-get_or, same_Some}
use Rattle.horizons.specs.declared.target.Target.{Target}
use Rattle.horizons.proofs.Sizes.{back_short}
use Rattle.sight.specs.Sweep.{PassesAmong}
use Rattle.sight.proofs.Laid.{before_to, passes_before, passes_onward}
use Rattle.sight.proofs.line_ground.end_of.Goals as goal

pub returns-then-span-clause-over : goal.returns-then-span-clause-over
returns-then-span-clause-over c i u t low high at_u at =
    let i_is : i ≡ c.args.from = omega arith in
    let same = same_Some t u (sym at ∙ ap (slice_get c.args.targets.now) i_is ∙ at_u) in
    let P : Target → Type 0 = λ v. PassesAmong c.args.line c.args.span.offset c.args.span.last v in
    (subst P (sym same) (passes_before _ _ _ u c.requires.last.0 (c.requires.passes u at_u)), λ yes. same)

pub end_before-requires-clause-before : goal.end_before-requires-clause-before
end_before-requires-clause-before c =
    let targets = c.args.targets.now in
    let from = c.args.from in
    let last = c.args.span.last in
    let at = slice_get-get_or targets from (record { offset = pos 0; line = 0 }) (omega arith) in
    let next = back_short (last +ℤ pos 1) (omega (arith, ints, c.requires.last)) in
    rw (back_short last (omega (arith, c.requires.last)), next) (before_to targets _ from _ _ c.requires.targets at
    (passes_before _ _ last _ c.requires.last.0 (c.requires.passes _ at)).high)

pub returns-clause-over : goal.returns-clause-over
returns-clause-over c i u t low high at_u at =
    let targets = c.args.targets.now in
    let last = c.args.span.last in
    let next = back_short (last +ℤ pos 1) (omega (arith, ints, c.requires.last)) in
    let before = rw (back_short last (omega (arith, c.requires.last)), next) at c.end_before.ensures.before in (
      passes_onward targets _ _ _ i c.args.span.offset last u t c.requires.targets at_u (c.requires.passes u at_u)
          before low high at,
      λ yes. absurd cc,
    )
