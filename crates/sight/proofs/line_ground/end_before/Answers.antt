use Rattle.std.proofs.Common.{arith, ◌+◌, pos}
use Rattle.std.proofs.lemmas.Option.{slice_get-get_or}
use Rattle.horizons.proofs.Sizes.{back_short}
use Rattle.sight.proofs.Laid.{before_to}
use Rattle.sight.proofs.line_ground.end_before.Goals as goal

pub loop-leap-preserved : goal.loop-leap-preserved
loop-leap-preserved c =
    let targets = c.args.targets.now in
    let l = c.loop-leap in
    let next = l.low + l.leap in
    let back = back_short c.args.offset (omega arith) in
    let at = slice_get-get_or targets next (record { offset = pos 0; line = 0 }) (omega arith) in
    rw back (record {
      range = (omega arith, omega arith);
      leap = (omega arith, omega arith);
      before = before_to targets _ next _ _ c.requires.targets at
          ((rw back at c.is_before.ensures).0 c.if-not-is_before.false);
    })

pub returns-then-not-is_before-clause-before : goal.returns-then-not-is_before-clause-before
returns-then-not-is_before-clause-before c = rw (back_short c.args.offset (omega arith)) at c.bisect.ensures.before

pub returns-clause-before : goal.returns-clause-before
returns-clause-before c = rw (back_short c.args.offset (omega arith)) at c.bisect-2.ensures.before
