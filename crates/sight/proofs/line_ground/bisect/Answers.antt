use Rattle.std.proofs.Common.{arith, ◌+◌, ◌-◌, ◌/◌, pos}
use Rattle.std.proofs.lemmas.Option.{slice_get-get_or}
use Rattle.horizons.proofs.Sizes.{back_short}
use Rattle.sight.proofs.Laid.{before_to}
use Rattle.sight.proofs.line_ground.bisect.Goals as goal

pub loop-past-preserved-then-is_before : goal.loop-past-preserved-then-is_before
loop-past-preserved-then-is_before c =
    let targets = c.args.targets.now in
    let l = c.loop-past in
    let middle = l.before + (l.past - l.before) / 2 in
    let back = back_short c.args.offset (omega arith) in
    let at = slice_get-get_or targets middle (record { offset = pos 0; line = 0 }) (omega arith) in
    rw back (record {
      range = (omega arith, omega arith, omega arith);
      before =
          before_to targets _ middle _ _ c.requires.targets at ((rw back at c.is_before.ensures).0 c.if-is_before.true);
    })
