use Rattle.std.proofs.Common.{refl}
use Rattle.sight.proofs.looking.SweepLookup.go_to.Goals as goal

pub returns : goal.returns
returns c = record {
  line = refl;
  hides = c.in_ok-pass_lines.ensures;
  cursor = c.start-self.ensures _ c.args.self.now.last;
}
