use Rattle.std.proofs.Common.{refl}
use Rattle.sight.proofs.looking.SweepLookup.new.Goals as goal

pub returns : goal.returns
returns c cells f = record { line = refl; hides = c.in_ok-new.ensures cells f; cursor = c.start.ensures _ 0 }
