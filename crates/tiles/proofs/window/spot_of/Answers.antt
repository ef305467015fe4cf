use Rattle.std.proofs.Common.{arith}
use Rattle.tiles.proofs.window.spot_of.Goals as goal

pub returns : goal.returns
returns c = ((omega arith, omega arith), (omega arith, omega arith))
