use Rattle.sight.specs.Hiding.{AreRays}
use Rattle.sight.proofs.family.Family.gather_line.Given as goal

abbrev pub invariant-loop-cell : goal.invariant-loop-cell
invariant-loop-cell l = AreRays l.fn.self l.extent l.flags l.line l.cell l.rays.items
