use Rattle.sight.specs.Hiding.{AreRays}
use Rattle.sight.proofs.family.Family.gather.Given as goal

abbrev pub invariant-loop-line : goal.invariant-loop-line
invariant-loop-line l = AreRays l.self l.extent l.flags l.line 0 l.rays.items
