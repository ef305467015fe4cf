use Rattle.sight.specs.Sweep.{HidesBefore}
use Rattle.sight.proofs.sweep.Sweep.pass_lines.Given as goal

abbrev pub invariant-loop-line : goal.invariant-loop-line
invariant-loop-line l = HidesBefore l.cells l.family l.targets l.line l.self.highest
