use Rattle.std.proofs.Common.{arith, subst, ◌≡◌, ℕ}
use Rattle.sight.specs.Sweep.{HidesBefore}
use Rattle.sight.proofs.sweep.Sweep.pass_lines.Goals as goal

pub returns : goal.returns
returns c =
    let all : c.loop-line.line ≡ c.args.to = omega arith in
    subst (λ (n : ℕ). HidesBefore c.args.cells.now c.args.family c.args.targets.now n c.loop-line.self.highest) all
    c.loop-line.invariant
