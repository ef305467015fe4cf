use Rattle.std.proofs.Common.{◌≡◌, ◌-◌, ◌*◌, ℕ, subst, arith}
use Rattle.sight.specs.Flags.{AreFlagsBelow, IsFlagOf}
use Rattle.sight.proofs.tile.ViewshedInput.set_flags.Goals as goal

pub loop-row-init : goal.loop-row-init
loop-row-init c =
    let none : c.args.bounds.top - c.args.bounds.top ≡ 0 = omega arith in
    rw none (record { size = c.requires.size; each = λ p inside below. absurd (omega arith) })

pub returns : goal.returns
returns c =
    let self = c.args.self.now in
    let b = c.args.bounds in
    let all : c.loop-row.row - b.top ≡ b.rows = omega arith in
    subst (λ (n : ℕ).
    AreFlagsBelow b
    (IsFlagOf c.args.check self.grid.now.terrain c.args.observer.now self.target_height self.radius)
    (n * b.cols) c.loop-row.flags) all c.loop-row.invariant
