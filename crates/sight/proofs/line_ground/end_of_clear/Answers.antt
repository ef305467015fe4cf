use Rattle.std.proofs.Common.{arith, subst, ◌≡◌, ℕ}
use Rattle.std.proofs.lemmas.Bool.{OnTrue_at}
use Rattle.sight.specs.Sweep.{IsHiddenOn}
use Rattle.sight.proofs.line_ground.end_of_clear.Goals as goal

pub returns-then-line-piece : goal.returns-then-line-piece
returns-then-line-piece c =
    (omega arith, λ k low high i t from below at y rise. c.requires.clear i t from below at k y rise low high)

pub returns-in-Some : goal.returns-in-Some
returns-in-Some c = (c.in-Some.ensures.0, c.in-Some.ensures.1 c.args.cells.now c.requires.tops)

pub returns-then-is_ground_below_piece : goal.returns-then-is_ground_below_piece
returns-then-is_ground_below_piece c = (
  omega arith,
  λ k low high.
      let same : c.args.line ≡ k = omega arith in
      subst (λ (n : ℕ).
      IsHiddenOn c.args.cells.now c.args.family c.args.targets.now n c.args.piece.ramp c.args.from
      c.args.piece.end) same
      (OnTrue_at c.if-is_ground_below_piece.true c.is_ground_below_piece.ensures),
)
