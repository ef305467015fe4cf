use Rattle.std.proofs.Common.{arith}
use Rattle.sight.proofs.Gathered.{all_gathered}
use Rattle.sight.proofs.family.Family.gather.Goals as goal

pub returns-clause-few : goal.returns-clause-few
returns-clause-few c = omega arith

pub returns-clause-rays : goal.returns-clause-rays
returns-clause-rays c =
    all_gathered _ _ _ _ _ (omega arith) (λ m crosses. omega (arith, c.end_line.ensures.end m crosses))
    c.loop-line.invariant

pub gather_line-requires-clause-line : goal.gather_line-requires-clause-line
gather_line-requires-clause-line c = c.end_line.ensures.lines c.loop-line.line (omega arith) (omega arith)
